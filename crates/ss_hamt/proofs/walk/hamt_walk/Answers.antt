use Rattle.std.proofs.Common.{◌≤◌, ◌<◌, ◌^◌, length, Some, Ok, Err, subst, arith}
use Rattle.std.proofs.lemmas.Result.{err_from_is_err_and}
use Rattle.std.proofs.lemmas.List.Elements.{All-pop}
use Rattle.ss_node.proofs.Members.{no-items}
use Rattle.ss_node.proofs.Visiting.{stays-ok, stays-held}
use Rattle.ss_hamt.specs.Walks.{WalksNode, IsPending}
use Rattle.ss_hamt.proofs.Walking.{walking-entry, walking-node, walking-fault, walking-end, step-pending, step-smaller}
use Rattle.ss_hamt.proofs.walk.hamt_walk.Goals as goal

pub loop-next-preserved-in-Continue-1 : goal.loop-next-preserved-in-Continue-1
loop-next-preserved-in-Continue-1 g c = record {
  stays = c.loop-next.invariant.stays;
  walking = walking-entry _ _ c.loop-next.pending.items c.pop.new.self.items c.loop-next.pairs c.in-Some.next c.in-Some.ensures.items c.loop-next.invariant.walking c.in-Entry.key c.in-Entry.value _ c.in-Entry.is c.in_ok-push-in-Entry.ensures.ok;
  pending = (All-pop IsPending _ _ (Some c.in-Some.next) c.in-Some.ensures.items c.loop-next.invariant.pending).0;
}

pub loop-next-smaller : goal.loop-next-smaller
loop-next-smaller g c =
    let rest = All-pop IsPending _ _ (Some c.in-Some.next) c.in-Some.ensures.items c.loop-next.invariant.pending in
    let low : c.in-Child.level ≤ 50 = subst IsPending c.in-Child.is rest.1 in
    let few : length c.walk_node.new.pending.items < 2 ^ 64 = omega (arith, c.walk_node.new.pending.ok, c.walk_node.new.pending.small) in
    step-smaller _ c.in-Child.cid c.in-Child.level c.loop-next.pending.items c.pop.new.self.items c.walk_node.new.pending.items c.in-Some.next c.in-Some.ensures.items c.in-Child.is low c.in_ok-walk_node-in-Child.field-0 c.in_ok-walk_node-in-Child.ensures.walks few

pub loop-next-preserved : goal.loop-next-preserved
loop-next-preserved g c =
    let rest = All-pop IsPending _ _ (Some c.in-Some.next) c.in-Some.ensures.items c.loop-next.invariant.pending in
    let low : c.in-Child.level ≤ 50 = subst IsPending c.in-Child.is rest.1 in
    let held = stays-held _ _ _ c.loop-next.invariant.stays in
    let walks = subst (λ held. WalksNode held c.in-Child.cid c.in-Child.level c.pop.new.self.items c.walk_node.new.pending.items (Ok c.in_ok-walk_node-in-Child.field-0)) held c.in_ok-walk_node-in-Child.ensures.walks in
    record {
      stays = stays-ok _ _ _ _ _ c.loop-next.invariant.stays c.in_ok-walk_node-in-Child.ensures.visits;
      walking = walking-node _ _ c.loop-next.pending.items c.pop.new.self.items _ c.in-Some.next c.in-Some.ensures.items c.loop-next.invariant.walking c.in-Child.cid c.in-Child.level c.walk_node.new.pending.items c.in-Child.is walks;
      pending = step-pending _ c.in-Child.cid c.in-Child.level c.loop-next.pending.items c.pop.new.self.items c.walk_node.new.pending.items c.in-Some.next c.in-Some.ensures.items c.in-Child.is low c.in_ok-walk_node-in-Child.field-0 walks rest.0;
    }

pub returns-in_err-walk_node-in-Child-clause-answer : goal.returns-in_err-walk_node-in-Child-clause-answer
returns-in_err-walk_node-in-Child-clause-answer g c =
    let p = err_from_is_err_and c.from_residual-in_err-walk_node-in-Child.result c.from_residual-in_err-walk_node-in-Child.ensures.1 in
    let held = stays-held _ _ _ c.loop-next.invariant.stays in
    let walks = subst (λ held. WalksNode held c.in-Child.cid c.in-Child.level c.pop.new.self.items c.walk_node.new.pending.items (Err c.in_err-walk_node-in-Child.field-0.0)) held c.in_err-walk_node-in-Child.ensures.walks in
    rw (p.1, p.2) (walking-fault _ _ c.loop-next.pending.items c.pop.new.self.items c.loop-next.pairs c.in-Some.next c.in-Some.ensures.items c.loop-next.invariant.walking c.in-Child.cid c.in-Child.level c.walk_node.new.pending.items _ c.in-Child.is walks)

pub returns-clause-answer : goal.returns-clause-answer
returns-clause-answer g c = walking-end _ _ c.loop-next.pending.items _ (no-items c.loop-next.pending.items (omega (arith, c.in_default-pop.ensures.cases, c.loop-next.pending.ok))) c.loop-next.invariant.walking
