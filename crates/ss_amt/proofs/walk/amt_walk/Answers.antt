use Rattle.std.proofs.Common.{Some, Ok, Err, subst, arith}
use Rattle.std.proofs.lemmas.Result.{err_from_is_err_and}
use Rattle.std.proofs.lemmas.List.Elements.{All-pop}
use Rattle.ss_node.proofs.Members.{no-items}
use Rattle.ss_node.proofs.Visiting.{stays-start, stays-ok, stays-held}
use Rattle.ss_amt.specs.Walks.{WalksNode, IsPending}
use Rattle.ss_amt.proofs.Walking.{walking-root, root-fault, walking-node, walking-fault, walking-end, step-pending, step-smaller, root-pending}
use Rattle.ss_amt.proofs.walk.amt_walk.Goals as goal

pub returns-in_err-shape-clause-answer : goal.returns-in_err-shape-clause-answer
returns-in_err-shape-clause-answer g c =
    let p = err_from_is_err_and c.from_residual.result c.from_residual.ensures.1 in
    rw (p.1, p.2) (root-fault _ _ c.new-pending.result.items c.walk_root.new.pending.items c.new-values.result c.walk_root.new.values _ c.in_err-shape.ensures.walks)

pub loop-next-init : goal.loop-next-init
loop-next-init g c =
    let none = c.new-pending.ensures.items in
    let nothing = c.new-values.ensures in
    record {
      stays = stays-ok _ _ _ _ _ (stays-start _ _) c.in_ok-shape.ensures.visits;
      walking = walking-root _ _ c.in_ok-shape.shape _ _ _ _ none nothing c.in_ok-shape.ensures.walks;
      pending = root-pending _ _ c.in_ok-shape.shape _ _ _ _ none c.in_ok-shape.ensures.walks c.in_ok-shape.ensures.fits;
    }

pub walk_node-requires : goal.walk_node-requires
walk_node-requires g c = (All-pop (IsPending c.in_ok-shape.shape.width) _ _ (Some c.in-Some.next) c.in-Some.ensures.items c.loop-next.invariant.pending).1

pub loop-next-smaller : goal.loop-next-smaller
loop-next-smaller g c =
    let held = stays-held _ _ _ c.loop-next.invariant.stays in
    step-smaller _ c.in_ok-shape.shape.width c.in-Some.next c.loop-next.pending.items c.pop.new.self.items c.walk_node.new.pending.items _ _ c.in-Some.ensures.items c.in_ok-walk_node.field-0 c.in_ok-walk_node.ensures.walks

pub loop-next-preserved : goal.loop-next-preserved
loop-next-preserved g c =
    let held = stays-held _ _ _ c.loop-next.invariant.stays in
    let walks = subst (λ held. WalksNode held c.in_ok-shape.shape.width c.in-Some.next c.pop.new.self.items c.walk_node.new.pending.items c.loop-next.values c.walk_node.new.values (Ok c.in_ok-walk_node.field-0)) held c.in_ok-walk_node.ensures.walks in
    let rest = All-pop (IsPending c.in_ok-shape.shape.width) _ _ (Some c.in-Some.next) c.in-Some.ensures.items c.loop-next.invariant.pending in
    record {
      stays = stays-ok _ _ _ _ _ c.loop-next.invariant.stays c.in_ok-walk_node.ensures.visits;
      walking = walking-node _ _ _ c.loop-next.pending.items c.pop.new.self.items c.walk_node.new.pending.items _ _ c.in-Some.next c.in-Some.ensures.items c.loop-next.invariant.walking walks;
      pending = step-pending _ c.in_ok-shape.shape.width c.in-Some.next c.loop-next.pending.items c.pop.new.self.items c.walk_node.new.pending.items _ _ c.in-Some.ensures.items c.in_ok-walk_node.field-0 walks rest.1 rest.0;
    }

pub returns-in_err-walk_node-clause-answer : goal.returns-in_err-walk_node-clause-answer
returns-in_err-walk_node-clause-answer g c =
    let p = err_from_is_err_and c.from_residual-in_err-walk_node.result c.from_residual-in_err-walk_node.ensures.1 in
    let held = stays-held _ _ _ c.loop-next.invariant.stays in
    let walks = subst (λ held. WalksNode held c.in_ok-shape.shape.width c.in-Some.next c.pop.new.self.items c.walk_node.new.pending.items c.loop-next.values c.walk_node.new.values (Err c.in_err-walk_node.field-0.0)) held c.in_err-walk_node.ensures.walks in
    rw (p.1, p.2) (walking-fault _ _ _ c.loop-next.pending.items c.pop.new.self.items c.walk_node.new.pending.items _ c.walk_node.new.values c.in-Some.next c.in-Some.ensures.items c.loop-next.invariant.walking _ walks)

pub returns-clause-answer : goal.returns-clause-answer
returns-clause-answer g c = walking-end _ _ _ c.loop-next.pending.items _ (no-items c.loop-next.pending.items (omega (arith, c.in_default.ensures.cases, c.loop-next.pending.ok))) c.loop-next.invariant.walking
