use Rattle.std.proofs.Common.{◌≡◌, ◌-◌, suc, Err, subst, sym, ◌∙◌, arith}
use Rattle.std.proofs.lemmas.Bool.{ltb-true, ltb-false}
use Rattle.std.proofs.lemmas.Result.{err_from_is_err_and}
use Rattle.ss_node.specs.Blocks.{held_by}
use Rattle.ss_node.proofs.Visiting.{stays-start, stays-ok, stays-held}
use Rattle.ss_amt.specs.{Node.{node_in, slot_of}, Paths.FindsEntry}
use Rattle.ss_amt.proofs.Looking.{Reached, reached-root, reached-none, reached-value, reached-child, reached-fault, root-fault, root-past}
use Rattle.ss_amt.proofs.look_up.amt_get.Goals as goal

pub returns-in_err-shape-clause-answer : goal.returns-in_err-shape-clause-answer
returns-in_err-shape-clause-answer g c =
    let p = err_from_is_err_and c.from_residual.result c.from_residual.ensures.1 in
    rw (p.1, p.2) (root-fault _ _ _ _ c.in_err-shape.ensures.finds)

pub returns-then-not-has-clause-answer : goal.returns-then-not-has-clause-answer
returns-then-not-has-clause-answer g c =
    root-past _ _ _ c.in_ok-shape.shape c.in_ok-shape.root_entry c.in_ok-shape.ensures.finds (ltb-false _ _ (sym c.has.ensures ∙ c.if-not-has.true))

pub loop-height-init : goal.loop-height-init
loop-height-init g c = record {
  low = omega arith;
  stays = stays-ok _ _ _ _ _ (stays-start _ _) c.in_ok-shape.ensures.visits;
  reached = reached-root _ _ _ c.in_ok-shape.shape c.in_ok-shape.root_entry c.in_ok-shape.ensures.finds (ltb-true _ _ (sym c.has.ensures ∙ c.if-not-has.false));
}

pub returns-in_default-clause-answer : goal.returns-in_default-clause-answer
returns-in_default-clause-answer g c =
    let above : c.loop-height.height ≡ suc (c.loop-height.height - 1) = omega arith in
    let reached = subst (λ h. Reached (held_by g.B.Blocks c.args.blocks.now) c.args.root.now c.args.index c.in_ok-shape.shape.width h c.loop-height.found) above c.loop-height.invariant.reached in
    reached-none _ _ _ _ _ _ reached c.in_default.is

pub returns-in_err-found-clause-answer : goal.returns-in_err-found-clause-answer
returns-in_err-found-clause-answer g c =
    let above : c.loop-height.height ≡ suc (c.loop-height.height - 1) = omega arith in
    let reached = subst (λ h. Reached (held_by g.B.Blocks c.args.blocks.now) c.args.root.now c.args.index c.in_ok-shape.shape.width h c.loop-height.found) above c.loop-height.invariant.reached in
    let p = err_from_is_err_and c.from_residual-in_err-found.result c.from_residual-in_err-found.ensures.1 in
    let held = stays-held _ _ _ c.loop-height.invariant.stays in
    let lower = c.loop-height.height - 1 in
    let width = c.in_ok-shape.shape.width in
    let finds = subst (λ held. FindsEntry held (node_in width lower) c.in-Some.child (slot_of width lower c.args.index) (Err c.in_err-found.field-0.0)) held c.in_err-found.ensures.finds in
    rw (p.1, p.2) (reached-fault _ _ _ _ _ _ c.in-Some.child _ reached c.in-Some.is finds)

pub loop-height-preserved : goal.loop-height-preserved
loop-height-preserved g c =
    let above : c.loop-height.height ≡ suc (c.loop-height.height - 1) = omega arith in
    let reached = subst (λ h. Reached (held_by g.B.Blocks c.args.blocks.now) c.args.root.now c.args.index c.in_ok-shape.shape.width h c.loop-height.found) above c.loop-height.invariant.reached in
    let held = stays-held _ _ _ c.loop-height.invariant.stays in
    let finds = rw held at c.in_ok-found.ensures.finds in
    record {
      low = omega arith;
      stays = stays-ok _ _ _ _ _ c.loop-height.invariant.stays c.in_ok-found.ensures.visits;
      reached = reached-child _ _ _ _ _ _ c.in-Some.child c.in_ok-found.found reached c.in-Some.is finds;
    }

pub returns-clause-answer : goal.returns-clause-answer
returns-clause-answer g c =
    let ground : c.loop-height.height ≡ 0 = omega arith in
    let reached = subst (λ h. Reached (held_by g.B.Blocks c.args.blocks.now) c.args.root.now c.args.index c.in_ok-shape.shape.width h c.loop-height.found) ground c.loop-height.invariant.reached in
    reached-value _ _ _ _ 0 _ reached
