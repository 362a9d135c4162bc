use Rattle.std.proofs.Common.{◌≡◌, ◌+◌, ◌∙◌, ap, sym, subst}
use Rattle.std.specs.Prelude.{◌||◌}
use Rattle.std.proofs.lemmas.Result.{err_from_is_err_and}
use Rattle.ss_hamt.proofs.Listed.{Pointing, listing-row, pointing-start, pointing-next, pointing-fault}
use Rattle.ss_hamt.proofs.listing.list_pointers.Goals as goal
use Rattle.ss_hamt.proofs.listing.list_pointers.Goals.{then-has_child, else-has_child}

pub loop-init : goal.loop-init
loop-init c = pointing-start _ _ _ _

pub returns-in_err-is_child : goal.returns-in_err-is_child
returns-in_err-is_child c =
    let p = err_from_is_err_and c.from_residual.result c.from_residual.ensures.1 in
    rw (p.1, p.2) (pointing-fault _ _ _ _ _ _ _ _ c.loop.invariant c.list_pointer.new.cursor c.list_pointer.new.pending.items _ c.loop-test.true c.in_err-is_child.ensures)

pub loop-preserved : goal.loop-preserved
loop-preserved c =
    let next = pointing-next _ _ _ _ _ _ _ _ c.loop.invariant c.list_pointer.new.cursor c.list_pointer.new.pending.items c.in_ok-is_child.is_child c.loop-test.true c.in_ok-is_child.ensures in
    let joined : (c.loop.has_child || c.in_ok-is_child.is_child) ≡ c.if-has_child.has_child = elim c.if-has_child.branch [
      | then-has_child w ↦ ap (λ b. b || c.in_ok-is_child.is_child) w.if-has_child.true ∙ sym w.if-has_child.true ∙ sym w.has_child-is
      | else-has_child w ↦ ap (λ b. b || c.in_ok-is_child.is_child) w.if-has_child.false ∙ sym w.has_child-is
    ] in
    subst (λ b. Pointing c.args.level c.args.n (c.loop.counter + 1) c.args.cursor.now c.list_pointer.new.cursor c.args.pending.now.items c.list_pointer.new.pending.items b) joined next

pub returns : goal.returns
returns c = (c.loop.invariant.list.row, listing-row _ _ _ _ _ _ _ _ c.loop.invariant.list c.loop-test.false, c.loop.invariant.list.read.end, c.loop.invariant.list.added, c.loop.invariant.linked)
