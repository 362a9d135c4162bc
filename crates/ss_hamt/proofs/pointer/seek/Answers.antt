use Rattle.std.proofs.Common.{sym, ◌∙◌}
use Rattle.ss_hamt.proofs.Buckets.{seeking-same, seeking-other, seeking-stop, seeking-end}
use Rattle.ss_hamt.proofs.pointer.seek.Goals as goal
use Rattle.ss_hamt.proofs.pointer.seek.Goals.{then-eq, else-eq}

pub returns-in_err-entry_key : goal.returns-in_err-entry_key
returns-in_err-entry_key c = rw c.from_residual.ensures (seeking-stop _ _ _ _ _ _ c.loop.invariant _ c.loop-test.true c.in_err-entry_key.ensures)

pub loop-preserved : goal.loop-preserved
loop-preserved c =
    elim c.if-eq.branch [
      | then-eq w ↦ rw (w.found-is, w.or-found.ensures) (seeking-same _ _ _ _ _ _ c.loop.invariant _ (c.in_ok-entry_key.entry_key, c.in_ok-entry_key.value) c.loop-test.true (sym c.eq.ensures ∙ w.if-eq.true) c.in_ok-entry_key.ensures)
      | else-eq w ↦ rw w.found-is (seeking-other _ _ _ _ _ _ c.loop.invariant _ (c.in_ok-entry_key.entry_key, c.in_ok-entry_key.value) c.loop-test.true (sym c.eq.ensures ∙ w.if-eq.false) c.in_ok-entry_key.ensures)
    ]

pub returns : goal.returns
returns c = seeking-end _ _ _ _ _ _ c.loop.invariant c.loop-test.false
