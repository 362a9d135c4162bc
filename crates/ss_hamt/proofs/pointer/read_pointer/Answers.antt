use Rattle.ss_hamt.proofs.Buckets.{pointer-link, pointer-no_count, pointer-empty, pointer-no_entry, pointer-bucket}
use Rattle.ss_hamt.proofs.pointer.read_pointer.Goals as goal

pub returns-in-Some : goal.returns-in-Some
returns-in-Some c = pointer-link _ _ _ _ c.in-Some.ensures

pub returns-in_err-n : goal.returns-in_err-n
returns-in_err-n c = rw c.from_residual.ensures (pointer-no_count _ _ _ c.in_default.ensures _ c.in_err-n.ensures)

pub returns-then-n-eq0 : goal.returns-then-n-eq0
returns-then-n-eq0 c = pointer-empty _ _ _ c.in_default.ensures _ _ c.if-n-eq0.true c.in_ok-n.ensures

pub returns-in_err-value : goal.returns-in_err-value
returns-in_err-value c = rw c.from_residual-in_err-value.ensures (pointer-no_entry _ _ _ c.in_default.ensures _ _ _ c.in_ok-n.ensures c.in_err-value.ensures)

pub returns : goal.returns
returns c = pointer-bucket _ _ _ c.in_default.ensures _ _ _ c.in_ok-value.value c.if-n-eq0.false c.in_ok-n.ensures c.in_ok-value.ensures
