use Rattle.std.proofs.Common.{◌≡◌, ◌*◌, take}
use Rattle.ss_cid.proofs.cid_buffer.compare_cells.Given as goal

abbrev pub invariant-loop-i : goal.invariant-loop-i
invariant-loop-i l = take (8 * l.i) l.cells ≡ take (8 * l.i) l.others
