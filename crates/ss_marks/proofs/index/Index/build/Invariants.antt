use Rattle.std.proofs.Common.{◌≡◌, length, take}
use Rattle.ss_marks.specs.Index.{Indexes}
use Rattle.ss_marks.proofs.index.Index.build.Given as goal

abbrev pub invariant-loop-i : goal.invariant-loop-i
invariant-loop-i l = (length l.index.heads.items ≡ l.slots) × (length l.index.below.items ≡ l.slots) × Indexes (take l.i l.rows) l.index
