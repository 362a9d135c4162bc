use Rattle.std.proofs.Common.{◌≡◌, ◌++◌, map, take, drop}
use Rattle.ss_marks.specs.Rows.{whitened_row}
use Rattle.ss_marks.proofs.row.whiten.Given as goal

abbrev pub invariant-loop-row : goal.invariant-loop-row
invariant-loop-row l = l.rows ≡ map whitened_row (take l.row-index l.fn.rows) ++ drop l.row-index l.fn.rows
