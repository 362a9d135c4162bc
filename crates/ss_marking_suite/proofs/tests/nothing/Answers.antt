use Rattle.std.proofs.Common.{ap}
use Rattle.ss_marks.specs.Marks.{MarkTable}
use Rattle.ss_marking_suite.proofs.Rows.{rows_none}
use Rattle.ss_marking_suite.proofs.tests.nothing.Goals as goal

pub returns : goal.returns
returns c = rows_none c.new.result c.new-2.result.blocks (ap (λ (t : MarkTable). t.marks) c.new.ensures) c.new-2.ensures
