use Rattle.ss_marking_suite.proofs.Rows.{HasRowsFor}
use Rattle.ss_marking_suite.proofs.tests.put_first.Given as goal

abbrev pub invariant-loop-number : goal.invariant-loop-number
invariant-loop-number l = HasRowsFor l.blocks.blocks l.marks
