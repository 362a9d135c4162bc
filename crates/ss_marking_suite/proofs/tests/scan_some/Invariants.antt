use Rattle.ss_marking_suite.proofs.Rows.{HasRowsFor}
use Rattle.ss_marking_suite.proofs.tests.scan_some.Given as goal

abbrev pub invariant-loop-scanned : goal.invariant-loop-scanned
invariant-loop-scanned l = HasRowsFor l.blocks.blocks l.marks
