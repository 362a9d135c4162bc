use Rattle.ss_marking_suite.proofs.Rows.{rows_stay}
use Rattle.ss_marking_suite.proofs.tests.scan.Goals as goal

pub returns-in-Scanned : goal.returns-in-Scanned
returns-in-Scanned c = rows_stay c.args.marks.now c.scan_one.new.marks c.args.blocks.now.blocks c.scan_one.new.blocks.blocks c.scan_one.ensures.rows c.scan_one.ensures.holds c.requires

pub returns-in-NoMemory : goal.returns-in-NoMemory
returns-in-NoMemory c = rows_stay c.args.marks.now c.scan_one.new.marks c.args.blocks.now.blocks c.scan_one.new.blocks.blocks c.scan_one.ensures.rows c.scan_one.ensures.holds c.requires
