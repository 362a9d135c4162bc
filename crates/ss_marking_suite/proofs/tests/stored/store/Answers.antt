use Rattle.std.proofs.Common.{ap}
use Rattle.ss_marks.specs.Marks.{MarkTable}
use Rattle.ss_marking_suite.proofs.Rows.{rows_more}
use Rattle.ss_marking_suite.proofs.tests.stored.store.Goals as goal

pub returns : goal.returns
returns c =
    rows_more c.args.marks.now c.reserve.new.self c.add.new.self c.add.result c.args.cid.now c.in_ok-from_slice.field-0 c.args.blocks.now.blocks c.insert.new.self
    (ap (λ (t : MarkTable). t.marks) c.in_ok-reserve.ensures.same) (ap (λ (t : MarkTable). t.marks) c.add.ensures.added) c.in_ok-insert.ensures.updates.0 c.requires
