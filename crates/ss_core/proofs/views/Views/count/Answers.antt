use Rattle.std.proofs.Common.{ap, ◌∙◌, arith}
use Rattle.std.specs.FinSet as set
use Rattle.ss_core.proofs.Marked.{counted_next, counted_few, counted_all}
use Rattle.ss_core.proofs.views.Views.count.Goals as goal

pub loop-open-preserved : goal.loop-open-preserved
loop-open-preserved c = record {
  is = counted_next c.self.inside.open c.loop-open.open-index c.loop-open.count c.ones-count.result (omega (arith, c.self.told, c.loop-open-test.true)) c.ones-count.ensures c.loop-open.invariant.is;
  few = counted_few c.self.inside.open c.loop-open.open-index c.loop-open.count c.ones-count.result c.ones-count.ensures c.loop-open.invariant.few;
}

pub returns : goal.returns
returns c = counted_all c.self.inside.open c.loop-open.open-index c.loop-open.count (omega (arith, c.self.told, c.loop-open-test.false)) c.loop-open.invariant.is ∙ ap set.len c.self.view_is
