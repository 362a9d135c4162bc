use Rattle.std.proofs.Common.{ap, ◌∙◌}
use Rattle.std.specs.FinMap as finite_map
use Rattle.ss_store.specs.declared.place.Place.{Place}
use Rattle.ss_store.specs.Places.{CidMap}
use Rattle.ss_store.proofs.Placing.{remove-block-next}
use Rattle.ss_store.proofs.index.Index.remove_blocks.Goals as goal

pub loop-i-preserved : goal.loop-i-preserved
loop-i-preserved c =
    c.remove.ensures ∙ ap (λ (m : CidMap Place). finite_map.remove m c.at.result.0) c.loop-i.invariant
    ∙ remove-block-next c.args.self.now c.loop-i.i c.args.blocks.now (c.at.result.0, c.at.result.1.now) c.at.ensures
