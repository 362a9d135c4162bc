use Rattle.std.proofs.Common.{◌∙◌, ap}
use Rattle.std.specs.Prelude.{is_some}
use Rattle.std.specs.FinMap.{get}
use Rattle.ss_hot.specs.Store.{Hot}
use Rattle.ss_hot.proofs.Places.{places_some}
use Rattle.ss_hot.proofs.store.HotStore.has.Goals as goal

pub returns-clause-block : goal.returns-clause-block
returns-clause-block c records tells =
    c.is_some.ensures ∙ ap is_some c.get.ensures
    ∙ ap (λ m. is_some (get m c.args.cid.now)) (ap (λ (s : Hot). s.places) c.self.view_is ∙ tells.places)
    ∙ places_some c.args.self.now.log.file records c.args.cid.now
