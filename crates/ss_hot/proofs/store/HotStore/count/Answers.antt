use Rattle.std.proofs.Common.{◌∙◌, ap}
use Rattle.std.specs.FinMap.{len}
use Rattle.ss_hot.specs.Store.{Hot}
use Rattle.ss_hot.proofs.Places.{places_len}
use Rattle.ss_hot.proofs.store.HotStore.count.Goals as goal

pub returns-clause-blocks : goal.returns-clause-blocks
returns-clause-blocks c records tells =
    c.len.ensures.value
    ∙ ap len (ap (λ (s : Hot). s.places) c.self.view_is ∙ tells.places)
    ∙ places_len c.args.self.now.log.file records
