use Rattle.std.proofs.Common.{◌∙◌, ap, sym}
use Rattle.std.specs.Prelude.{option_map}
use Rattle.std.specs.FinMap.{get}
use Rattle.ss_store.specs.declared.place.Place.{Place}
use Rattle.ss_hot.proofs.Places.{places_lengths}
use Rattle.ss_hot.proofs.store.HotStore.size.Goals as goal

pub returns-in_err-place-clause-block : goal.returns-in_err-place-clause-block
returns-in_err-place-clause-block c records tells =
    c.from_residual.ensures
    ∙ ap (option_map (λ (p : Place). p.len)) (sym c.in_err-place.was ∙ c.place.ensures.value ∙ ap (λ m. get m c.args.cid.now) tells.places)
    ∙ places_lengths c.args.self.now.log.file records c.args.cid.now

pub returns-clause-block : goal.returns-clause-block
returns-clause-block c records tells =
    ap (option_map (λ (p : Place). p.len)) (sym c.in_ok-place.was ∙ c.place.ensures.value ∙ ap (λ m. get m c.args.cid.now) tells.places)
    ∙ places_lengths c.args.self.now.log.file records c.args.cid.now
