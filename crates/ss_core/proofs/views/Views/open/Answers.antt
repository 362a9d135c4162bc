use Rattle.std.proofs.Common.{refl, sym, ap, ◌∙◌, arith}
use Rattle.std.specs.FinSet as set
use Rattle.ss_core.proofs.Marked.{inserted, all_marked, first_missing}
use Rattle.ss_core.proofs.views.Views.open.Goals as goal

pub returns-in_err-view-clause-all : goal.returns-in_err-view-clause-all
returns-in_err-view-clause-all c = λ _. (
  refl,
  λ n below.
      ap (λ s. set.contains s n) (sym c.self.view_is) ∙ all_marked c.self.inside.open (sym c.in_err-view.was ∙ c.first_closed.ensures.first) n (omega (arith, c.self.told, below)),
)

pub returns-clause-least : goal.returns-clause-least
returns-clause-least c =
    let found = first_missing c.self.inside.open c.in_ok-view.view (sym c.in_ok-view.was ∙ c.first_closed.ensures.first) in
    let within = found.0 in
    (omega (arith, c.self.told, within), ap (λ s. set.contains s c.in_ok-view.view) (sym c.self.view_is) ∙ found.1, λ n below. ap (λ s. set.contains s n) (sym c.self.view_is) ∙ found.2 n below)

pub returns-clause-opened : goal.returns-clause-opened
returns-clause-opened c =
    inserted c.self.inside.open c.in_ok-view.view (first_missing c.self.inside.open c.in_ok-view.view (sym c.in_ok-view.was ∙ c.first_closed.ensures.first)).0 ∙ ap (λ s. set.insert s c.in_ok-view.view) c.self.view_is
