use Rattle.std.proofs.Common.{inl, inr, sym, ◌∙◌, subst}
use Rattle.ss_import.specs.Steps.{Refuses}
use Rattle.ss_import.proofs.importer.Importer.refuse.Goals as goal

pub returns-in-Ok-clause-refuses : goal.returns-in-Ok-clause-refuses
returns-in-Ok-clause-refuses g c = λ was sections left p holds.
    subst (λ e. Refuses was c.put.new.self sections e c.from-fault.result) (sym c.in-BadCar.is ∙ c.from-fault.ensures) (inl (c.in-BadCar.is, c.in-Ok.ensures.puts was sections left p holds))

pub returns-in-Err-clause-refuses : goal.returns-in-Err-clause-refuses
returns-in-Err-clause-refuses g c = λ was sections left p holds.
    subst (λ e. Refuses was c.put.new.self sections e c.in-Err.earlier) (sym c.in-BadCar.is ∙ c.from-fault.ensures) (inr (c.in-Err.ensures.puts was sections left p holds))
