use Rattle.std.proofs.Common.{sym, subst}
use Rattle.ss_store.specs.declared.place.Place.{Place}
use Rattle.ss_store.specs.Places.{CidMap}
use Rattle.ss_hot.specs.Opening.{AreBefore}
use Rattle.ss_hot.proofs.Passed.{before_none}
use Rattle.ss_hot.proofs.store.walk.Walk.new.Goals as goal

pub returns-clause-before : goal.returns-clause-before
returns-clause-before c file end = subst (λ (m : CidMap Place). AreBefore file m end) (sym c.new.ensures) (before_none file end)
