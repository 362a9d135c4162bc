use Rattle.ss_car.proofs.Sections.{sections-found, sections-one}
use Rattle.ss_car.proofs.laws.sections_are_one_list.Goals as goal

pub returns-clause-some : goal.returns-clause-some
returns-clause-some c = sections-found

pub returns-clause-one : goal.returns-clause-one
returns-clause-one c = sections-one
