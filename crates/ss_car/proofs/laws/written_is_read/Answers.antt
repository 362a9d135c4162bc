use Rattle.ss_car.proofs.Written.{header-written, sections-written, car-written}
use Rattle.ss_car.proofs.laws.written_is_read.Goals as goal

pub returns-clause-header : goal.returns-clause-header
returns-clause-header c = header-written

pub returns-clause-sections : goal.returns-clause-sections
returns-clause-sections c = sections-written

pub returns-clause-car : goal.returns-clause-car
returns-clause-car c = car-written
