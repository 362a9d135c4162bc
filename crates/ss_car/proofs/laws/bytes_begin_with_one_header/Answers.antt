use Rattle.ss_car.proofs.Readings.{start-either, start-one, start_fault-one, start-none}
use Rattle.ss_car.proofs.laws.bytes_begin_with_one_header.Goals as goal

pub returns-clause-either : goal.returns-clause-either
returns-clause-either c = start-either

pub returns-clause-one : goal.returns-clause-one
returns-clause-one c = start-one

pub returns-clause-refused : goal.returns-clause-refused
returns-clause-refused c = start_fault-one

pub returns-clause-none : goal.returns-clause-none
returns-clause-none c = start-none
