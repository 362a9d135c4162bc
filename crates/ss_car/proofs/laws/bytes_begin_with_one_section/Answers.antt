use Rattle.ss_car.proofs.Sections.{section-either, section-one, section_fault-one, section-none}
use Rattle.ss_car.proofs.laws.bytes_begin_with_one_section.Goals as goal

pub returns-clause-either : goal.returns-clause-either
returns-clause-either c = section-either

pub returns-clause-one : goal.returns-clause-one
returns-clause-one c = section-one

pub returns-clause-refused : goal.returns-clause-refused
returns-clause-refused c = section_fault-one

pub returns-clause-none : goal.returns-clause-none
returns-clause-none c = section-none
