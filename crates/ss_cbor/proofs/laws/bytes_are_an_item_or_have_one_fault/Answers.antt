use Rattle.ss_cbor.proofs.Readings.{either, one_fault, no_fault}
use Rattle.ss_cbor.proofs.laws.bytes_are_an_item_or_have_one_fault.Goals as goal

pub returns-clause-either : goal.returns-clause-either
returns-clause-either c = either

pub returns-clause-one : goal.returns-clause-one
returns-clause-one c = one_fault

pub returns-clause-none : goal.returns-clause-none
returns-clause-none c = no_fault
