use Rattle.ss_open.proofs.Openings.{state_or_damaged, stands_apart, one_offset}
use Rattle.ss_open.proofs.laws.a_store_has_a_state_or_is_damaged.Goals as goal

pub returns-clause-either : goal.returns-clause-either
returns-clause-either c = state_or_damaged

pub returns-clause-apart : goal.returns-clause-apart
returns-clause-apart c = stands_apart

pub returns-clause-one_offset : goal.returns-clause-one_offset
returns-clause-one_offset c = one_offset
