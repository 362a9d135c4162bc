use Rattle.ss_model.proofs.Proper.{entry_keeps, history_keeps, closed_is_proper}
use Rattle.ss_model.proofs.laws.a_proper_state_stays_proper.Goals as goal

pub returns-clause-entry : goal.returns-clause-entry
returns-clause-entry c = entry_keeps

pub returns-clause-history : goal.returns-clause-history
returns-clause-history c = history_keeps

pub returns-clause-closing : goal.returns-clause-closing
returns-clause-closing c = closed_is_proper
