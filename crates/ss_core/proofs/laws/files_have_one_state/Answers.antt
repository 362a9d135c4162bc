use Rattle.ss_core.proofs.Reopened.{one_end, alike}
use Rattle.ss_core.proofs.laws.files_have_one_state.Goals as goal

pub returns-clause-end : goal.returns-clause-end
returns-clause-end c = one_end

pub returns-clause-state : goal.returns-clause-state
returns-clause-state c = alike
