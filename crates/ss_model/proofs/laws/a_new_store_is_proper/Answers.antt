use Rattle.ss_model.proofs.Proper.{new_is_proper}
use Rattle.ss_model.proofs.laws.a_new_store_is_proper.Goals as goal

pub returns : goal.returns
returns c = new_is_proper
