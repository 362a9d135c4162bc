use Rattle.ss_model.proofs.Kept.{found}
use Rattle.ss_model.proofs.laws.stored_is_found.Goals as goal

pub returns : goal.returns
returns c = found
