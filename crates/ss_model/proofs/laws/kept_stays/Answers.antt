use Rattle.ss_model.proofs.Kept.{stays}
use Rattle.ss_model.proofs.laws.kept_stays.Goals as goal

pub returns : goal.returns
returns c = stays
