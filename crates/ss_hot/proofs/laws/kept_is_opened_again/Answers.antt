use Rattle.ss_hot.proofs.Reopened.{kept_half}
use Rattle.ss_hot.proofs.laws.kept_is_opened_again.Goals as goal

pub returns : goal.returns
returns g c = kept_half g.D.Disk
