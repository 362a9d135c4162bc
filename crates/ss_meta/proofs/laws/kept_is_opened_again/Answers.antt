use Rattle.ss_meta.proofs.Readings.{kept_again}
use Rattle.ss_meta.proofs.laws.kept_is_opened_again.Goals as goal

pub returns : goal.returns
returns g c = kept_again g.D.Disk
