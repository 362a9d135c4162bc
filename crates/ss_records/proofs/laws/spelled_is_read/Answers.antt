use Rattle.ss_records.proofs.Records.{read_again}
use Rattle.ss_records.proofs.laws.spelled_is_read.Goals as goal

pub returns : goal.returns
returns c = read_again
