use Rattle.ss_records.proofs.Records.{read_takes}
use Rattle.ss_records.proofs.laws.one_spelling.Goals as goal

pub returns : goal.returns
returns c = read_takes
