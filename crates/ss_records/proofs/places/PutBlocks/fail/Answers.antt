use Rattle.ss_records.proofs.Placed.{from_nothing}
use Rattle.ss_records.proofs.places.PutBlocks.fail.Goals as goal

pub returns-clause-nothing : goal.returns-clause-nothing
returns-clause-nothing c = from_nothing c.args.self.now.end
