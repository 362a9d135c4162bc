use Rattle.ss_records.proofs.Placed.{blocks_at_places}
use Rattle.ss_records.proofs.laws.blocks_lie_at_their_places.Goals as goal

pub returns : goal.returns
returns c = blocks_at_places
