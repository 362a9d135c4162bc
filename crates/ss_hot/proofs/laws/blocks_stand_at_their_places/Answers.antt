use Rattle.ss_hot.proofs.Places as places
use Rattle.ss_hot.proofs.laws.blocks_stand_at_their_places.Goals as goal

pub returns : goal.returns
returns c = places.places_bytes
