use Rattle.ss_hot.proofs.Places as places
use Rattle.ss_hot.proofs.laws.places_tell_blocks.Goals as goal

pub returns-clause-lengths : goal.returns-clause-lengths
returns-clause-lengths c = places.places_lengths

pub returns-clause-keys : goal.returns-clause-keys
returns-clause-keys c = places.places_keys

pub returns-clause-count : goal.returns-clause-count
returns-clause-count c = places.places_len
