use Rattle.std.proofs.Common.{refl}
use Rattle.ss_hash.specs.Blake2b.{initial, hash_after}
use Rattle.ss_hash.proofs.state.State.new.Goals as goal

pub returns : goal.returns
unfolding initial hash_after
returns c = record { count = refl; whole = refl; hash = refl }
