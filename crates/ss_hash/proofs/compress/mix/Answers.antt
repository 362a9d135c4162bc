use Rattle.std.proofs.Common.{refl}
use Rattle.ss_hash.specs.Blake2b.{mix}
use Rattle.ss_hash.proofs.compress.mix.Goals as goal

pub returns : goal.returns
unfolding mix
returns c = rw c.mixed-word_a.ensures refl
