use Rattle.std.proofs.Common.{refl}
use Rattle.ss_hash.specs.Blake2b.{mixed}
use Rattle.ss_hash.proofs.compress.mixed.Goals as goal

pub returns : goal.returns
unfolding mixed
returns c =
    rw (c.rotate_right-b-2.ensures, c.rotate_right-d-2.ensures, c.sum-a-2.ensures, c.rotate_right-b.ensures, c.rotate_right-d.ensures, c.sum-a.ensures) refl
