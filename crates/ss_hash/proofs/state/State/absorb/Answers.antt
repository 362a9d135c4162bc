use Rattle.std.proofs.Common.{refl}
use Rattle.ss_hash.proofs.Absorbing.{absorbed_next}
use Rattle.ss_hash.proofs.state.State.absorb.Goals as goal

pub returns : goal.returns
returns c = λ n m held short. absorbed_next c.args.self.now _ n m c.args.block.now held c.requires short refl c.compress.ensures
