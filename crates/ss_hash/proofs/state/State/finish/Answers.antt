use Rattle.std.proofs.Common.{ℕ, List, ◌++◌, ap, refl}
use Rattle.std.proofs.lemmas.List.{drop-replicate}
use Rattle.ss_hash.proofs.Absorbing.{finished}
use Rattle.ss_hash.proofs.state.State.finish.Goals as goal

pub returns : goal.returns
returns c = λ n m held short waits. finished c.args.self n _ m c.args.rest.now _ _ held c.requires short waits (rw c.copy_from_slice.ensures.after (ap (λ (z : List ℕ). c.args.rest.now ++ z) (drop-replicate _ _ _))) refl c.compress.ensures
