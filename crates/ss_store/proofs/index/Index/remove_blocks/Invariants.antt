use Rattle.std.proofs.Common.{◌≡◌, take, map}
use Rattle.ss_store.specs.Places.{without_cids}
use Rattle.ss_store.proofs.index.Index.remove_blocks.Given as goal

abbrev pub invariant-loop-i : goal.invariant-loop-i
invariant-loop-i l = l.self ≡ without_cids l.fn.self (map (λ p. p.0) (take l.i l.blocks))
