use Rattle.ss_chain.proofs.memory_blocks.block_of.Given as goal
use Rattle.std.proofs.Common.{◌≡◌, false, take}
use Rattle.std.specs.List.{list_any}
use Rattle.ss_chain.specs.Tipset.{same_cid}

abbrev pub invariant-loop-i : goal.invariant-loop-i
invariant-loop-i l = list_any (λ b. same_cid l.cid b.0) (take l.i l.blocks) ≡ false
