use Rattle.std.proofs.Common.{take}
use Rattle.ss_core.specs.Replies.{ArePairsAt}
use Rattle.ss_core.proofs.fresh.blocks_at.Given as goal

abbrev pub invariant-loop-place : goal.invariant-loop-place
invariant-loop-place l = ArePairsAt l.parcel (take l.place-index l.places) l.blocks
