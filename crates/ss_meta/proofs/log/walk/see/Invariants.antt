use Rattle.std.proofs.Common.{ℕ, List, ◌++◌, take}
use Rattle.ss_meta.specs.Plan.{AllDiffer}
use Rattle.ss_meta.specs.Opening.{Sees}
use Rattle.ss_meta.proofs.log.walk.see.Given as goal

abbrev pub invariant-loop-cid : goal.invariant-loop-cid
invariant-loop-cid l = (cold : List (List ℕ)) → Sees l.initial.seen cold → AllDiffer cold → Sees l.seen (cold ++ take l.cid-index l.cid-items) × AllDiffer (cold ++ take l.cid-index l.cid-items)
