use Rattle.std.proofs.Common.{◌≡◌, false, take}
use Rattle.std.specs.List.{list_any}
use Rattle.ss_chain.specs.Tipset.{same_cid}
use Rattle.ss_core.proofs.tipset.stands_earlier.Given as goal

abbrev pub invariant-loop-j : goal.invariant-loop-j
invariant-loop-j l = list_any (same_cid l.cid) (take l.j l.cids) ≡ false
