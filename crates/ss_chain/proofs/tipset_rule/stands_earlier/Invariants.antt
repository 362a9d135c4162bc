use Rattle.std.proofs.Common.{◌≡◌, false, map, take}
use Rattle.std.specs.List.{list_any}
use Rattle.ss_chain.specs.Tipset.{same_cid}
use Rattle.ss_chain.proofs.tipset_rule.stands_earlier.Given as goal

abbrev pub invariant-loop-j : goal.invariant-loop-j
invariant-loop-j l = list_any (same_cid l.cid) (take l.j (map (λ b. b.0) l.headers)) ≡ false
