use Rattle.std.proofs.Common.{◌≡◌, take}
use Rattle.ss_store.specs.Places.{without_cids}
use Rattle.ss_store.proofs.index.Index.remove_all.Given as goal

abbrev pub invariant-loop-cid : goal.invariant-loop-cid
invariant-loop-cid l = l.self ≡ without_cids l.initial.self (take l.cid-index l.cid-items)
