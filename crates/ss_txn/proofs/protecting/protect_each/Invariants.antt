use Rattle.std.proofs.Common.{drop}
use Rattle.ss_txn.proofs.Protections.{Leaves}
use Rattle.ss_txn.proofs.protecting.protect_each.Given as goal

abbrev pub invariant-loop-cid : goal.invariant-loop-cid
invariant-loop-cid l = Leaves l.edge l.cids (drop l.cid-index l.cids) l.fn.marks l.marks
