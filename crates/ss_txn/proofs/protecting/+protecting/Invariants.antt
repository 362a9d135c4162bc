use Rattle.std.proofs.Common.{ℕ, ◌+◌, ◌*◌, ◌<◌, List, length}
use Rattle.std.specs.List.{All}
use Rattle.ss_chain.specs.Follows.{followed}
use Rattle.ss_txn.proofs.Protections.{Leaves}
use Rattle.ss_txn.proofs.protecting.+protecting.Given as goal

abbrev pub decreases-protect_followed : goal.decreases-protect_followed
decreases-protect_followed l = 2 * length l.block.now

abbrev pub decreases-protect_one : goal.decreases-protect_one
decreases-protect_one l = 2 * length l.cid.now + 1

abbrev pub invariant-protect_followed-loop-link : goal.invariant-protect_followed-loop-link
invariant-protect_followed-loop-link l = record {
  can : (goal.iterator-protect_followed-loop-link).can_next l.link-iterator;
  ends : (goal.iterator-protect_followed-loop-link).is_finite l.link-iterator;
  shorter : All (λ (link : List ℕ). length link < length l.block) l.link-iterator;
  leaves : Leaves l.edge (followed l.edge l.cid l.block) l.link-iterator l.fn.marks l.marks;
}
