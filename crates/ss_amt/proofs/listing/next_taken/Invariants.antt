use Rattle.std.proofs.Common.{◌≡◌, ◌≤◌, ◌-◌}
use Rattle.ss_node.specs.Bits.{ones_below}
use Rattle.ss_amt.specs.Walks.{taken_below}
use Rattle.ss_amt.proofs.listing.next_taken.Given as goal

abbrev pub invariant-loop-next : goal.invariant-loop-next
invariant-loop-next l = record {
  low : l.slot ≤ l.next;
  ones : ones_below l.bits l.next ≡ ones_below l.bits l.slot;
  taken : taken_below l.bits l.next ≡ taken_below l.bits l.slot;
}

abbrev pub decreases-loop-next : goal.decreases-loop-next
decreases-loop-next l = l.end - l.next
