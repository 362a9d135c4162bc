use Rattle.ss_cbor.specs.Reading.{link_from}
use Rattle.ss_amt.specs.Walks.{child_at}
use Rattle.ss_amt.proofs.Listed.{Listing}
use Rattle.ss_amt.proofs.listing.list_children.Given as goal

abbrev pub invariant-loop : goal.invariant-loop
invariant-loop l = Listing (child_at l.width l.height l.first) link_from l.width l.bits l.fn.n l.counter l.slot l.fn.cursor l.cursor l.fn.pending.items l.pending.items
