use Rattle.std.proofs.Common.{map}
use Rattle.ss_hamt.specs.Node.{entry_from}
use Rattle.ss_hamt.specs.Walks.{entry_part}
use Rattle.ss_hamt.proofs.Listed.{Listing}
use Rattle.ss_hamt.proofs.listing.list_entries.Given as goal

abbrev pub invariant-loop : goal.invariant-loop
invariant-loop l = Listing (map entry_part) entry_from l.fn.n l.counter l.fn.cursor l.cursor l.fn.pending.items l.pending.items
