use Rattle.ss_hamt.proofs.Listed.{Pointing}
use Rattle.ss_hamt.proofs.listing.list_pointers.Given as goal

abbrev pub invariant-loop : goal.invariant-loop
invariant-loop l = Pointing l.level l.fn.n l.counter l.fn.cursor l.cursor l.fn.pending.items l.pending.items l.has_child
