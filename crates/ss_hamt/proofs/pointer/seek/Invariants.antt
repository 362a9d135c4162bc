use Rattle.ss_hamt.proofs.Buckets.{Seeking}
use Rattle.ss_hamt.proofs.pointer.seek.Given as goal

abbrev pub invariant-loop : goal.invariant-loop
invariant-loop l = Seeking l.key l.fn.n l.counter l.fn.cursor l.cursor l.found
