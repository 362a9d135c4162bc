use Rattle.ss_chain.specs.HeaderReading.{item_from}
use Rattle.ss_amt.specs.Walks.{value_at}
use Rattle.ss_amt.proofs.Listed.{Listing}
use Rattle.ss_amt.proofs.listing.list_values.Given as goal

abbrev pub invariant-loop : goal.invariant-loop
invariant-loop l = Listing (value_at l.first) item_from l.width l.bits l.fn.n l.counter l.slot l.fn.cursor l.cursor l.fn.values l.values
