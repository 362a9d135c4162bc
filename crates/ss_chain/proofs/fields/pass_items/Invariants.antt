use Rattle.ss_chain.proofs.Rows.{ItemsLeft}
use Rattle.ss_chain.proofs.fields.pass_items.Given as goal

abbrev pub invariant-loop : goal.invariant-loop
invariant-loop l = ItemsLeft l.fn.n l.counter l.fn.cursor l.cursor
