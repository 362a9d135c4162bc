use Rattle.ss_chain.proofs.Rows.{LinksLeft}
use Rattle.ss_chain.proofs.fields.leads_with_links.Given as goal

abbrev pub invariant-loop : goal.invariant-loop
invariant-loop l = LinksLeft l.fn.n l.counter l.fn.cursor l.cursor
