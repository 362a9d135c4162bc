use Rattle.ss_car.proofs.Links.{LinksLeft}
use Rattle.ss_car.proofs.header.next_links.Given as goal

abbrev pub invariant-loop : goal.invariant-loop
invariant-loop l = LinksLeft l.n l.counter l.initial.cursor l.cursor l.roots
