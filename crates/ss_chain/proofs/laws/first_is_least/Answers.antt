use Rattle.ss_chain.proofs.Firsts.{first_of-least, first_of-none-each}
use Rattle.ss_chain.proofs.laws.first_is_least.Goals as goal

pub returns-clause-some : goal.returns-clause-some
returns-clause-some c = first_of-least

pub returns-clause-none : goal.returns-clause-none
returns-clause-none c = first_of-none-each
