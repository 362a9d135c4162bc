use Rattle.std.proofs.Common.{◌≡◌, true}
use Rattle.ss_chain.proofs.Reached.{reach_each, reach-root, reach-next}
use Rattle.ss_chain.proofs.laws.reach_is_least.Goals as goal

pub returns-clause-roots : goal.returns-clause-roots
returns-clause-roots c = reach-root

pub returns-clause-next : goal.returns-clause-next
returns-clause-next c = reach-next

pub returns-clause-least : goal.returns-clause-least
returns-clause-least c edge kept roots has = reach_each edge kept roots (λ cid. has cid ≡ true)
