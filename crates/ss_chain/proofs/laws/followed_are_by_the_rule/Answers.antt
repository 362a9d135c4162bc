use Rattle.ss_chain.proofs.Followed.{followed-is}
use Rattle.ss_chain.proofs.laws.followed_are_by_the_rule.Goals as goal

pub returns : goal.returns
returns c = followed-is
