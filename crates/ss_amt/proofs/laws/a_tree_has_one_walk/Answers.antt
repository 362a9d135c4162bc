use Rattle.ss_amt.proofs.Answering.{values-one}
use Rattle.ss_amt.proofs.laws.a_tree_has_one_walk.Goals as goal

pub returns : goal.returns
returns c held kept exposed root a b p q = values-one held kept exposed root p q
