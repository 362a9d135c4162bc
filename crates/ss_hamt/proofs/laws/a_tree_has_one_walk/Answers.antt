use Rattle.ss_hamt.proofs.Answering.{walks-one}
use Rattle.ss_hamt.proofs.laws.a_tree_has_one_walk.Goals as goal

pub returns : goal.returns
returns c held kept exposed root a b p q = walks-one held kept exposed p q
