use Rattle.ss_chain.proofs.TipsetLaws.{tipset-is}
use Rattle.ss_model.specs.Head.{blocks_of}
use Rattle.ss_model.proofs.laws.a_head_is_a_tipset.Goals as goal

pub returns : goal.returns
returns c s height cids proper is = tipset-is (blocks_of s.kept cids) height (proper.head height cids is).tipset
