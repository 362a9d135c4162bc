use Rattle.ss_amt.proofs.Answering.{answers-one}
use Rattle.ss_amt.proofs.laws.an_index_has_one_answer.Goals as goal

pub returns : goal.returns
returns c held kept exposed root index a b p q = answers-one held kept exposed root index p q
