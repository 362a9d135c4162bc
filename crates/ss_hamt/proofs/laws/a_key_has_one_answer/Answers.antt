use Rattle.ss_hamt.proofs.Answering.{answers-one}
use Rattle.ss_hamt.proofs.laws.a_key_has_one_answer.Goals as goal

pub returns : goal.returns
returns c held kept exposed root key a b p q = answers-one held kept exposed key p q
