use Rattle.ss_cid.proofs.Texts.{cid_from_text-cid_text}
use Rattle.ss_cid.proofs.laws.a_text_is_read_again.Goals as goal

pub returns : goal.returns
returns c = cid_from_text-cid_text
