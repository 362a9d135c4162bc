use Rattle.ss_cid.proofs.Texts.{cid_from_text-spelled}
use Rattle.ss_cid.proofs.laws.a_cid_has_one_text.Goals as goal

pub returns : goal.returns
returns c = cid_from_text-spelled
