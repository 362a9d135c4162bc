use Rattle.ss_cid.proofs.Spelling.{IsCid-spelled}
use Rattle.ss_cid.proofs.laws.a_cid_has_one_spelling.Goals as goal

pub returns : goal.returns
returns c = IsCid-spelled
