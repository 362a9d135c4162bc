use Rattle.ss_cid.proofs.Spelling.{cid_at-spelled}
use Rattle.ss_cid.proofs.laws.what_is_read_is_a_cid.Goals as goal

pub returns : goal.returns
returns c = cid_at-spelled
