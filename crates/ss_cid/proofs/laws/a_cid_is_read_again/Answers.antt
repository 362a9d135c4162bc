use Rattle.ss_cid.proofs.Spelling.{cid_at-append}
use Rattle.ss_cid.proofs.laws.a_cid_is_read_again.Goals as goal

pub returns : goal.returns
returns c = cid_at-append
