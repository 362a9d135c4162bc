use Rattle.ss_cid.proofs.Spelling.{varint_at-fits, varint_at-spelled}
use Rattle.ss_cid.proofs.laws.a_number_has_one_varint.Goals as goal

pub returns : goal.returns
returns c = λ bytes at n end small read. (varint_at-fits bytes at n end read, varint_at-spelled bytes at n end small read)
