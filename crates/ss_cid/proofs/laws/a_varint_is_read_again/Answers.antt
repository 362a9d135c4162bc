use Rattle.ss_cid.proofs.Varints.{Stands-varint_at}
use Rattle.ss_cid.proofs.Groups.{varint-Stands}
use Rattle.ss_cid.proofs.laws.a_varint_is_read_again.Goals as goal

pub returns : goal.returns
returns c = λ front rest n small. Stands-varint_at _ _ _ _ (varint-Stands front rest n small)
