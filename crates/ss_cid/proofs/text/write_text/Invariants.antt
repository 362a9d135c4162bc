use Rattle.ss_cid.proofs.Writing.{Writes}
use Rattle.ss_cid.proofs.text.write_text.Given as goal

abbrev pub invariant-loop-k : goal.invariant-loop-k
invariant-loop-k l = Writes l.bytes l.out l.fn.out l.k l.taken l.bits.held l.bits.len
