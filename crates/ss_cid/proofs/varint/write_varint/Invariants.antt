use Rattle.ss_cid.proofs.Varints.{Writes}
use Rattle.ss_cid.proofs.varint.write_varint.Given as goal

abbrev pub invariant-loop-k : goal.invariant-loop-k
invariant-loop-k l = Writes l.out l.initial.out l.k l.left l.n
