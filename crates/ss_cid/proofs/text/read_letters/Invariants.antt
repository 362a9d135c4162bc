use Rattle.ss_cid.proofs.Reading.{Reads}
use Rattle.ss_cid.proofs.text.read_letters.Given as goal

abbrev pub invariant-loop-k : goal.invariant-loop-k
invariant-loop-k l = Reads l.letters l.k l.bits.held l.bits.len l.room
