use Rattle.std.proofs.Common.{arith}
use Rattle.ss_cbor.specs.Part.{raw_part_of}
use Rattle.ss_cbor.specs.Reading.{part_at}
use Rattle.ss_cbor.proofs.Parts.{part_due}
use Rattle.ss_cbor.proofs.reading.part_at.Goals as goal

pub returns-clause-due : goal.returns-clause-due
unfolding part_at
returns-clause-due c =
    part_due c.args.due c.args.end c.args.bytes.now (λ x. (raw_part_of x.0, x.1.now)) c.part_from.result c.requires.due (λ i. omega (arith, c.type_inv.bytes i))
    (rw c.in_ok-piece.ensures.value c.part_from.ensures.value)
