use Rattle.std.proofs.Common.{ap, refl, Err}
use Rattle.ss_core.proofs.Faults.{not_unknown, not_valid}
use Rattle.ss_core.proofs.blocks.check_block.Goals as goal

pub returns-in-Err-UnknownHash-clause-fault : goal.returns-in-Err-UnknownHash-clause-fault
returns-in-Err-UnknownHash-clause-fault c = λ i.
    let e = c.in-Err-UnknownHash in
    (refl, rw c.as_bytes.ensures.value at c.if-as_bytes-block-gt-BLOCK_BYTES.false, (e.field-0-0, (e.ensures.unknown e.field-0-0).0 (ap Err e.field-0-is)))

pub returns-in-Err-Mismatch-clause-fault : goal.returns-in-Err-Mismatch-clause-fault
returns-in-Err-Mismatch-clause-fault c = λ i.
    let e = c.in-Err-Mismatch in
    (refl, rw c.as_bytes.ensures.value at c.if-as_bytes-block-gt-BLOCK_BYTES.false, not_unknown _ e.field-0 (λ code is. cc (is, e.field-0-is)) e.ensures.unknown, not_valid _ _ e.field-0 e.ensures.valid)

pub returns-in-Err-NotIdentity-clause-fault : goal.returns-in-Err-NotIdentity-clause-fault
returns-in-Err-NotIdentity-clause-fault c = λ i.
    let e = c.in-Err-NotIdentity in
    (refl, rw c.as_bytes.ensures.value at c.if-as_bytes-block-gt-BLOCK_BYTES.false, not_unknown _ e.field-0 (λ code is. cc (is, e.field-0-is)) e.ensures.unknown, not_valid _ _ e.field-0 e.ensures.valid)
