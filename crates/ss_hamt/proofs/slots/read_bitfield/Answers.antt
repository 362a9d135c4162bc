use Rattle.std.proofs.Common.{take, length-take, arith}
use Rattle.ss_hamt.proofs.Groups.{digits-below, digits-take, few-digits}
use Rattle.ss_hamt.proofs.slots.read_bitfield.Goals as goal

pub overflow_mul-bits : goal.overflow_mul-bits
overflow_mul-bits c =
    let digits = digits-take c.loop-byte.byte-index c.args.field.now (digits-below c.args.field.now (λ i. omega (arith, c.type_inv.field i))) in
    let few = few-digits (take c.loop-byte.byte-index c.args.field.now) digits (omega (arith, length-take c.loop-byte.byte-index c.args.field.now)) in
    omega (arith, few, c.loop-byte.invariant)

pub overflow_add-bits : goal.overflow_add-bits
overflow_add-bits c =
    let digits = digits-take c.loop-byte.byte-index c.args.field.now (digits-below c.args.field.now (λ i. omega (arith, c.type_inv.field i))) in
    let few = few-digits (take c.loop-byte.byte-index c.args.field.now) digits (omega (arith, length-take c.loop-byte.byte-index c.args.field.now)) in
    omega (arith, few, c.loop-byte.invariant, c.from.ensures, c.type_inv.field c.loop-byte.byte-index)
