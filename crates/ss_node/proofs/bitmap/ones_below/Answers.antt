use Rattle.std.proofs.Common.{◌≡◌, ◌≤◌, ◌+◌, ◌*◌, ◌/◌, length, take, length-take, ap, ◌∙◌, arith, rules}
use Rattle.std.proofs.lemmas.List.{get_or-take}
use Rattle.ss_node.proofs.Ones.{ones_below-byte, ones_below-last, ones_below-le}
use Rattle.ss_node.specs.Bits.{ones_below}
use Rattle.ss_node.proofs.bitmap.ones_below.Goals as goal

pub loop-byte-init : goal.loop-byte-init
unfolding ones_below
loop-byte-init c = search rules

pub loop-byte-preserved : goal.loop-byte-preserved
loop-byte-preserved c =
    let bits = c.args.bits.now in
    let k = c.loop-byte.byte-index in
    let whole : length (take (c.args.slot / 8) bits) ≤ c.args.slot / 8 = omega (arith, length-take (c.args.slot / 8) bits) in
    let byte = get_or-take (c.args.slot / 8) bits k 0 (omega (arith, c.loop-byte-test.true)) in
    let more = ones_below-byte bits k (omega (arith, c.type_inv.bits k)) in
    let le = ones_below-le bits (8 * (k + 1)) in
    rw byte (record { count = omega (arith, more, c.loop-byte.invariant.count); few = omega (arith, more, le, c.loop-byte.invariant.count) })

pub returns-in-Some-clause-value : goal.returns-in-Some-clause-value
returns-in-Some-clause-value c =
    let bits = c.args.bits.now in
    let whole : c.loop-byte.byte-index ≡ c.args.slot / 8 = omega (arith, length-take (c.args.slot / 8) bits) in
    let first : c.loop-byte.ones ≡ ones_below bits (8 * (c.args.slot / 8)) = c.loop-byte.invariant.count ∙ ap (λ k. ones_below bits (8 * k)) whole in
    let last = ones_below-last bits c.args.slot c.in-Some.byte.now (c.in-Some.ensures.lookup.3.1 0) in
    omega (arith, first, last)

pub overflow_add-result : goal.overflow_add-result
overflow_add-result c =
    let bits = c.args.bits.now in
    let whole : c.loop-byte.byte-index ≡ c.args.slot / 8 = omega (arith, length-take (c.args.slot / 8) bits) in
    let first : c.loop-byte.ones ≡ ones_below bits (8 * (c.args.slot / 8)) = c.loop-byte.invariant.count ∙ ap (λ k. ones_below bits (8 * k)) whole in
    let last = ones_below-last bits c.args.slot c.in-Some.byte.now (c.in-Some.ensures.lookup.3.1 0) in
    omega (arith, first, last, ones_below-le bits c.args.slot)

pub returns-in-Some-clause-few : goal.returns-in-Some-clause-few
returns-in-Some-clause-few c =
    let bits = c.args.bits.now in
    let whole : c.loop-byte.byte-index ≡ c.args.slot / 8 = omega (arith, length-take (c.args.slot / 8) bits) in
    let first : c.loop-byte.ones ≡ ones_below bits (8 * (c.args.slot / 8)) = c.loop-byte.invariant.count ∙ ap (λ k. ones_below bits (8 * k)) whole in
    let last = ones_below-last bits c.args.slot c.in-Some.byte.now (c.in-Some.ensures.lookup.3.1 0) in
    omega (arith, first, last, ones_below-le bits c.args.slot)
