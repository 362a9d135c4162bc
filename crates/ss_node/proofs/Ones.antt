-- How many of the first bits of a bitmap are set, byte by byte.
use Rattle.std.proofs.Common.{◌≡◌, ℕ, zero, suc, ◌+◌, ◌-◌, ◌*◌, ◌/◌, ◌%◌, ◌^◌, ◌<◌, ◌≤◌, cond, eqb, List, refl, sym, ap, ◌∙◌, arith, slice_index, bit_and}
use Rattle.std.specs.Int.{bit_at}
use Rattle.std.proofs.lemmas.Nat.{mod-pow-add, mod_below, pow_pos, one_shl, and_mask}
use Rattle.std.proofs.lemmas.Nat.Bits.{bit_at-lt}
use lib.Count.{ones, ones_in, ones_cat}
use Rattle.ss_node.specs.Bits.{ones_below}

one_digit : (d : ℕ) → d < 2 → ones d ≡ d
unfolding ones ones_in
one_digit zero h = refl
one_digit (suc zero) h = refl
one_digit (suc (suc d)) h = absurd (omega arith)

test_digit : (d : ℕ) → d < 2 → cond (eqb d 1) 1 0 ≡ d
test_digit zero h = refl
test_digit (suc zero) h = refl
test_digit (suc (suc d)) h = absurd (omega arith)

-- one bit more of a byte
next_bit : (b r : ℕ) → ones (b % 2 ^ (1 + r)) ≡ ones (b % 2 ^ r) + bit_at b r
next_bit b r =
    let below : b % 2 ^ r < 2 ^ r = mod_below b (2 ^ r) (pow_pos r) in
    let split : ones (b % 2 ^ (1 + r)) ≡ ones (bit_at b r) + ones (b % 2 ^ r) = ap ones (mod-pow-add b 1 r) ∙ ones_cat r (b / 2 ^ r % 2 ^ 1) (b % 2 ^ r) below in
    let digit : ones (bit_at b r) ≡ bit_at b r = one_digit (bit_at b r) (bit_at-lt b r) in
    omega (arith, split, digit)

next_below : (bits : List ℕ) (n k r : ℕ) → n / 8 ≡ k → n % 8 ≡ r → ones_below bits (suc n) ≡ ones_below bits n + bit_at (slice_index bits k) r
unfolding ones_below
next_below bits n k r byte bit = rw (byte, bit) (ap (λ (x : ℕ). ones_below bits n + x) (test_digit _ (bit_at-lt (slice_index bits k) r)))

nothing : ones 0 ≡ 0
unfolding ones ones_in
nothing = refl

none_below : (bits : List ℕ) → ones_below bits 0 ≡ 0
unfolding ones_below
none_below bits = refl

ones_below-part : (bits : List ℕ) (k r : ℕ) → r ≤ 8 → ones_below bits (8 * k + r) ≡ ones_below bits (8 * k) + ones (slice_index bits k % 2 ^ r)
ones_below-part bits k zero h =
    let none : slice_index bits k % 2 ^ 0 ≡ 0 = omega arith in
    let at : 8 * k + 0 ≡ 8 * k = omega arith in
    rw (none, nothing, at) (omega arith)
ones_below-part bits k (suc r) h =
    let at : 8 * k + suc r ≡ suc (8 * k + r) = omega arith in
    let width : suc r ≡ 1 + r = omega arith in
    let before = ones_below-part bits k r (omega arith) in
    let step = next_below bits (8 * k + r) k r (omega arith) (omega arith) in
    let bit = next_bit (slice_index bits k) r in
    rw (at, width) (omega (arith, step, before, bit))

-- the whole bytes so far, and one more
pub ones_below-byte : (bits : List ℕ) (k : ℕ) → slice_index bits k < 256 → ones_below bits (8 * (k + 1)) ≡ ones_below bits (8 * k) + ones (slice_index bits k)
ones_below-byte bits k fits =
    let whole : slice_index bits k % 2 ^ 8 ≡ slice_index bits k = omega arith in
    let at : 8 * (k + 1) ≡ 8 * k + 8 = omega arith in
    let part = ones_below-part bits k 8 (omega arith) in
    rw at (part ∙ rw whole refl)

-- the whole bytes, and the bits of the next one below a mask
pub ones_below-last : (bits : List ℕ) (slot byte : ℕ) → byte ≡ slice_index bits (slot / 8) →
    ones_below bits (8 * (slot / 8)) + ones (bit_and byte (1 * 2 ^ (slot % 8) % 256 - 1)) ≡ ones_below bits slot
ones_below-last bits slot byte is =
    let mask : 1 * 2 ^ (slot % 8) % 256 ≡ 2 ^ (slot % 8) = one_shl (slot % 8) 8 (omega arith) in
    let at : 8 * (slot / 8) + slot % 8 ≡ slot = omega arith in
    let part = ones_below-part bits (slot / 8) (slot % 8) (omega arith) in
    rw (mask, is, and_mask) (sym part ∙ ap (ones_below bits) at)

pub ones_below-le : (bits : List ℕ) (n : ℕ) → ones_below bits n ≤ n
ones_below-le bits zero = omega (arith, none_below bits)
ones_below-le bits (suc n) = omega (arith, ones_below-le bits n, next_below bits n (n / 8) (n % 8) refl refl, bit_at-lt (slice_index bits (n / 8)) (n % 8))
