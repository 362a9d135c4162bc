-- Widths, heights and what they leave room for.
use Rattle.std.proofs.Common.{◌≡◌, ℕ, zero, suc, ◌+◌, ◌*◌, ◌/◌, ◌^◌, ◌<◌, ◌≤◌, max, Bool, true, false, eqb, ltb, leb, ◌&&◌, refl, sym, ap, ◌∙◌, arith, inl, inr, mul-le-mul_right, eq-eqb, lt-ltb, ne_eqb, le-ltb, leb-true}
use Rattle.std.proofs.lemmas.Nat.{pow-add}
use Rattle.std.proofs.lemmas.Bool.{cases_lt}
use Rattle.std.proofs.lemmas.Bool.Decides.{nat_tests}
use Rattle.std.proofs.Math.Nat.{mul-le-mul_left, pow-le-pow_right, div-eq_of_lt, le-div_iff_mul-le}
use Rattle.ss_amt.specs.Node.{is_shape}

both : (a b : Bool) → (a && b) ≡ true → (a ≡ true) × (b ≡ true)
both true b h = (refl, h)
both false b h = absurd (cc)

-- what a shape says in numbers
pub record Fits (width height : ℕ) : Type 0 where
  pub wide : 1 ≤ width
  pub narrow : width ≤ 18
  pub bits : width * (height + 1) ≤ 63

pub shape-fits : (width height : ℕ) → is_shape width height ≡ true → Fits width height
shape-fits width height h =
    let first = both (leb 1 width && leb width 18) (leb (width * (height + 1)) 63) h in
    let second = both (leb 1 width) (leb width 18) first.0 in
    record { wide = leb-true 1 width second.0; narrow = leb-true width 18 second.1; bits = leb-true (width * (height + 1)) 63 first.1 }

pub fits-shape : (width height : ℕ) → Fits width height → is_shape width height ≡ true
fits-shape width height f = grind (arith, nat_tests, f.wide, f.narrow, f.bits)

pub fits-below : (width height lower : ℕ) → Fits width height → lower ≤ height → Fits width lower
fits-below width height lower f le =
    let less : width * (lower + 1) ≤ width * (height + 1) = mul-le-mul_left width (omega arith) in
    record { wide = f.wide; narrow = f.narrow; bits = omega (arith, less, f.bits) }

-- a node of every height has room for the bits of its slots
pub height-low : (width height : ℕ) → Fits width height → height < 63
height-low width height f =
    let less : 1 * (height + 1) ≤ width * (height + 1) = mul-le-mul_right (height + 1) f.wide in
    omega (arith, less, f.bits)

-- the bits of an index past the last slot
pub no_quotient : (n d : ℕ) → 0 < d → eqb (n / d) 0 ≡ ltb n d
no_quotient n d pos =
    elim (cases_lt n d) [
      | inl lt ↦ eq-eqb (n / d) 0 (div-eq_of_lt lt) ∙ sym (lt-ltb n d lt)
      | inr le ↦
          let some : 1 ≤ n / d = (le-div_iff_mul-le pos).1 (let whole : 1 * d ≤ n = omega arith in whole) in
          ne_eqb (n / d) 0 (λ e. absurd (omega arith)) ∙ sym (le-ltb n d le)
    ]

pub bitmap-room : (width : ℕ) → 2 ^ width ≤ 8 * max 1 (2 ^ width / 8)
bitmap-room zero = omega arith
bitmap-room (suc zero) = omega arith
bitmap-room (suc (suc zero)) = omega arith
bitmap-room (suc (suc (suc w))) =
    let e : 2 ^ (suc (suc (suc w))) ≡ 2 ^ w * 8 = ap (λ n. 2 ^ n) (omega arith) ∙ pow-add 2 w 3 in
    omega (arith, e)

-- ---- the indices below a node

pub slot-room : (width height first slot : ℕ) → first + 2 ^ (width * (height + 1)) ≤ 2 ^ 63 → slot < 2 ^ width → first + slot * 2 ^ (width * height) + 2 ^ (width * height) ≤ 2 ^ 63
slot-room width height first slot room lt =
    let split : width * (height + 1) ≡ width + width * height = omega arith in
    let power : 2 ^ (width * (height + 1)) ≡ 2 ^ width * 2 ^ (width * height) = ap (λ n. 2 ^ n) split ∙ pow-add 2 width (width * height) in
    let less : (slot + 1) * 2 ^ (width * height) ≤ 2 ^ width * 2 ^ (width * height) = mul-le-mul_right (2 ^ (width * height)) (omega arith) in
    let more : (slot + 1) * 2 ^ (width * height) ≡ slot * 2 ^ (width * height) + 2 ^ (width * height) = omega arith in
    omega (arith, room, power, less, more)

-- a node has room for its own slots
pub width-room : (width height first : ℕ) → first + 2 ^ (width * (height + 1)) ≤ 2 ^ 63 → first + 2 ^ width ≤ 2 ^ 63
width-room width height first room =
    let less : width * 1 ≤ width * (height + 1) = mul-le-mul_left width (omega arith) in
    let power : 2 ^ width ≤ 2 ^ (width * (height + 1)) = pow-le-pow_right {n = 2} (omega arith) (omega (arith, less)) in
    omega (arith, room, power)
