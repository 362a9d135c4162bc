-- Bits that come in at one end of a number and leave at the other.
use Rattle.std.proofs.Common.{◌≡◌, ℕ, ◌+◌, ◌-◌, ◌*◌, ◌/◌, ◌%◌, ◌^◌, ◌<◌, ◌≤◌, ap, ap₂, sym, subst, ◌∙◌, arith}
use Rattle.std.proofs.lemmas.Nat.{pow-add, pow_pos, mul-add-lt, shr-shr, shr_high, mod_low, field_of, mod-pow-add, mod_below, shl_whole, shr_below}

-- bits that come in are few
pub feed_fits : (held len width value : ℕ) → held < 2 ^ len → value < 2 ^ width → held * 2 ^ width + value < 2 ^ (len + width)
feed_fits held len width value small below =
    let fits = mul-add-lt held (2 ^ width) value (2 ^ len) small below in
    omega (arith, pow-add 2 len width)

-- and no bit is shifted out
pub shifted_whole : (held len width : ℕ) → held < 2 ^ len → len + width ≤ 16 → held * 2 ^ width % 2 ^ 32 ≡ held * 2 ^ width
shifted_whole held len width small few = shl_whole held len width 32 small (omega arith)

-- what a queue of bits holds of a number: its last len bits
-- after bits came in, the queue holds the last bits of the longer number
pub feed-mod : (n len width value : ℕ) → value < 2 ^ width → (n * 2 ^ width + value) % 2 ^ (len + width) ≡ n % 2 ^ len * 2 ^ width + value
feed-mod n len width value below =
    mod-pow-add (n * 2 ^ width + value) len width
    ∙ ap₂ (λ high low. high % 2 ^ len * 2 ^ width + low) (shr_high n width value below) (mod_low n width value below)

-- and what stands before them is as it was
pub feed-div : (n len width value : ℕ) → value < 2 ^ width → (n * 2 ^ width + value) / 2 ^ (len + width) ≡ n / 2 ^ len
feed-div n len width value below =
    let turned : len + width ≡ width + len = omega arith in
    ap (λ k. (n * 2 ^ width + value) / 2 ^ k) turned ∙ sym (shr-shr (n * 2 ^ width + value) width len)
    ∙ ap (λ high. high / 2 ^ len) (shr_high n width value below)

-- the bits that leave are the last ones of what stands before the others then
pub emit-value : (n len width : ℕ) → n % 2 ^ (width + len) / 2 ^ len ≡ n / 2 ^ len % 2 ^ width
emit-value n len width = field_of n width len

pub emit-mod : (n len width : ℕ) → n % 2 ^ (width + len) % 2 ^ len ≡ n % 2 ^ len
emit-mod n len width =
    ap (λ m. m % 2 ^ len) (mod-pow-add n width len) ∙ mod_low (n / 2 ^ len % 2 ^ width) len (n % 2 ^ len) (mod_below n (2 ^ len) (pow_pos len))

pub emit-div : (n len width : ℕ) → n / 2 ^ len / 2 ^ width ≡ n / 2 ^ (width + len)
emit-div n len width =
    let turned : len + width ≡ width + len = omega arith in
    shr-shr n len width ∙ ap (λ k. n / 2 ^ k) turned

-- the first eight bits of a queue are a byte
pub byte_fits : (held len : ℕ) → 8 ≤ len → held < 2 ^ len → held / 2 ^ (len - 8) < 2 ^ 8
byte_fits held len enough small =
    let split : len ≡ 8 + (len - 8) = omega arith in
    shr_below held 8 (len - 8) (subst (λ m. held < 2 ^ m) split small)

-- the first five bits of a queue of so many are the value of a character
pub value_fits : (held len : ℕ) → 5 ≤ len → held < 2 ^ len → held / 2 ^ (len - 5) < 2 ^ 5
value_fits held len enough small =
    let split : len ≡ 5 + (len - 5) = omega arith in
    shr_below held 5 (len - 5) (subst (λ m. held < 2 ^ m) split small)
