-- Groups of five bits of a hash, and the numbers of bitfields.
use Rattle.std.proofs.Common.{◌≡◌, ℕ, zero, suc, ◌+◌, ◌-◌, ◌*◌, ◌/◌, ◌%◌, ◌^◌, ◌<◌, ◌≤◌, List, [], ◌∷◌, length, take, drop, get_or, refl, sym, ap, ◌∙◌, arith, length-drop}
use Rattle.std.specs.Int.Digits.{number_from_digits, number_from_digits_after, AllBelowBase}
use Rattle.std.proofs.lemmas.Int.Digits.{number_more, number_after_append, number_after_lt, number_lt}
use Rattle.std.proofs.lemmas.List.{take-append-drop}
use Rattle.std.proofs.lemmas.Nat.{pow_pos, pow-add}
use Rattle.std.proofs.Math.Nat.{div-div-eq-div-mul, pow-suc, pow-le-pow_right, mul-le-mul_right, mul_assoc, mul_comm, le-div_iff_mul-le, div-lt_iff_lt-mul}
use Rattle.ss_hamt.specs.Slots.{group_of}

-- ---- bytes are digits in base 256

pub digits-below : (bytes : List ℕ) → ((i : ℕ) → get_or bytes i 0 < 256) → AllBelowBase 256 bytes
digits-below [] fits = tt
digits-below (b ∷ bytes) fits = (fits 0, digits-below bytes (λ i. fits (suc i)))

pub digits-take : (n : ℕ) (bytes : List ℕ) → AllBelowBase 256 bytes → AllBelowBase 256 (take n bytes)
digits-take zero bytes h = tt
digits-take (suc n) [] h = tt
digits-take (suc n) (b ∷ bytes) h = (h.0, digits-take n bytes h.1)

digits-drop : (n : ℕ) (bytes : List ℕ) → AllBelowBase 256 bytes → AllBelowBase 256 (drop n bytes)
digits-drop zero bytes h = h
digits-drop (suc n) [] h = tt
digits-drop (suc n) (b ∷ bytes) h = digits-drop n bytes h.1

-- at most three bytes
pub few-digits : (bytes : List ℕ) → AllBelowBase 256 bytes → length bytes ≤ 3 → number_from_digits 256 bytes < 2 ^ 24
few-digits bytes h le =
    let most : 256 ^ length bytes ≤ 256 ^ 3 = pow-le-pow_right {n = 256} (omega arith) le in
    omega (arith, number_lt 256 bytes h, most)

-- ---- the number without its last digits

power-256 : (k : ℕ) → 256 ^ k ≡ 2 ^ (8 * k)
power-256 zero = refl
power-256 (suc k) =
    let e : 8 * suc k ≡ 8 * k + 8 = omega arith in
    pow-suc 256 k ∙ ap (λ n. n * 256) (power-256 k) ∙ sym (ap (λ n. 2 ^ n) e ∙ pow-add 2 (8 * k) 8)

at_least : (n : ℕ) (ds : List ℕ) → n * 256 ^ length ds ≤ number_from_digits_after 256 n ds
at_least n [] = omega arith
at_least n (d ∷ ds) =
    let more : (n * 256) * 256 ^ length ds ≤ (n * 256 + d) * 256 ^ length ds = mul-le-mul_right (256 ^ length ds) (omega arith) in
    let power : 256 ^ length (d ∷ ds) ≡ 256 ^ length ds * 256 = pow-suc 256 (length ds) in
    let same : n * 256 ^ length (d ∷ ds) ≡ (n * 256) * 256 ^ length ds =
    ap (λ p. n * p) (power ∙ mul_comm (256 ^ length ds) 256) ∙ sym (mul_assoc n 256 (256 ^ length ds)) in
    omega (arith, same, more, at_least (n * 256 + d) ds)

pub first-digits : (n : ℕ) (ds : List ℕ) → AllBelowBase 256 ds → number_from_digits_after 256 n ds / 256 ^ length ds ≡ n
first-digits n ds h =
    let some : 0 < 256 ^ length ds = omega (arith, power-256 (length ds), pow_pos (8 * length ds)) in
    let low : n ≤ number_from_digits_after 256 n ds / 256 ^ length ds = (le-div_iff_mul-le some).1 (at_least n ds) in
    let high : number_from_digits_after 256 n ds / 256 ^ length ds < n + 1 = (div-lt_iff_lt-mul some).1 (number_after_lt 256 n ds h) in
    omega arith

-- five bits of the last two bytes of a number
low-bits : (t w s : ℕ) → 1 ≤ s → s ≤ 11 → (t * 65536 + w) / 2 ^ s % 32 ≡ w / 2 ^ s % 32
low-bits t w zero l h = absurd (omega arith)
low-bits t w (suc zero) l h = omega arith
low-bits t w (suc (suc zero)) l h = omega arith
low-bits t w (suc (suc (suc zero))) l h = omega arith
low-bits t w (suc (suc (suc (suc zero)))) l h = omega arith
low-bits t w (suc (suc (suc (suc (suc zero))))) l h = omega arith
low-bits t w (suc (suc (suc (suc (suc (suc zero)))))) l h = omega arith
low-bits t w (suc (suc (suc (suc (suc (suc (suc zero))))))) l h = omega arith
low-bits t w (suc (suc (suc (suc (suc (suc (suc (suc zero)))))))) l h = omega arith
low-bits t w (suc (suc (suc (suc (suc (suc (suc (suc (suc zero))))))))) l h = omega arith
low-bits t w (suc (suc (suc (suc (suc (suc (suc (suc (suc (suc zero)))))))))) l h = omega arith
low-bits t w (suc (suc (suc (suc (suc (suc (suc (suc (suc (suc (suc zero))))))))))) l h = omega arith
low-bits t w (suc (suc (suc (suc (suc (suc (suc (suc (suc (suc (suc (suc s)))))))))))) l h = absurd (omega arith)

-- five bits from two bytes, if these are where the bits lie
pub group-by : (hash : List ℕ) (first level shift : ℕ) → AllBelowBase 256 hash → length hash ≡ 32 → first ≤ 30 → level ≤ 50 → 1 ≤ shift → shift ≤ 11 → 5 * level + shift ≡ 8 * first + 11 →
    (get_or hash first 0 * 256 + get_or hash (first + 1) 0) / 2 ^ shift % 32 ≡ group_of hash level
group-by hash first level shift digits len low deep some few at =
    let word = get_or hash first 0 * 256 + get_or hash (first + 1) 0 in
    let top = number_from_digits 256 (take first hash) in
    let m = first + 1 + 1 in
    let one = number_more 256 hash first (omega arith) in
    let two = number_more 256 hash (first + 1) (omega arith) in
    let prefix : number_from_digits 256 (take m hash) ≡ top * 65536 + word = omega (arith, one, two) in
    let whole : number_from_digits 256 hash ≡ number_from_digits_after 256 (number_from_digits 256 (take m hash)) (drop m hash) =
    ap (number_from_digits 256) (sym (take-append-drop m hash)) ∙ number_after_append 256 0 (take m hash) (drop m hash) in
    let rest : length (drop m hash) ≡ 30 - first = omega (arith, length-drop m hash) in
    let power : 256 ^ length (drop m hash) ≡ 2 ^ (8 * (30 - first)) = power-256 (length (drop m hash)) ∙ ap (λ n. 2 ^ (8 * n)) rest in
    let quotient : number_from_digits 256 hash / 2 ^ (8 * (30 - first)) ≡ top * 65536 + word =
    ap (λ n. number_from_digits 256 hash / n) (sym power) ∙ ap (λ n. n / 256 ^ length (drop m hash)) whole ∙ first-digits _ (drop m hash) (digits-drop m hash digits) ∙ prefix in
    let bits : 251 - 5 * level ≡ 8 * (30 - first) + shift = omega arith in
    let split : number_from_digits 256 hash / 2 ^ (251 - 5 * level) ≡ (top * 65536 + word) / 2 ^ shift =
    ap (λ n. number_from_digits 256 hash / n) (ap (λ n. 2 ^ n) bits ∙ pow-add 2 (8 * (30 - first)) shift)
    ∙ sym (div-div-eq-div-mul (number_from_digits 256 hash) (2 ^ (8 * (30 - first))) (2 ^ shift)) ∙ ap (λ n. n / 2 ^ shift) quotient in
    sym (ap (λ n. n % 32) split ∙ low-bits top word shift some few)
