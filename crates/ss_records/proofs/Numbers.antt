-- Bytes and numbers as fields.
use Rattle.std.proofs.Common.{◌≡◌, ℕ, ◌-◌, ◌^◌, ◌≤◌, ◌<◌, false, ltb, List, [], ◌∷◌, ◌++◌, length, take, drop, Ok, refl, sym, ap, ◌∙◌, arith, length-append, lit<}
use Rattle.std.specs.Prelude.{◌||◌, nat_lt}
use Rattle.std.specs.Int.{Width, w8, w16, w32, w64, byte_len, from_be_bytes, to_be_bytes}
use Rattle.std.proofs.lemmas.Bool.{ltb-false, le-ltb, or_parts, or_from}
use Rattle.std.proofs.lemmas.List.{take_at, drop_at, take-append-drop, length-take-le}
use Rattle.std.proofs.lemmas.Nat.{be_bytes_2, be_bytes_4, be_bytes_8, from_be_bytes-to_be_bytes_2, from_be_bytes-to_be_bytes_4, from_be_bytes-to_be_bytes_8}
use Rattle.ss_cid.proofs.Chains.{bind-Ok, guard-Ok, Ok-both}
use Rattle.ss_records.specs.Record.{number}
use Rattle.ss_records.specs.Fields.{bytes_at, number_at, number_of, within}
use Rattle.ss_records.proofs.Parts.{IsBytes, IsBytes-drop, IsBytes-take, Takes, IsField, IsWhole, ended_whole}

-- so many bytes were there
pub bytes_at-Ok : (n : ℕ) (bytes x rest : List ℕ) → bytes_at n bytes ≡ Ok (x, rest) → (n ≤ length bytes) × (take n bytes ≡ x) × (drop n bytes ≡ rest)
unfolding bytes_at
bytes_at-Ok n bytes x rest h =
    let there = guard-Ok (ltb (length bytes) n) 0 (Ok (take n bytes, drop n bytes)) (x, rest) h in
    let both = Ok-both there.1 in
    (ltb-false (length bytes) n there.0, both.0, both.1)

-- and are read again
pub bytes_at-again : (x rest : List ℕ) → bytes_at (length x) (x ++ rest) ≡ Ok (x, rest)
unfolding bytes_at
bytes_at-again x rest =
    let long : ltb (length (x ++ rest)) (length x) ≡ false = le-ltb _ _ (omega (arith, length-append x rest)) in
    rw (long, take_at x rest (length x) refl, drop_at x rest (length x) refl) refl

bytes_take : (n : ℕ) (bytes x rest : List ℕ) → IsBytes bytes → bytes_at n bytes ≡ Ok (x, rest) → Takes bytes x rest × (length x ≡ n)
bytes_take n bytes x rest small h =
    let r = bytes_at-Ok n bytes x rest h in (
      record { parts = rw (← r.1, ← r.2) (sym (take-append-drop n bytes)); rest_bytes = rw (← r.2) (IsBytes-drop n bytes small) },
      rw (← r.1) (length-take-le n bytes r.0),
    )

-- so many bytes are a field
pub bytes_field : (n : ℕ) → IsField (λ x. x) (λ x. length x ≡ n) (bytes_at n)
bytes_field n = record { takes = bytes_take n; again = λ x rest e. rw (← e) (bytes_at-again x rest) }

-- a width and the numbers that have it
pub record IsWide (w : Width) (limit : ℕ) : Type 0 where
  pub len : (n : ℕ) → length (to_be_bytes w n) ≡ byte_len w
  pub back : (bytes : List ℕ) → length bytes ≡ byte_len w → IsBytes bytes → to_be_bytes w (from_be_bytes w bytes) ≡ bytes
  pub again : (n : ℕ) → n < limit → from_be_bytes w (to_be_bytes w n) ≡ n

one_byte : (bytes : List ℕ) → length bytes ≡ 1 → IsBytes bytes → to_be_bytes w8 (from_be_bytes w8 bytes) ≡ bytes
one_byte (b ∷ []) e small = ap (λ c. c ∷ []) (omega (arith, small 0))
one_byte [] e small = absurd (omega arith)
one_byte (a ∷ b ∷ bytes) e small = absurd (omega arith)

pub wide8 : IsWide w8 (2 ^ 8)
wide8 = record { len = λ n. refl; back = one_byte; again = λ n lt. omega arith }

pub wide16 : IsWide w16 (2 ^ 16)
wide16 = record {
  len = λ n. refl;
  back = λ bytes len small. be_bytes_2 bytes _ len small refl;
  again = λ n lt. from_be_bytes-to_be_bytes_2 n lt;
}

pub wide32 : IsWide w32 (2 ^ 32)
wide32 = record {
  len = λ n. refl;
  back = λ bytes len small. be_bytes_4 bytes _ len small refl;
  again = λ n lt. from_be_bytes-to_be_bytes_4 n lt;
}

pub wide64 : IsWide w64 (2 ^ 64)
wide64 = record {
  len = λ n. refl;
  back = λ bytes len small. be_bytes_8 bytes _ len small refl;
  again = λ n lt. from_be_bytes-to_be_bytes_8 n lt;
}

-- a number has this many bytes
pub length-number : (w : Width) (limit n : ℕ) → IsWide w limit → length (number w n) ≡ byte_len w
unfolding number
length-number w limit n wide = wide.len n

abbrev pub IsBetween : ℕ → ℕ → ℕ → Type 0
IsBetween low high n = (low ≤ n) × (n ≤ high)

-- what a number that was read says
pub record IsRead (w : Width) (low high : ℕ) (bytes : List ℕ) (n : ℕ) (rest : List ℕ) : Type 0 where
  pub there : byte_len w ≤ length bytes
  pub value : from_be_bytes w (take (byte_len w) bytes) ≡ n
  pub rest_is : drop (byte_len w) bytes ≡ rest
  pub between : IsBetween low high n

pub number_at-Ok : (w : Width) (low high : ℕ) (bytes : List ℕ) (n : ℕ) (rest : List ℕ) → number_at w low high bytes ≡ Ok (n, rest) → IsRead w low high bytes n rest
unfolding number_at
number_at-Ok w low high bytes n rest h =
    let field = bind-Ok (bytes_at (byte_len w) bytes) (λ f. within low high bytes (from_be_bytes w f.0, f.1)) (n, rest) h in
    let front = bytes_at-Ok (byte_len w) bytes field.0.0 field.0.1 field.1 in
    let tested = guard-Ok (nat_lt (from_be_bytes w field.0.0) low || nat_lt high (from_be_bytes w field.0.0)) (length bytes) (Ok (from_be_bytes w field.0.0, field.0.1)) (n, rest) field.2 in
    let both = Ok-both tested.1 in
    let bounds = or_parts _ _ tested.0 in
    record {
      there = front.0;
      value = ap (from_be_bytes w) front.1 ∙ both.0;
      rest_is = front.2 ∙ both.1;
      between = (rw (← both.0) (ltb-false _ low bounds.0), rw (← both.0) (ltb-false high _ bounds.1));
    }

number_takes : (w : Width) (limit low high : ℕ) → IsWide w limit → (bytes : List ℕ) (n : ℕ) (rest : List ℕ) → IsBytes bytes
    → number_at w low high bytes ≡ Ok (n, rest) → Takes bytes (number w n) rest × IsBetween low high n
unfolding number
number_takes w limit low high wide bytes n rest small h =
    let r = number_at-Ok w low high bytes n rest h in
    let front : to_be_bytes w n ≡ take (byte_len w) bytes =
    rw (← r.value) (wide.back (take (byte_len w) bytes) (length-take-le (byte_len w) bytes r.there) (IsBytes-take (byte_len w) bytes small)) in
    (record { parts = rw (front, ← r.rest_is) (sym (take-append-drop (byte_len w) bytes)); rest_bytes = rw (← r.rest_is) (IsBytes-drop (byte_len w) bytes small) }, r.between)

number_again : (w : Width) (limit low high : ℕ) → IsWide w limit → high < limit → (n : ℕ) (rest : List ℕ) → IsBetween low high n
    → number_at w low high (number w n ++ rest) ≡ Ok (n, rest)
unfolding number number_at bytes_at
number_again w limit low high wide fits n rest between =
    let len = wide.len n in
    let long : ltb (length (to_be_bytes w n ++ rest)) (byte_len w) ≡ false = le-ltb _ _ (omega (arith, length-append (to_be_bytes w n) rest)) in
    let inside : (nat_lt n low || nat_lt high n) ≡ false = or_from _ _ (le-ltb n low between.0) (le-ltb high n between.1) in
    rw (long, take_at (to_be_bytes w n) rest (byte_len w) len, drop_at (to_be_bytes w n) rest (byte_len w) len, wide.again n (omega arith), inside) refl

-- a number is a field
pub number_field : (w : Width) (limit low high : ℕ) → IsWide w limit → high < limit → IsField (number w) (IsBetween low high) (number_at w low high)
number_field w limit low high wide fits = record {
  takes = number_takes w limit low high wide;
  again = number_again w limit low high wide fits;
}

-- a number of 64 bits with nothing behind it
pub number_whole : (low : ℕ) → IsWhole (number w64) (IsBetween low (2 ^ 64 - 1)) (number_of low)
unfolding number_of
number_whole low = ended_whole (number_field w64 (2 ^ 64) low (2 ^ 64 - 1) wide64 (lit< tt))
