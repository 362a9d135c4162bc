-- Big-endian numbers in bytes.
use Rattle.std.proofs.Common.{◌≡◌, ℕ, suc, ◌+◌, ◌^◌, ◌<◌, ◌≤◌, false, ltb, List, [], ◌∷◌, ◌++◌, length, get_or, take, drop, Ok, refl, sym, ap, subst, arith, inl, inr}
use Rattle.std.specs.Int.{Width, w8, w16, w32, w64, byte_len, from_be_bytes, to_be_bytes}
use Rattle.std.proofs.Math.Nat.{mod-eq_of_lt}
use Rattle.std.proofs.Math.Seq.{drop-append_seam}
use Rattle.std.proofs.lemmas.Bool.{cases_lt, ltb-false, le-ltb}
use Rattle.std.proofs.lemmas.List.{take_at, drop_at, take-append-drop, length-append, length-take, get_or-drop, get_or-take, get_or_past, get_or_append_left}
use Rattle.std.proofs.lemmas.Nat.{be_bytes_2, be_bytes_4, be_bytes_8, from_be_bytes-to_be_bytes_2, from_be_bytes-to_be_bytes_4, from_be_bytes-to_be_bytes_8}
use Rattle.ss_cid.proofs.Chains.{guard-Ok, Ok-same}
use Rattle.ss_cbor.specs.Reading.{wide_at}
use Rattle.ss_cbor.specs.declared.fault.CborKind.TheVariants.{Truncated, LongHead}

abbrev pub IsBytes : List ℕ → Type 0
IsBytes bytes = (i : ℕ) → get_or bytes i 0 < 256

pub IsBytes-drop : (n : ℕ) (bytes : List ℕ) → IsBytes bytes → IsBytes (drop n bytes)
IsBytes-drop n bytes h i = rw get_or-drop (h (n + i))

pub IsBytes-take : (n : ℕ) (bytes : List ℕ) → IsBytes bytes → IsBytes (take n bytes)
IsBytes-take n bytes h i =
    elim (cases_lt i n) [
      | inl lt ↦ rw (get_or-take n bytes i 0 lt) (h i)
      | inr le ↦ rw (get_or_past (take n bytes) i 0 (omega (arith, length-take n bytes))) (omega arith)
    ]

pub IsBytes-rest : (b : ℕ) (bytes : List ℕ) → IsBytes (b ∷ bytes) → IsBytes bytes
IsBytes-rest b bytes h i = h (suc i)

pub IsBytes-right : (front rest : List ℕ) → IsBytes (front ++ rest) → IsBytes rest
IsBytes-right front rest h = subst IsBytes (drop-append_seam front rest) (IsBytes-drop (length front) (front ++ rest) h)

pub IsBytes-left : (front rest : List ℕ) → IsBytes (front ++ rest) → IsBytes front
IsBytes-left front rest h i =
    elim (cases_lt i (length front)) [
      | inl lt ↦ subst (λ (n : ℕ). n < 256) (get_or_append_left front rest 0 i lt) (h i)
      | inr le ↦ rw (get_or_past front i 0 le) (omega arith)
    ]

-- a width reads back what it writes
pub record IsWide (w : Width) (limit : ℕ) : Type 0 where
  pub len : (n : ℕ) → length (to_be_bytes w n) ≡ byte_len w
  pub back : (bytes : List ℕ) → length bytes ≡ byte_len w → IsBytes bytes → to_be_bytes w (from_be_bytes w bytes) ≡ bytes
  pub again : (n : ℕ) → n < limit → from_be_bytes w (to_be_bytes w n) ≡ n
  pub below : (bytes : List ℕ) → IsBytes bytes → from_be_bytes w bytes < limit

back_8 : (bytes : List ℕ) → length bytes ≡ 1 → IsBytes bytes → to_be_bytes w8 (from_be_bytes w8 bytes) ≡ bytes
back_8 [] len fits = absurd (omega arith)
back_8 (b ∷ []) len fits = let small : b < 256 = fits 0 in ap (λ (n : ℕ). n ∷ []) (mod-eq_of_lt small)
back_8 (b ∷ c ∷ bytes) len fits = absurd (omega arith)

pub wide8 : IsWide w8 (2 ^ 8)
wide8 = record {
  len = λ n. refl;
  back = back_8;
  again = λ n lt. mod-eq_of_lt lt;
  below = λ bytes fits. omega (arith, fits 0);
}

pub wide16 : IsWide w16 (2 ^ 16)
wide16 = record {
  len = λ n. refl;
  back = λ bytes len fits. be_bytes_2 bytes _ len fits refl;
  again = λ n lt. from_be_bytes-to_be_bytes_2 n lt;
  below = λ bytes fits. omega (arith, fits 0, fits 1);
}

pub wide32 : IsWide w32 (2 ^ 32)
wide32 = record {
  len = λ n. refl;
  back = λ bytes len fits. be_bytes_4 bytes _ len fits refl;
  again = λ n lt. from_be_bytes-to_be_bytes_4 n lt;
  below = λ bytes fits. omega (arith, fits 0, fits 1, fits 2, fits 3);
}

pub wide64 : IsWide w64 (2 ^ 64)
wide64 = record {
  len = λ n. refl;
  back = λ bytes len fits. be_bytes_8 bytes _ len fits refl;
  again = λ n lt. from_be_bytes-to_be_bytes_8 n lt;
  below = λ bytes fits. omega (arith, fits 0, fits 1, fits 2, fits 3, fits 4, fits 5, fits 6, fits 7);
}

-- what was taken from the front, and that what is left are bytes
pub record Takes (bytes front rest : List ℕ) : Type 0 where
  pub parts : bytes ≡ front ++ rest
  pub fits : IsBytes rest

module _ (w : Width) (limit least at end : ℕ) (wide : IsWide w limit) where
  -- an argument that is read is spelled so
  pub wide_takes : (bytes : List ℕ) (x : ℕ × List ℕ) → IsBytes bytes → wide_at w least at end bytes ≡ Ok x →
      Takes bytes (to_be_bytes w x.0) x.1 × (least ≤ x.0) × (x.0 < limit)
  unfolding wide_at
  wide_takes bytes x fits e =
      let k = byte_len w in
      let n = from_be_bytes w (take k bytes) in
      let long = guard-Ok (ltb (length bytes) k) (record { kind = Truncated; at = end }) _ x e in
      let shortest = guard-Ok (ltb n least) (record { kind = LongHead; at = at }) _ x long.1 in
      let is : (n, drop k bytes) ≡ x = Ok-same shortest.1 in
      let n-is : n ≡ x.0 = ap (λ (p : ℕ × List ℕ). p.0) is in
      let rest-is : drop k bytes ≡ x.1 = ap (λ (p : ℕ × List ℕ). p.1) is in
      let enough : k ≤ length bytes = ltb-false _ _ long.0 in
      let least-le : least ≤ n = ltb-false _ _ shortest.0 in
      let front : to_be_bytes w n ≡ take k bytes = wide.back (take k bytes) (omega (arith, length-take k bytes)) (IsBytes-take k bytes fits) in
      let below : n < limit = wide.below (take k bytes) (IsBytes-take k bytes fits) in
      rw (← n-is, ← rest-is) (record { parts = rw front (sym (take-append-drop k bytes)); fits = IsBytes-drop k bytes fits }, least-le, below)

  -- an argument that is spelled so is read
  pub wide_again : (n : ℕ) (rest : List ℕ) → least ≤ n → n < limit → wide_at w least at end (to_be_bytes w n ++ rest) ≡ Ok (n, rest)
  unfolding wide_at
  wide_again n rest le lt =
      let len = wide.len n in
      let long : ltb (length (to_be_bytes w n ++ rest)) (byte_len w) ≡ false = le-ltb _ _ (omega (arith, length-append (to_be_bytes w n) rest)) in
      let shortest : ltb n least ≡ false = le-ltb _ _ le in
      rw (long, take_at (to_be_bytes w n) rest (byte_len w) len, drop_at (to_be_bytes w n) rest (byte_len w) len, wide.again n lt, shortest) refl
