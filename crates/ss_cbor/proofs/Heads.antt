-- Heads: what is read is spelled so, and what is spelled so is read.
use Rattle.std.proofs.Common.{◌≡◌, ℕ, ◌+◌, ◌*◌, ◌^◌, ◌<◌, ◌≤◌, Bool, true, false, cond, eqb, ltb, List, [], ◌∷◌, ◌++◌, ◌⊎◌, Ok, refl, ap, arith, inl, inr}
use Rattle.std.specs.Prelude.{◌&&◌}
use Rattle.std.specs.Int.{Width, w8, w16, w32, w64, to_be_bytes}
use Rattle.std.proofs.lemmas.Bool.{ltb-true, lt-ltb, le-ltb, eqb-true, cases_lt}
use Rattle.ss_cid.proofs.Chains.{Ok-same}
use Rattle.ss_cbor.specs.Item.{head}
use Rattle.ss_cbor.specs.Reading.{argument_at, has_indefinite_form}
use Rattle.ss_cbor.proofs.Numbers.{IsBytes, wide8, wide16, wide32, wide64, Takes, wide_takes, wide_again}

-- which way a choice went
pub choose : {A : Type 0} (b : Bool) (x y z : A) → cond b x y ≡ z → ((b ≡ true) × (x ≡ z)) ⊎ ((b ≡ false) × (y ≡ z))
choose true x y z h = inl (refl, h)
choose false x y z h = inr (refl, h)

-- ---- the five forms of a head

head_0 : (major n : ℕ) → n < 24 → head major n ≡ (32 * major + n) ∷ []
unfolding head
head_0 major n lt = rw (lt-ltb n 24 lt) refl

head_8 : (major n : ℕ) → 24 ≤ n → n < 2 ^ 8 → head major n ≡ (32 * major + 24) ∷ to_be_bytes w8 n
unfolding head
head_8 major n le lt = rw (le-ltb n 24 le, lt-ltb n (2 ^ 8) lt) refl

head_16 : (major n : ℕ) → 2 ^ 8 ≤ n → n < 2 ^ 16 → head major n ≡ (32 * major + 25) ∷ to_be_bytes w16 n
unfolding head
head_16 major n le lt = rw (le-ltb n 24 (omega arith), le-ltb n (2 ^ 8) le, lt-ltb n (2 ^ 16) lt) refl

head_32 : (major n : ℕ) → 2 ^ 16 ≤ n → n < 2 ^ 32 → head major n ≡ (32 * major + 26) ∷ to_be_bytes w32 n
unfolding head
head_32 major n le lt = rw (le-ltb n 24 (omega arith), le-ltb n (2 ^ 8) (omega arith), le-ltb n (2 ^ 16) le, lt-ltb n (2 ^ 32) lt) refl

head_64 : (major n : ℕ) → 2 ^ 32 ≤ n → head major n ≡ (32 * major + 27) ∷ to_be_bytes w64 n
unfolding head
head_64 major n le = rw (le-ltb n 24 (omega arith), le-ltb n (2 ^ 8) (omega arith), le-ltb n (2 ^ 16) (omega arith), le-ltb n (2 ^ 32) le) refl

-- ---- read again

-- how a head is spelled, and that its argument is read again
pub record Spelled (major n : ℕ) : Type 0 where
  pub low : ℕ
  pub tail : List ℕ
  pub is : head major n ≡ (32 * major + low) ∷ tail
  pub small : low < 32
  pub again : (at end : ℕ) (rest : List ℕ) → argument_at major low at end (tail ++ rest) ≡ Ok (n, rest)

spelled_0 : (major n : ℕ) → n < 24 → Spelled major n
unfolding argument_at
spelled_0 major n lt = record {
  low = n;
  tail = [];
  is = head_0 major n lt;
  small = omega arith;
  again = λ at end rest. rw (lt-ltb n 24 lt) refl;
}

spelled_8 : (major n : ℕ) → 24 ≤ n → n < 2 ^ 8 → Spelled major n
unfolding argument_at
spelled_8 major n le lt = record {
  low = 24;
  tail = to_be_bytes w8 n;
  is = head_8 major n le lt;
  small = omega arith;
  again = λ at end rest. wide_again w8 (2 ^ 8) 24 at end wide8 n rest le lt;
}

spelled_16 : (major n : ℕ) → 2 ^ 8 ≤ n → n < 2 ^ 16 → Spelled major n
unfolding argument_at
spelled_16 major n le lt = record {
  low = 25;
  tail = to_be_bytes w16 n;
  is = head_16 major n le lt;
  small = omega arith;
  again = λ at end rest. wide_again w16 (2 ^ 16) (2 ^ 8) at end wide16 n rest le lt;
}

spelled_32 : (major n : ℕ) → 2 ^ 16 ≤ n → n < 2 ^ 32 → Spelled major n
unfolding argument_at
spelled_32 major n le lt = record {
  low = 26;
  tail = to_be_bytes w32 n;
  is = head_32 major n le lt;
  small = omega arith;
  again = λ at end rest. wide_again w32 (2 ^ 32) (2 ^ 16) at end wide32 n rest le lt;
}

spelled_64 : (major n : ℕ) → 2 ^ 32 ≤ n → n < 2 ^ 64 → Spelled major n
unfolding argument_at
spelled_64 major n le lt = record {
  low = 27;
  tail = to_be_bytes w64 n;
  is = head_64 major n le;
  small = omega arith;
  again = λ at end rest. wide_again w64 (2 ^ 64) (2 ^ 32) at end wide64 n rest le lt;
}

pub spelled : (major n : ℕ) → n < 2 ^ 64 → Spelled major n
spelled major n lt =
    elim (cases_lt n 24) [
      | inl a ↦ spelled_0 major n a
      | inr a ↦ elim (cases_lt n (2 ^ 8)) [
        | inl b ↦ spelled_8 major n a b
        | inr b ↦ elim (cases_lt n (2 ^ 16)) [
          | inl c ↦ spelled_16 major n b c
          | inr c ↦ elim (cases_lt n (2 ^ 32)) [ inl d ↦ spelled_32 major n c d | inr d ↦ spelled_64 major n d lt ]
        ]
      ]
    ]

-- ---- spelled so

-- what a head that was read took
pub record TakesHead (major low : ℕ) (bytes : List ℕ) (x : ℕ × List ℕ) : Type 0 where
  pub takes : Takes ((32 * major + low) ∷ bytes) (head major x.0) x.1
  pub below : x.0 < 2 ^ 64

module _ (major low : ℕ) (bytes : List ℕ) (x : ℕ × List ℕ) where
  takes_wide : (form : ℕ) (w : Width) (limit least : ℕ) → low ≡ form → limit ≤ 2 ^ 64 →
      (least ≤ x.0 → x.0 < limit → head major x.0 ≡ (32 * major + form) ∷ to_be_bytes w x.0) →
      Takes bytes (to_be_bytes w x.0) x.1 × (least ≤ x.0) × (x.0 < limit) → TakesHead major low bytes x
  takes_wide form w limit least low-is bound spells (t, le, lt) = record {
    takes = record {
      parts = rw (spells le lt, low-is) (ap (λ (l : List ℕ). (32 * major + form) ∷ l) t.parts);
      fits = t.fits;
    };
    below = omega arith;
  }

  takes_narrow : IsBytes bytes → low < 24 → (low, bytes) ≡ x → TakesHead major low bytes x
  takes_narrow fits lt is = rw (← is) (record {
    takes = record { parts = rw (head_0 major low lt) refl; fits = fits };
    below = omega arith;
  })

  -- a head that is read is spelled so
  pub argument_takes : (at end : ℕ) → IsBytes bytes → argument_at major low at end bytes ≡ Ok x → TakesHead major low bytes x
  unfolding argument_at
  argument_takes at end fits h =
      elim (choose (ltb low 24) _ _ _ h) [
        | inl a ↦ takes_narrow fits (ltb-true _ _ a.0) (Ok-same a.1)
        | inr a ↦ elim (choose (eqb low 24) _ _ _ a.1) [
          | inl b ↦ takes_wide 24 w8 (2 ^ 8) 24 (eqb-true _ _ b.0) (omega arith) (head_8 major x.0) (wide_takes w8 (2 ^ 8) 24 at end wide8 bytes x fits b.1)
          | inr b ↦ elim (choose (eqb low 25) _ _ _ b.1) [
            | inl c ↦ takes_wide 25 w16 (2 ^ 16) (2 ^ 8) (eqb-true _ _ c.0) (omega arith) (head_16 major x.0) (wide_takes w16 (2 ^ 16) (2 ^ 8) at end wide16 bytes x fits c.1)
            | inr c ↦ elim (choose (eqb low 26) _ _ _ c.1) [
              | inl d ↦ takes_wide 26 w32 (2 ^ 32) (2 ^ 16) (eqb-true _ _ d.0) (omega arith) (head_32 major x.0) (wide_takes w32 (2 ^ 32) (2 ^ 16) at end wide32 bytes x fits d.1)
              | inr d ↦ elim (choose (eqb low 27) _ _ _ d.1) [
                | inl e ↦ takes_wide 27 w64 (2 ^ 64) (2 ^ 32) (eqb-true _ _ e.0) (omega arith) (λ le lt. head_64 major x.0 le) (wide_takes w64 (2 ^ 64) (2 ^ 32) at end wide64 bytes x fits e.1)
                | inr e ↦ elim (choose (eqb low 31 && has_indefinite_form major) _ _ _ e.1) [ inl f ↦ absurd (cc (f.1)) | inr f ↦ absurd (cc (f.1)) ]
              ]
            ]
          ]
        ]
      ]
