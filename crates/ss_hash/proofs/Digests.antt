-- Laws on digests.
use Rattle.std.proofs.Common.{◌≡◌, ◌↔◌, Result, Err, ℕ, ◌+◌, ◌-◌, ◌≤◌, ◌<◌, List, ◌++◌, length, take, replicate, inl, inr, sym, ap, ◌∙◌, arith}
use Rattle.std.specs.List.{flat_map}
use Rattle.std.proofs.lemmas.List.{length-take-le, take_at, take-take}
use Rattle.std.proofs.lemmas.Bool.{cases_lt}
use Rattle.byteorder.specs.Endian.{little_bytes}
use Rattle.ss_hash.specs.Blake2b.{blake2b, final_hash, compress, folded}
use Rattle.ss_hash.specs.Digest.{PartAt}

-- what a fault says does not depend on the value that stands beside it
Err-same : {A E : Type 0} {x y : E} → ◌≡◌ {A = Result A E} (Err x) (Err y) → x ≡ y
Err-same h = cc

pub carried : {A B E P : Type 0} (x y : E) → (◌≡◌ {A = Result A E} (Err x) (Err y) ↔ P) → ◌≡◌ {A = Result B E} (Err x) (Err y) ↔ P
carried x y says = (λ same. says.0 (ap Err (Err-same same)), λ p. ap Err (Err-same (says.1 p)))

-- a digest has as many bytes as it was asked for
pub length-blake2b : (n : ℕ) (m : List ℕ) → n ≤ 64 → length (blake2b n m) ≡ n
unfolding blake2b final_hash compress folded
length-blake2b n m h = length-take-le n (flat_map (little_bytes 8) (final_hash n m)) h

-- the digest is the front of what is answered
pub digest_front : (n : ℕ) (m out : List ℕ) → out ≡ blake2b n m ++ replicate (64 - n) 0 → length (blake2b n m) ≡ n → take n out ≡ blake2b n m
digest_front n m out e size = rw e (take_at (blake2b n m) (replicate (64 - n) 0) n size)

-- where two lists part earlier than at j, they are not equal up to j
parts_before : (xs ys : List ℕ) (i j : ℕ) → PartAt xs ys i → take j xs ≡ take j ys → i < j → ⊥
parts_before xs ys i j p same lt =
    p.differ (sym (take-take (i + 1) j xs (omega arith)) ∙ ap (take (i + 1)) same ∙ take-take (i + 1) j ys (omega arith))

-- two lists part at one place
pub part_unique : (xs ys : List ℕ) (i j : ℕ) → PartAt xs ys i → PartAt xs ys j → i ≡ j
part_unique xs ys i j p q =
    elim (cases_lt i j) [
      | inl lt ↦ absurd (parts_before xs ys i j p q.same lt)
      | inr le ↦
          elim (cases_lt j i) [
            | inl lt ↦ absurd (parts_before xs ys j i q p.same lt)
            | inr ge ↦ omega arith
          ]
    ]
