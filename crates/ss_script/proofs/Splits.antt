-- A list that is cut at the first place that passes.
use Rattle.std.proofs.Common.{◌≡◌, ℕ, suc, ◌+◌, ◌-◌, ◌≤◌, Bool, true, false, cond, not, List, [], ◌∷◌, Some, None, length, take, drop, refl, ap, subst, arith}
use Rattle.std.specs.Prelude.{nat_lt, ◌==◌}
use Rattle.std.specs.List.{slice_split, onto_first, position, position_or_len, prefix_len}
use Rattle.std.proofs.lemmas.Bool.{ltb-true}
use Rattle.std.proofs.lemmas.List.{length-take}
use Rattle.std.proofs.lemmas.List.Splits.{slice_split_first, length-slice_split}
use Rattle.std.proofs.lemmas.List.Sums.{count_by-le-length}
use Rattle.std.specs.Io.BufRead.{ends_with_byte, strip_last}
use Rattle.ss_script.specs.Script.{lines_of}

pub split_at_place : (p : ℕ → Bool) (xs : List ℕ) (at : ℕ) → position p xs ≡ Some at → slice_split p xs ≡ take at xs ∷ slice_split p (drop (at + 1) xs)
split_at_place p xs at found = go (nat_lt (position_or_len p xs) (length xs)) refl found
  where
    go : (b : Bool) → nat_lt (position_or_len p xs) (length xs) ≡ b → cond b (Some (position_or_len p xs)) None ≡ Some at → slice_split p xs ≡ take at xs ∷ slice_split p (drop (at + 1) xs)
    go true within is =
        let same : position_or_len p xs ≡ at = cc in
        subst (λ n. slice_split p xs ≡ take n xs ∷ slice_split p (drop (n + 1) xs)) same (slice_split_first p xs 0 (ltb-true _ _ within))
    go false beyond is = absurd (cc)

none_passes : (p : ℕ → Bool) (xs : List ℕ) → length xs ≤ position_or_len p xs → slice_split p xs ≡ xs ∷ []
none_passes p [] beyond = refl
none_passes p (x ∷ xs) beyond = go (p x) (none_passes p xs) beyond
  where
    go : (b : Bool) → (length xs ≤ position_or_len p xs → slice_split p xs ≡ xs ∷ []) → suc (length xs) ≤ cond (not b) (1 + prefix_len (λ y. not (p y)) xs) 0 → cond b ([] ∷ slice_split p xs) (onto_first x (slice_split p xs)) ≡ (x ∷ xs) ∷ []
    go true behind past = absurd (omega arith)
    go false behind past = ap (onto_first x) (behind (omega arith))

pub split_at_none : (p : ℕ → Bool) (xs : List ℕ) → position p xs ≡ None → slice_split p xs ≡ xs ∷ []
split_at_none p xs none = go (nat_lt (position_or_len p xs) (length xs)) refl none
  where
    go : (b : Bool) → nat_lt (position_or_len p xs) (length xs) ≡ b → cond b (Some (position_or_len p xs)) None ≡ None → slice_split p xs ≡ xs ∷ []
    go true within is = absurd (cc)
    go false beyond is = none_passes p xs (grind (arith, beyond))

-- there are at most as many pieces as bytes and one
pub length-pieces : (p : ℕ → Bool) (xs : List ℕ) → length (slice_split p xs) ≤ length xs + 1
length-pieces p xs = omega (arith, length-slice_split p xs, count_by-le-length p xs)

-- a list without its last element is no longer
length-strip_last : (b : ℕ) (xs : List ℕ) → length (strip_last b xs) ≤ length xs
length-strip_last b xs = go (ends_with_byte b xs)
  where
    go : (ends : Bool) → length (cond ends (take (length xs - 1) xs) xs) ≤ length xs
    go true = rw length-take (omega arith)
    go false = omega arith

-- there are at most as many lines as bytes and one
pub length-lines : (text : List ℕ) → length (lines_of text) ≤ length text + 1
length-lines text = omega (arith, length-pieces (λ b. b == 10) (strip_last 10 text), length-strip_last 10 text)
