-- The first of some numbers that gives something, and the elements before a place.
use Rattle.std.proofs.Common.{◌≡◌, ℕ, zero, suc, ◌+◌, ◌<◌, Bool, true, false, List, [], ◌∷◌, take, Option, Some, None, refl, subst, ◌∙◌, add-one, zero-add, suc-add, arith, inl, inr}
use Rattle.std.specs.Option.{option_or}
use Rattle.std.proofs.lemmas.Bool.{cases_lt}
use Rattle.std.specs.Prelude.{◌-◌, slice_get}
use Rattle.std.specs.List.{list_any}
use Rattle.ss_chain.specs.Steps.{first_of, IsLeast}
use Rattle.ss_chain.proofs.Steps.{option_or-none, or-false, or-true}

module _ {A : Type 0} (gives : ℕ → Option A) where
  pub first_of-none : first_of gives zero ≡ None
  unfolding first_of
  first_of-none = refl

  -- a number that gives nothing, behind others that give nothing
  pub first_of-next : (i : ℕ) → first_of gives i ≡ None → gives i ≡ None → first_of gives (i + 1) ≡ None
  unfolding first_of
  first_of-next i before here = rw (add-one, before, here) refl

  first_of-here : (i : ℕ) (x : A) → first_of gives i ≡ None → gives i ≡ Some x → first_of gives (suc i) ≡ Some x
  unfolding first_of
  first_of-here i x before here = rw (before, here) refl

  first_of-on : (i k : ℕ) (x : A) → first_of gives i ≡ Some x → first_of gives (k + i) ≡ Some x
  unfolding first_of
  first_of-on i zero x h = rw zero-add h
  first_of-on i (suc k) x h = rw (suc-add, first_of-on i k x h) refl

  -- the first that gives something, among more
  pub first_of-found : (i n : ℕ) (x : A) → first_of gives i ≡ None → i < n → gives i ≡ Some x → first_of gives n ≡ Some x
  first_of-found i n x before lt here =
      let more : (n - suc i) + suc i ≡ n = omega arith in
      subst (λ (m : ℕ). first_of gives m ≡ Some x) more (first_of-on (suc i) (n - suc i) x (first_of-here i x before here))

module _ {A : Type 0} (test : A → Bool) where
  -- none of the elements before a place passes, nor the one there
  pub list_any-next : (xs : List A) (j : ℕ) (x : A) → slice_get xs j ≡ Some x → list_any test (take j xs) ≡ false → test x ≡ false → list_any test (take (j + 1) xs) ≡ false
  list_any-next [] j x at before here = absurd (cc)
  list_any-next (y ∷ ys) zero x at before here = let same : y ≡ x = cc in rw (same, here) refl
  list_any-next (y ∷ ys) (suc j) x at before here =
      let p = or-false (test y) (list_any test (take j ys)) before in
      let e : suc j + 1 ≡ suc (j + 1) = omega arith in
      rw (e, p.0) (list_any-next ys j x at p.1 here)

  -- one does
  pub list_any-found : (xs : List A) (i j : ℕ) (x : A) → slice_get xs j ≡ Some x → j < i → test x ≡ true → list_any test (take i xs) ≡ true
  list_any-found [] i j x at lt here = absurd (cc)
  list_any-found (y ∷ ys) zero j x at lt here = absurd (omega arith)
  list_any-found (y ∷ ys) (suc i) zero x at lt here = let same : y ≡ x = cc in rw (same, here) refl
  list_any-found (y ∷ ys) (suc i) (suc j) x at lt here = rw (list_any-found ys i j x at (omega arith) here) (or-true (test y))

  -- none before a place does
  pub list_any-none : (xs : List A) (i : ℕ) → ((j : ℕ) (x : A) → j < i → slice_get xs j ≡ Some x → test x ≡ false) → list_any test (take i xs) ≡ false
  list_any-none [] zero none = refl
  list_any-none [] (suc i) none = refl
  list_any-none (y ∷ ys) zero none = refl
  list_any-none (y ∷ ys) (suc i) none = rw (none 0 y (omega arith) refl) (list_any-none ys i (λ j x lt at. none (suc j) x (omega arith) at))

-- ---- the first is the least

module _ {A : Type 0} (gives : ℕ → Option A) where
  pub first_of-none-each : (n : ℕ) → first_of gives n ≡ None → (j : ℕ) → j < n → gives j ≡ None
  unfolding first_of
  first_of-none-each zero h j lt = absurd (omega arith)
  first_of-none-each (suc n) h j lt =
      let p = option_or-none (first_of gives n) (gives n) h in
      elim (cases_lt j n) [
        | inl below ↦ first_of-none-each n p.0 j below
        | inr above ↦ let same : n ≡ j = omega arith in subst (λ (m : ℕ). gives m ≡ None) same p.1
      ]

  pub first_of-all-none : (n : ℕ) → ((j : ℕ) → j < n → gives j ≡ None) → first_of gives n ≡ None
  unfolding first_of
  first_of-all-none zero none = refl
  first_of-all-none (suc n) none = rw (first_of-all-none n (λ j lt. none j (omega arith)), none n (omega arith)) refl

  least-by : (n : ℕ) (x : A) (before : Option A) → first_of gives n ≡ before → option_or before (gives n) ≡ Some x →
      (first_of gives n ≡ Some x → (i : ℕ) × IsLeast gives n x i) → (i : ℕ) × IsLeast gives (suc n) x i
  least-by n x (Some y) is h earlier =
      let e = earlier (is ∙ h) in
      (e.0, record { below = omega (arith, e.1.below); here = e.1.here; none_before = e.1.none_before })
  least-by n x None is h earlier = (n, record { below = omega arith; here = h; none_before = first_of-none-each n is })

  pub first_of-least : (n : ℕ) (x : A) → first_of gives n ≡ Some x → (i : ℕ) × IsLeast gives n x i
  unfolding first_of
  first_of-least zero x h = absurd (cc)
  first_of-least (suc n) x h = least-by n x (first_of gives n) refl h (first_of-least n x)
