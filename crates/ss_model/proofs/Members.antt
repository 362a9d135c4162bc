-- Members of a list.
use Rattle.std.proofs.Common.{◌≡◌, zero, suc, Bool, true, false, cond, List, [], ◌∷◌, Contains, ◌⊎◌, inl, inr, refl, sym, subst, arith}
use Rattle.std.specs.Prelude.{filter}

module _ {A : Type 0} where
  pub first-Contains : (x : A) (xs : List A) → Contains (x ∷ xs) x
  first-Contains x xs = (zero, omega arith, refl)

  pub later-Contains : (y : A) (xs : List A) (x : A) → Contains xs x → Contains (y ∷ xs) x
  later-Contains y xs x (k, lt, is) = (suc k, omega arith, is)

  pub cases-Contains : (y : A) (xs : List A) (x : A) → Contains (y ∷ xs) x → (y ≡ x) ⊎ Contains xs x
  cases-Contains y xs x (zero, lt, is) = inl is
  cases-Contains y xs x (suc k, lt, is) = inr (k, omega arith, is)

  pub none-Contains : (x : A) → Contains [] x → ⊥
  none-Contains x (k, lt, is) = omega arith

  module _ (test : A → Bool) where
    kept-Contains : (b : Bool) (y : A) (xs : List A) (x : A) → Contains xs x → Contains (cond b (y ∷ xs) xs) x
    kept-Contains true y xs x h = later-Contains y xs x h
    kept-Contains false y xs x h = h

    pub filter-Contains : (xs : List A) (x : A) → test x ≡ true → Contains xs x → Contains (filter test xs) x
    filter-Contains [] x passes h = h
    filter-Contains (y ∷ ys) x passes h =
        elim (cases-Contains y ys x h) [
          | inl is ↦ subst (λ (z : A). Contains (cond (test z) (z ∷ filter test ys) (filter test ys)) x) (sym is) (rw passes (first-Contains x (filter test ys)))
          | inr other ↦ kept-Contains (test y) y (filter test ys) x (filter-Contains ys x passes other)
        ]

    of-cond : (b : Bool) (y : A) (zs ys : List A) (x : A) → test y ≡ b → (Contains zs x → Contains ys x × (test x ≡ true)) → Contains (cond b (y ∷ zs) zs) x → Contains (y ∷ ys) x × (test x ≡ true)
    of-cond true y zs ys x is others h =
        elim (cases-Contains y zs x h) [
          | inl same ↦ (subst (λ (z : A). Contains (y ∷ ys) z) same (first-Contains y ys), subst (λ (z : A). test z ≡ true) same is)
          | inr other ↦ let p = others other in (later-Contains y ys x p.0, p.1)
        ]
    of-cond false y zs ys x is others h = let p = others h in (later-Contains y ys x p.0, p.1)

    pub Contains-filter : (xs : List A) (x : A) → Contains (filter test xs) x → Contains xs x × (test x ≡ true)
    Contains-filter [] x h = absurd (none-Contains x h)
    Contains-filter (y ∷ ys) x h = of-cond (test y) y (filter test ys) ys x refl (Contains-filter ys x) h
