-- A set of CIDs to which one is added, and lists whose CIDs all differ.
use Rattle.std.proofs.Common.{◌≡◌, ◌⊎◌, inl, inr, ⊎_elim, ℕ, zero, suc, Bool, true, false, cond, List, [], ◌∷◌, ◌++◌, refl, sym, ◌∙◌, ap, subst, arith}
use Rattle.std.specs.List.{Contains}
use Rattle.std.specs.Ordering.{nat_cmp, is_eq}
use Rattle.std.specs.Cmp.Lexicographic.{slice_cmp}
use Rattle.std.specs.BTreeSet.{BTreeSet, contains, Updates}
use Rattle.std.proofs.lemmas.Cmp.{nat_list_cmp_total, eq_by_cmp_equiv}
use Rattle.std.proofs.lemmas.Map.Lookups.{exact_bytes}
use Rattle.std.proofs.lemmas.Map.Views.{tells_apart}
use Rattle.std.proofs.lemmas.List.Elements.{Contains-append_left, Contains-append_right, Contains-append_cases}
use Rattle.ss_meta.specs.Plan.{AllDiffer}
use Rattle.ss_meta.specs.Opening.{Sees}

pub contains_first : (c : List ℕ) (cs : List (List ℕ)) → Contains (c ∷ cs) c
contains_first c cs = (0, omega arith, refl)

only_one : (c d : List ℕ) → Contains (d ∷ []) c → d ≡ c
only_one c d (zero, within, is) = is
only_one c d (suc k, within, is) = absurd (omega (arith, within))

-- ---- CIDs that all differ

pub differ-push : (cs : List (List ℕ)) (c : List ℕ) → AllDiffer cs → (Contains cs c → ⊥) → AllDiffer (cs ++ c ∷ [])
differ-push [] c all new = (λ held. omega (arith, held.1), tt)
differ-push (d ∷ cs) c all new = (
  λ held. ⊎_elim (λ before. all.0 before) (λ last. new (subst (Contains (d ∷ cs)) (sym (only_one d c last)) (contains_first d cs))) (Contains-append_cases cs (c ∷ []) d held),
  differ-push cs c all.1 (λ held. new (Contains-append_right (d ∷ []) cs c held)),
)

-- one that stands before does not stand again
pub differ-apart : (front rest : List (List ℕ)) (c : List ℕ) → AllDiffer (front ++ c ∷ rest) → Contains front c → ⊥
differ-apart [] rest c all held = omega (arith, held.1)
differ-apart (d ∷ front) rest c all held =
    ⊎_elim
    (λ same. all.0 (subst (Contains (front ++ c ∷ rest)) (sym same) (Contains-append_right front (c ∷ rest) c (contains_first c rest))))
    (λ later. differ-apart front rest c all.1 later)
    (first (Contains-append_cases (d ∷ []) front c held))
  where
    first : (Contains (d ∷ []) c ⊎ Contains front c) → (d ≡ c) ⊎ Contains front c
    first (inl one) = inl (only_one c d one)
    first (inr more) = inr more

-- ---- the set

module _ (seen new : BTreeSet (List ℕ)) (k : List ℕ) (updates : Updates (slice_cmp nat_cmp) seen new k true) where
  abbrev is_key : List ℕ → Bool
  is_key c = is_eq (slice_cmp nat_cmp k c)

  has_key : (c : List ℕ) → is_key c ≡ true → k ≡ c
  has_key c is = tells_apart exact_bytes k c is

  key_is : is_key k ≡ true
  key_is = (eq_by_cmp_equiv nat_list_cmp_total).refl k

  pub sees-push : (cids : List (List ℕ)) → Sees seen cids → Sees new (cids ++ k ∷ [])
  sees-push cids sees c = (
    λ held. there c (is_key c) refl (sym (updates.0 c) ∙ held),
    λ member. updates.0 c ∙ ⊎_elim
        (λ before. either (is_key c) ((sees c).1 before))
        (λ last. let same = only_one c k last in ap (λ b. cond b true (contains (slice_cmp nat_cmp) seen c)) (subst (λ (x : List ℕ). is_key x ≡ true) same key_is))
        (Contains-append_cases cids (k ∷ []) c member),
  )
    where
      there : (c : List ℕ) (b : Bool) → is_key c ≡ b → cond (is_key c) true (contains (slice_cmp nat_cmp) seen c) ≡ true → Contains (cids ++ k ∷ []) c
      there c true is held = Contains-append_right cids (k ∷ []) c (subst (Contains (k ∷ [])) (has_key c is) (contains_first k []))
      there c false is held = Contains-append_left cids (k ∷ []) c ((sees c).0 (subst (λ b. cond b true (contains (slice_cmp nat_cmp) seen c) ≡ true) is held))

      either : {old : Bool} (b : Bool) → old ≡ true → cond b true old ≡ true
      either true held = refl
      either false held = held
