-- CIDs are met, one after another.
use Rattle.std.proofs.Common.{◌≡◌, ℕ, ◌+◌, Bool, true, false, true≢false, cond, List, [], ◌∷◌, ◌++◌, length, Contains, ◌⊎◌, inl, inr, Ordering, Less, Equal, Greater, refl, sym, ap, subst, ◌∙◌, arith}
use Rattle.std.specs.Ordering.{nat_cmp, eq_by_cmp, is_eq}
use Rattle.std.specs.Cmp.{eq_by_cmp_equiv}
use Rattle.std.specs.Cmp.Lexicographic.{slice_cmp, nat_list_cmp_total}
use Rattle.std.specs.FinMap as finite_map
use Rattle.std.proofs.lemmas.List.{length-append}
use Rattle.std.proofs.lemmas.List.Elements.{Contains-append_left, Contains-push, Contains-push_cases}
use Rattle.ss_model.specs.declared.met.Met.{Met}
use Rattle.ss_model.specs.Met.{was_met, Grows, Meets}
use Rattle.ss_model.proofs.Members.{first-Contains, later-Contains, cases-Contains, none-Contains}

abbrev pub same : List ℕ → List ℕ → Bool
same = eq_by_cmp (slice_cmp nat_cmp)

ties_only : (r : Ordering) → is_eq r ≡ true → r ≡ Equal
ties_only Less e = absurd (true≢false (sym e))
ties_only Equal e = refl
ties_only Greater e = absurd (true≢false (sym e))

-- only equal CIDs tie
pub is_same : (a b : List ℕ) → same a b ≡ true → a ≡ b
is_same a b e = finite_map.slice_cmp-IsAntisymmetric finite_map.nat_cmp-IsAntisymmetric a b (ties_only (slice_cmp nat_cmp a b) e)

same_itself : (a : List ℕ) → same a a ≡ true
same_itself = (eq_by_cmp_equiv nat_list_cmp_total).refl

-- ---- one CID

met_still : (b was : Bool) → was ≡ true → cond b true was ≡ true
met_still true was e = refl
met_still false was e = e

met_now : (b was now : Bool) → now ≡ cond b true was → now ≡ true → (b ≡ true) ⊎ (was ≡ true)
met_now true was now is e = inl refl
met_now false was now is e = inr (sym is ∙ e)

module _ (cid : List ℕ) (old new : Met) (updates : (c : List ℕ) → was_met new c ≡ cond (same cid c) true (was_met old c)) where
  here : was_met new cid ≡ true
  here = updates cid ∙ ap (λ b. cond b true (was_met old cid)) (same_itself cid)

  one_only : (c : List ℕ) → was_met new c ≡ true → (was_met old c ≡ true) ⊎ (cid ≡ c)
  one_only c e = elim (met_now (same cid c) (was_met old c) (was_met new c) (updates c) e) [ inl tie ↦ inr (is_same cid c tie) | inr was ↦ inl was ]

  meets_one : Grows old new → Meets (cid ∷ []) old new
  meets_one grows = record {
    grows = grows;
    all = λ c at. elim (cases-Contains cid [] c at) [ inl is ↦ subst (λ (x : List ℕ). was_met new x ≡ true) is here | inr other ↦ absurd (none-Contains c other) ];
    only = λ c e. elim (one_only c e) [ inl was ↦ inl was | inr is ↦ inr (subst (λ (x : List ℕ). Contains (cid ∷ []) x) is (first-Contains cid [])) ];
  }

  -- one that is new waits
  pub meets_new : length new.cids.keys ≡ length old.cids.keys + 1 → new.waiting.items ≡ old.waiting.items ++ cid ∷ [] → Meets (cid ∷ []) old new
  meets_new longer pushed = meets_one (record {
    stays = λ c was. updates c ∙ met_still (same cid c) (was_met old c) was;
    waits = λ c e. elim (one_only c e) [ inl was ↦ inl was | inr is ↦ inr (rw pushed (subst (λ (x : List ℕ). Contains (old.waiting.items ++ cid ∷ []) x) is (Contains-push old.waiting.items cid))) ];
    still = λ c at. rw pushed (Contains-append_left old.waiting.items (cid ∷ []) c at);
    were_met = λ c at. elim (Contains-push_cases old.waiting.items cid c (subst (λ (xs : List (List ℕ)). Contains xs c) pushed at)) [
      | inl was ↦ inl was
      | inr is ↦ inr (subst (λ (x : List ℕ). was_met new x ≡ true) is here)
    ];
    count = rw (longer, pushed) (omega (arith, length-append old.waiting.items (cid ∷ [])));
  })

  -- one that was met before does not
  pub meets_old : was_met old cid ≡ true → length new.cids.keys ≡ length old.cids.keys → new.waiting.items ≡ old.waiting.items → Meets (cid ∷ []) old new
  meets_old before as_long kept = meets_one (record {
    stays = λ c was. updates c ∙ met_still (same cid c) (was_met old c) was;
    waits = λ c e. elim (one_only c e) [ inl was ↦ inl was | inr is ↦ inl (subst (λ (x : List ℕ). was_met old x ≡ true) is before) ];
    still = λ c at. rw kept at;
    were_met = λ c at. inl (subst (λ (xs : List (List ℕ)). Contains xs c) kept at);
    count = rw (as_long, kept) refl;
  })

-- ---- several

grows_not : (a : Met) → Grows a a
grows_not a = record {
  stays = λ c was. was;
  waits = λ c was. inl was;
  still = λ c at. at;
  were_met = λ c at. inl at;
  count = refl;
}

grows_then : (a b c : Met) → Grows a b → Grows b c → Grows a c
grows_then a b c p q = record {
  stays = λ x was. q.stays x (p.stays x was);
  waits = λ x was. elim (q.waits x was) [
    | inl then ↦ elim (p.waits x then) [ inl first ↦ inl first | inr at ↦ inr (q.still x at) ]
    | inr at ↦ inr at
  ];
  still = λ x at. q.still x (p.still x at);
  were_met = λ x at. elim (q.were_met x at) [
    | inl then ↦ elim (p.were_met x then) [ inl first ↦ inl first | inr met ↦ inr (q.stays x met) ]
    | inr met ↦ inr met
  ];
  count = omega (arith, p.count, q.count);
}

pub meets_none : (met : Met) → Meets [] met met
meets_none met = record { grows = grows_not met; all = λ c at. absurd (none-Contains c at); only = λ c was. inl was }

meets_more : (x : List ℕ) (xs : List (List ℕ)) (a b c : Met) → Meets (x ∷ []) a b → Meets xs b c → Meets (x ∷ xs) a c
meets_more x xs a b c p q = record {
  grows = grows_then a b c p.grows q.grows;
  all = λ cid at. elim (cases-Contains x xs cid at) [
    | inl is ↦ q.grows.stays cid (p.all cid (subst (λ (y : List ℕ). Contains (x ∷ []) y) is (first-Contains x [])))
    | inr other ↦ q.all cid other
  ];
  only = λ cid was. elim (q.only cid was) [
    | inl then ↦ elim (p.only cid then) [
      | inl first ↦ inl first
      | inr at ↦ elim (cases-Contains x [] cid at) [
        | inl is ↦ inr (subst (λ (y : List ℕ). Contains (x ∷ xs) y) is (first-Contains x xs))
        | inr none ↦ absurd (none-Contains cid none)
      ]
    ]
    | inr other ↦ inr (later-Contains x xs cid other)
  ];
}

-- What is left to meet, so that all is: for a loop over CIDs.
abbrev pub Leaves : List (List ℕ) → List (List ℕ) → Met → Met → Type 0
Leaves all rest old now = (new : Met) → Meets rest now new → Meets all old new

pub leaves_next : (all xs : List (List ℕ)) (x : List ℕ) (rest : List (List ℕ)) (old now next : Met) → xs ≡ x ∷ rest →
    Leaves all xs old now → Meets (x ∷ []) now next → Leaves all rest old next
leaves_next all xs x rest old now next is leaves p new q =
    leaves new (subst (λ (ys : List (List ℕ)). Meets ys now new) (sym is) (meets_more x rest now next new p q))

pub leaves_none : (all xs : List (List ℕ)) (old now : Met) → xs ≡ [] → Leaves all xs old now → Meets all old now
leaves_none all xs old now is leaves = leaves now (subst (λ (ys : List (List ℕ)). Meets ys now now) (sym is) (meets_none now))
