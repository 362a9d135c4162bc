-- A search: what it has met is reached, and was read or waits.
use Rattle.std.proofs.Common.{◌≡◌, ◌↔◌, ℕ, ◌+◌, ◌≤◌, true, true≢false, List, [], ◌∷◌, length, Contains, ◌⊎◌, inl, inr, sym, ap, subst, ◌∙◌, arith}
use Rattle.std.specs.Ordering.{nat_cmp}
use Rattle.std.specs.Cmp.Lexicographic.{slice_cmp}
use Rattle.std.specs.BTreeSet.{BTreeSet, contains}
use Rattle.std.proofs.lemmas.List.{length-append}
use Rattle.std.proofs.lemmas.List.Elements.{Contains-append_left, Contains-push, Contains-push_cases}
use Rattle.ss_cid.specs.Maps.{Kept}
use Rattle.ss_chain.specs.Reach.{LeadsTo, Reach}
use Rattle.ss_chain.proofs.Reached.{reach_each, reach-root, reach-next}
use Rattle.ss_model.specs.declared.met.Met.{Met}
use Rattle.ss_model.specs.Met.{was_met, Meets, Reads, Takes, IsDone}
use Rattle.ss_model.proofs.Members.{none-Contains}

module _ (edge : ℕ) (kept : Kept) (roots : List (List ℕ)) where
  pub record Searching (met : Met) : Type 0 where
    pub reached : (cid : List ℕ) → was_met met cid ≡ true → Reach edge kept roots cid
    pub roots_met : (cid : List ℕ) → Contains roots cid → was_met met cid ≡ true
    pub read : (cid : List ℕ) → was_met met cid ≡ true → Contains met.waiting.items cid ⊎ ((to : List ℕ) → LeadsTo edge kept cid to → was_met met to ≡ true)
    pub waiting_met : (cid : List ℕ) → Contains met.waiting.items cid → was_met met cid ≡ true
    pub few : length met.waiting.items ≤ length met.cids.keys

  none_met : (met : Met) → met.cids.keys ≡ [] → (cid : List ℕ) → was_met met cid ≡ true → ⊥
  none_met met none cid e = true≢false (sym (rw none at e))

  -- the roots were met
  pub searching_start : (new now : Met) → new.cids.keys ≡ [] → IsDone new → Meets roots new now → Searching now
  searching_start new now none done m = record {
    reached = λ cid e. elim (m.only cid e) [ inl was ↦ absurd (none_met new none cid was) | inr at ↦ reach-root edge kept roots cid at ];
    roots_met = m.all;
    read = λ cid e. elim (m.grows.waits cid e) [ inl was ↦ absurd (none_met new none cid was) | inr at ↦ inl at ];
    waiting_met = λ cid at. elim (m.grows.were_met cid at) [
      | inl was ↦ absurd (none-Contains cid (subst (λ (xs : List (List ℕ)). Contains xs cid) done was))
      | inr met ↦ met
    ];
    few = omega (arith, m.grows.count, ap (length {A = List ℕ}) none, ap (length {A = List ℕ}) done);
  }

  -- one that waited is read
  module _ (cid : List ℕ) (old taken new : Met) (s : Searching old) (t : Takes cid old taken) (r : Reads edge kept cid taken new) where
    was_old : (c : List ℕ) → was_met taken c ≡ true → was_met old c ≡ true
    was_old c e = subst (λ (cids : BTreeSet (List ℕ)). contains (slice_cmp nat_cmp) cids c ≡ true) t.same e

    was_taken : (c : List ℕ) → was_met old c ≡ true → was_met taken c ≡ true
    was_taken c e = subst (λ (cids : BTreeSet (List ℕ)). contains (slice_cmp nat_cmp) cids c ≡ true) (sym t.same) e

    was_here : was_met old cid ≡ true
    was_here = s.waiting_met cid (rw t.waited (Contains-push taken.waiting.items cid))

    as_many : length taken.cids.keys ≡ length old.cids.keys
    as_many = ap (λ (cids : BTreeSet (List ℕ)). length cids.keys) t.same

    one_less : length old.waiting.items ≡ length taken.waiting.items + 1
    one_less = ap (length {A = List ℕ}) t.waited ∙ length-append taken.waiting.items (cid ∷ [])

    read_here : (c : List ℕ) → cid ≡ c → (to : List ℕ) → LeadsTo edge kept c to → was_met new to ≡ true
    read_here c is to leads = r.meets.all to ((r.followed to).1 (subst (λ (x : List ℕ). LeadsTo edge kept x to) (sym is) leads))

    read_next : (c : List ℕ) → was_met taken c ≡ true → Contains new.waiting.items c ⊎ ((to : List ℕ) → LeadsTo edge kept c to → was_met new to ≡ true)
    read_next c e = elim (s.read c (was_old c e)) [
      | inl at ↦ elim (Contains-push_cases taken.waiting.items cid c (subst (λ (xs : List (List ℕ)). Contains xs c) t.waited at)) [
        | inl waits ↦ inl (r.meets.grows.still c waits)
        | inr is ↦ inr (read_here c is)
      ]
      | inr closed ↦ inr (λ to leads. r.meets.grows.stays to (was_taken to (closed to leads)))
    ]

    pub searching_next : Searching new
    searching_next = record {
      reached = λ c e. elim (r.meets.only c e) [
        | inl was ↦ s.reached c (was_old c was)
        | inr at ↦ reach-next edge kept roots cid c (s.reached cid was_here) ((r.followed c).0 at)
      ];
      roots_met = λ c at. r.meets.grows.stays c (was_taken c (s.roots_met c at));
      read = λ c e. elim (r.meets.grows.waits c e) [ inl was ↦ read_next c was | inr at ↦ inl at ];
      waiting_met = λ c at. elim (r.meets.grows.were_met c at) [
        | inl waits ↦ r.meets.grows.stays c (was_taken c (s.waiting_met c (rw t.waited (Contains-append_left taken.waiting.items (cid ∷ []) c waits))))
        | inr met ↦ met
      ];
      few = omega (arith, s.few, r.meets.grows.count, as_many, one_less);
    }

  -- nothing waits any more
  pub searched : (met end : Met) → Searching met → IsDone met → end.cids ≡ met.cids → (cid : List ℕ) → (was_met end cid ≡ true) ↔ Reach edge kept roots cid
  searched met end s done same cid = (
    λ e. s.reached cid (subst (λ (cids : BTreeSet (List ℕ)). contains (slice_cmp nat_cmp) cids cid ≡ true) same e),
    λ r. subst (λ (cids : BTreeSet (List ℕ)). contains (slice_cmp nat_cmp) cids cid ≡ true) (sym same)
        (reach_each edge kept roots (λ c. was_met met c ≡ true) s.roots_met (λ from to e leads. elim (s.read from e) [
          | inl at ↦ absurd (none-Contains from (subst (λ (xs : List (List ℕ)). Contains xs from) done at))
          | inr closed ↦ closed to leads
        ]) cid r),
  )
