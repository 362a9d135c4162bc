-- Paths, over stored blocks and by way of identity CIDs alone.
use Rattle.std.proofs.Common.{◌≡◌, ℕ, zero, suc, ◌≤◌, eqb, length, length-drop, drop, ◌⊎◌, inl, inr, Bool, true, false, cond, List, [], ◌∷◌, Contains, None, Some, refl, sym, subst, ◌∙◌, arith}
use Rattle.std.specs.FinMap as finite_map
use Rattle.std.proofs.lemmas.Option.{same_Some, none-some}
use Rattle.ss_cid.specs.Cid.{hash_of, digest_of, identity_of}
use Rattle.ss_cid.specs.Maps.{Kept}
use Rattle.ss_chain.specs.Fetch.{is_identity, fetched}
use Rattle.ss_chain.specs.Follows.{followed}
use Rattle.ss_chain.specs.Reach.{LeadsTo, Reach}
use Rattle.ss_chain.proofs.Reached.{reach_each, reach-root, reach-next}
use Rattle.ss_txn.specs.Marked.{none_kept}

-- ---- members of a list

pub first-Contains : (x : List ℕ) (xs : List (List ℕ)) → Contains (x ∷ xs) x
first-Contains x xs = (zero, omega arith, refl)

pub later-Contains : (y : List ℕ) (xs : List (List ℕ)) (x : List ℕ) → Contains xs x → Contains (y ∷ xs) x
later-Contains y xs x (k, lt, is) = (suc k, omega arith, is)

pub cases-Contains : (y : List ℕ) (xs : List (List ℕ)) (x : List ℕ) → Contains (y ∷ xs) x → (x ≡ y) ⊎ Contains xs x
cases-Contains y xs x (zero, lt, is) = inl (sym is)
cases-Contains y xs x (suc k, lt, is) = inr (k, omega arith, is)

pub none-Contains : (x : List ℕ) → Contains [] x → ⊥
none-Contains x (k, lt, is) = omega arith

-- ---- blocks

none-fetched : (b : Bool) (cid block : List ℕ) (kept : Kept) → is_identity cid ≡ b → fetched none_kept cid ≡ Some block → fetched kept cid ≡ Some block
unfolding fetched
none-fetched true cid block kept is h = rw is (subst (λ b. cond b (Some (digest_of cid)) (finite_map.get none_kept cid) ≡ Some block) is h)
none-fetched false cid block kept is h =
    absurd (none-some block (sym (finite_map.get-empty _ cid) ∙ subst (λ b. cond b (Some (digest_of cid)) (finite_map.get none_kept cid) ≡ Some block) is h))

pub identity-fetched : (kept : Kept) (cid : List ℕ) → is_identity cid ≡ true → fetched kept cid ≡ Some (digest_of cid)
unfolding fetched
identity-fetched kept cid is = rw is refl

some-identity : (b : Bool) (digest other : List ℕ) → cond b (Some other) None ≡ Some digest → (b ≡ true) × (digest ≡ other)
some-identity true digest other is = (refl, sym (same_Some _ _ is))
some-identity false digest other is = absurd (none-some digest is)

-- what an identity CID lends: it is one, and its block is shorter
pub digest-of-identity : (cid digest : List ℕ) → Some digest ≡ identity_of cid → (is_identity cid ≡ true) × (digest ≡ digest_of cid)
unfolding identity_of is_identity
digest-of-identity cid digest is = some-identity (eqb (hash_of cid) 0) digest (digest_of cid) (sym is)

drop-short : (n : ℕ) (xs : List ℕ) → length (drop n xs) ≤ length xs
drop-short n xs = omega (arith, length-drop n xs)

pub digest-short : (cid : List ℕ) → length (digest_of cid) ≤ length cid
unfolding digest_of
digest-short cid = drop-short _ cid

-- none but an identity CID has a block where nothing is stored
stored-none : (cid block : List ℕ) → is_identity cid ≡ false → fetched none_kept cid ≡ Some block → ⊥
unfolding fetched
stored-none cid block is h =
    none-some block (sym (finite_map.get-empty _ cid) ∙ subst (λ b. cond b (Some (digest_of cid)) (finite_map.get none_kept cid) ≡ Some block) is h)

module _ (edge : ℕ) where
  -- what is followed without stored blocks is followed with them
  pub leads-kept : (kept : Kept) (from to : List ℕ) → LeadsTo edge none_kept from to → LeadsTo edge kept from to
  leads-kept kept from to leads =
      record { block = leads.block; is_fetched = none-fetched (is_identity from) from leads.block kept refl leads.is_fetched; follows = leads.follows }

  pub leads-identity : (kept : Kept) (cid to : List ℕ) → is_identity cid ≡ true → Contains (followed edge cid (digest_of cid)) to → LeadsTo edge kept cid to
  leads-identity kept cid to is follows = record { block = digest_of cid; is_fetched = identity-fetched kept cid is; follows = follows }

  pub identity-leads : (kept : Kept) (cid to : List ℕ) → is_identity cid ≡ true → LeadsTo edge kept cid to → Contains (followed edge cid (digest_of cid)) to
  identity-leads kept cid to is leads =
      subst (λ (block : List ℕ). Contains (followed edge cid block) to) (same_Some _ _ (sym leads.is_fetched ∙ identity-fetched kept cid is)) leads.follows

  pub stored-leads-nowhere : (cid to : List ℕ) → is_identity cid ≡ false → LeadsTo edge none_kept cid to → ⊥
  stored-leads-nowhere cid to is leads = stored-none cid leads.block is leads.is_fetched

  module _ (kept : Kept) where
    -- what roots reach that are reached from others
    pub reach-from : (roots others : List (List ℕ)) → ((root : List ℕ) → Contains roots root → Reach edge kept others root) →
        (cid : List ℕ) → Reach edge kept roots cid → Reach edge kept others cid
    reach-from roots others starts = reach_each edge kept roots (λ cid. Reach edge kept others cid) starts (reach-next edge kept others)

    pub reach-more : (roots others : List (List ℕ)) → ((root : List ℕ) → Contains roots root → Contains others root) →
        (cid : List ℕ) → Reach edge kept roots cid → Reach edge kept others cid
    reach-more roots others more = reach-from roots others (λ root is. reach-root edge kept others root (more root is))

    -- what one root reaches, or the others
    pub reach-cases : (x : List ℕ) (xs : List (List ℕ)) (cid : List ℕ) → Reach edge kept (x ∷ xs) cid → Reach edge kept (x ∷ []) cid ⊎ Reach edge kept xs cid
    reach-cases x xs = reach_each edge kept (x ∷ xs) (λ cid. Reach edge kept (x ∷ []) cid ⊎ Reach edge kept xs cid)
        (λ root is. elim (cases-Contains x xs root is) [
          | inl same ↦ inl (reach-root edge kept (x ∷ []) root (subst (λ (r : List ℕ). Contains (x ∷ []) r) (sym same) (first-Contains x [])))
          | inr other ↦ inr (reach-root edge kept xs root other)
        ])
        (λ from to r leads. elim r [ inl a ↦ inl (reach-next edge kept (x ∷ []) from to a leads) | inr b ↦ inr (reach-next edge kept xs from to b leads) ])

    pub reach-nothing : (cid : List ℕ) → Reach edge kept [] cid → ⊥
    reach-nothing cid r = none-Contains r.root r.is_root

    pub reach-itself : (cid : List ℕ) → Reach edge kept (cid ∷ []) cid
    reach-itself cid = reach-root edge kept (cid ∷ []) cid (first-Contains cid [])

  -- a stored CID reaches nothing else where nothing is stored
  pub reach-stored : (cid : List ℕ) → is_identity cid ≡ false → (to : List ℕ) → Reach edge none_kept (cid ∷ []) to → to ≡ cid
  reach-stored cid is = reach_each edge none_kept (cid ∷ []) (λ to. to ≡ cid)
      (λ root at. elim (cases-Contains cid [] root at) [ inl same ↦ same | inr other ↦ absurd (none-Contains root other) ])
      (λ from to same leads. absurd (stored-leads-nowhere cid to is (subst (λ (f : List ℕ). LeadsTo edge none_kept f to) same leads)))

  -- an identity CID reaches what its block is followed to, and goes on from there
  pub reach-identity : (kept : Kept) (cid : List ℕ) → is_identity cid ≡ true → (to : List ℕ) → Reach edge kept (cid ∷ []) to →
      (to ≡ cid) ⊎ Reach edge kept (followed edge cid (digest_of cid)) to
  reach-identity kept cid is = reach_each edge kept (cid ∷ []) (λ to. (to ≡ cid) ⊎ Reach edge kept (followed edge cid (digest_of cid)) to)
      (λ root at. elim (cases-Contains cid [] root at) [ inl same ↦ inl same | inr other ↦ absurd (none-Contains root other) ])
      (λ from to r leads. elim r [
        | inl same ↦ inr (reach-root edge kept _ to (identity-leads kept cid to is (subst (λ (f : List ℕ). LeadsTo edge kept f to) same leads)))
        | inr on ↦ inr (reach-next edge kept _ from to on leads)
      ])

  -- what is reached by way of identity CIDs is reached
  pub reach-kept : (kept : Kept) (roots : List (List ℕ)) (cid : List ℕ) → Reach edge none_kept roots cid → Reach edge kept roots cid
  reach-kept kept roots = reach_each edge none_kept roots (λ cid. Reach edge kept roots cid) (reach-root edge kept roots)
      (λ from to r leads. reach-next edge kept roots from to r (leads-kept kept from to leads))

  -- what a CID reaches that a root reaches
  pub reach-on : (kept : Kept) (roots : List (List ℕ)) (from to : List ℕ) → Reach edge kept roots from → Reach edge kept (from ∷ []) to → Reach edge kept roots to
  reach-on kept roots from to r = reach-from kept (from ∷ []) roots
      (λ root at. elim (cases-Contains from [] root at) [ inl same ↦ subst (λ (c : List ℕ). Reach edge kept roots c) (sym same) r | inr other ↦ absurd (none-Contains root other) ]) to
