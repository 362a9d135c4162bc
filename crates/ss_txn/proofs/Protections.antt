-- Protecting CIDs, one after another.
use Rattle.std.proofs.Common.{◌≡◌, ℕ, inl, inr, true, false, List, [], ◌∷◌, Contains, refl, sym, subst}
use Rattle.ss_cid.specs.Cid.{digest_of}
use Rattle.ss_chain.specs.Fetch.{is_identity}
use Rattle.ss_chain.specs.Follows.{followed}
use Rattle.ss_chain.specs.Reach.{Reach}
use Rattle.ss_marks.specs.Marks.{MarkTable, mark_of}
use Rattle.ss_txn.specs.Marked.{none_kept, IsNotWhite}
use Rattle.ss_txn.specs.Marked.{stays, Shades, Protects}
use Rattle.ss_txn.proofs.Paths.{reach-from, reach-more, reach-cases, reach-nothing, reach-itself, reach-stored, reach-identity, first-Contains, later-Contains, cases-Contains, none-Contains, leads-identity}
use Rattle.ss_chain.proofs.Reached.{reach-next}
use Rattle.ss_txn.proofs.Shading.{may_keeps, may_weaker, may_then, same_then}

module _ (edge : ℕ) where
  -- what is not white stays so
  pub keeps_not_white : (cids : List (List ℕ)) (old new : MarkTable) → Protects edge cids old new → (cid : List ℕ) → IsNotWhite old cid → IsNotWhite new cid
  keeps_not_white cids old new p cid not = may_keeps _ (mark_of old cid) (mark_of new cid) (p.each cid) not

  pub protects_none : (marks : MarkTable) → Protects edge [] marks marks
  protects_none marks = record { reached = λ cid r. absurd (reach-nothing edge none_kept cid r); each = λ cid. stays refl; same = refl }

  -- one more CID, before others
  pub protects_more : (x : List ℕ) (xs : List (List ℕ)) (a b c : MarkTable) → Protects edge (x ∷ []) a b → Protects edge xs b c → Protects edge (x ∷ xs) a c
  protects_more x xs a b c p q = record {
    reached = λ cid r. elim (reach-cases edge none_kept x xs cid r) [
      | inl one ↦ keeps_not_white xs b c q cid (p.reached cid one)
      | inr others ↦ q.reached cid others
    ];
    each = λ cid. may_then _ _ _
        (reach-more edge none_kept (x ∷ []) (x ∷ xs) (λ root at. elim (cases-Contains x [] root at) [
          | inl same ↦ subst (λ (r : List ℕ). Contains (x ∷ xs) r) (sym same) (first-Contains x xs)
          | inr other ↦ absurd (none-Contains root other)
        ]) cid)
        (reach-more edge none_kept xs (x ∷ xs) (later-Contains x xs) cid) _ _ _ (p.each cid) (q.each cid);
    same = same_then a b c p.same q.same;
  }

  -- one CID that is no identity CID
  pub protects_stored : (cid : List ℕ) (a b : MarkTable) → is_identity cid ≡ false → Shades cid a b → Protects edge (cid ∷ []) a b
  protects_stored cid a b is s = record {
    reached = λ to r. subst (λ (c : List ℕ). IsNotWhite b c) (sym (reach-stored edge cid is to r)) s.here;
    each = λ to. may_weaker _ _ (λ same. subst (λ (c : List ℕ). Reach edge none_kept (cid ∷ []) c) (sym same) (reach-itself edge none_kept cid)) _ _ (s.each to);
    same = s.same;
  }

  -- one that is
  pub protects_identity : (cid : List ℕ) (a b c : MarkTable) → is_identity cid ≡ true → Shades cid a b → Protects edge (followed edge cid (digest_of cid)) b c → Protects edge (cid ∷ []) a c
  protects_identity cid a b c is s p = record {
    reached = λ to r. elim (reach-identity edge none_kept cid is to r) [
      | inl same ↦ subst (λ (t : List ℕ). IsNotWhite c t) (sym same) (keeps_not_white _ b c p cid s.here)
      | inr on ↦ p.reached to on
    ];
    each = λ to. may_then _ _ _
        (λ same. subst (λ (t : List ℕ). Reach edge none_kept (cid ∷ []) t) (sym same) (reach-itself edge none_kept cid))
        (reach-from edge none_kept _ (cid ∷ []) (λ next follows. reach-next edge none_kept (cid ∷ []) cid next (reach-itself edge none_kept cid) (leads-identity edge none_kept cid next is follows)) to)
        _ _ _ (s.each to) (p.each to);
    same = same_then a b c s.same p.same;
  }

  -- What is left to protect, so that all is: for a loop over CIDs.
  abbrev pub Leaves : List (List ℕ) → List (List ℕ) → MarkTable → MarkTable → Type 0
  Leaves all rest old now = (new : MarkTable) → Protects edge rest now new → Protects edge all old new

  pub leaves_next : (all xs : List (List ℕ)) (x : List ℕ) (rest : List (List ℕ)) (old now next : MarkTable) → xs ≡ x ∷ rest →
      Leaves all xs old now → Protects edge (x ∷ []) now next → Leaves all rest old next
  leaves_next all xs x rest old now next is leaves p new q =
      leaves new (subst (λ (ys : List (List ℕ)). Protects edge ys now new) (sym is) (protects_more x rest now next new p q))

  pub leaves_none : (all xs : List (List ℕ)) (old now : MarkTable) → xs ≡ [] → Leaves all xs old now → Protects edge all old now
  leaves_none all xs old now is leaves = leaves now (subst (λ (ys : List (List ℕ)). Protects edge ys now now) (sym is) (protects_none now))
