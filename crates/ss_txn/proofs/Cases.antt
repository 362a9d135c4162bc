-- What is protected, by cases.
use Rattle.std.proofs.Common.{◌≡◌, ℕ, zero, suc, ◌≤◌, inl, inr, Bool, true, false, List, [], ◌∷◌, length, Contains, Option, None, Some, refl, sym, ap, subst, ◌∙◌, arith}
use Rattle.std.proofs.lemmas.Option.{same_Some, none-some}
use Rattle.ss_cid.specs.Cid.{IsCid, digest_of}
use Rattle.ss_chain.specs.Fetch.{is_identity}
use Rattle.ss_chain.specs.Follows.{followed}
use Rattle.ss_chain.specs.Reach.{Reach}
use Rattle.ss_chain.proofs.Reached.{reach-next}
use Rattle.ss_chain.proofs.Shorter.{IsShorter, inside-shorter, Contains-shorter}
use Rattle.ss_marks.specs.declared.colour.Colour.{Colour}
use Rattle.ss_marks.specs.declared.colour.Colour.TheVariants.{White}
use Rattle.ss_marks.specs.Marks.{Mark, MarkTable, mark_of, colour_of}
use Rattle.ss_txn.specs.Marked.{none_kept, IsNotWhite, Protected, IsShaded, ByCases, shaded, identity, neither}
use Rattle.ss_txn.proofs.Paths.{first-Contains, reach-itself, reach-on, reach-stored, reach-identity, leads-identity}
use Rattle.ss_txn.proofs.Shading.{colour_in}

-- ---- from a list of CIDs, one of them

from_one : (edge : ℕ) (roots : List (List ℕ)) (to : List ℕ) (r : Reach edge none_kept roots to) → Reach edge none_kept (r.root ∷ []) to
from_one edge roots to r = record { root = r.root; path = r.path; is_root = first-Contains r.root []; walk = r.walk }

inside : (edge : ℕ) (cid : List ℕ) → IsCid cid → (to : List ℕ) → Contains (followed edge cid (digest_of cid)) to → IsShorter (length cid) to
inside edge cid is to at = Contains-shorter _ _ to (inside-shorter edge cid is) at

module _ (edge : ℕ) (marks : MarkTable) (proper : (c : List ℕ) → is_identity c ≡ true → mark_of marks c ≡ None) where
  no_colour : (c : List ℕ) (colour : Colour) → is_identity c ≡ true → colour_of marks c ≡ Some colour → ⊥
  no_colour c colour id is = none-some colour (sym (ap colour_in (proper c id)) ∙ is)

  alone : (cid : List ℕ) → is_identity cid ≡ false → IsNotWhite marks cid → Protected edge marks cid
  alone cid id not to r = subst (λ (c : List ℕ). IsNotWhite marks c) (sym (reach-stored edge cid id to r)) not

  shaded_protected : (b : Bool) (cid : List ℕ) → is_identity cid ≡ b → IsShaded marks cid → Protected edge marks cid
  shaded_protected true cid id s = absurd (no_colour cid s.colour id s.is)
  shaded_protected false cid id s = alone cid id (λ white. s.not_white (same_Some _ _ (sym s.is ∙ white)))

  -- what is so by cases is protected
  pub cases_protected : {cid : List ℕ} → ByCases edge marks cid → Protected edge marks cid
  cases_protected {cid} (shaded s) = shaded_protected (is_identity cid) cid refl s
  cases_protected {cid} (neither id none) = alone cid id (λ white. none-some White (sym none ∙ white))
  cases_protected {cid} (identity id each) = λ to r.
      elim (reach-identity edge none_kept cid id to r) [
        | inl same ↦ λ white. no_colour cid White id (ap (colour_of marks) (sym same) ∙ white)
        | inr on ↦ cases_protected (each on.root on.is_root) to (from_one edge _ to on)
      ]

  by_colour : (cid : List ℕ) → is_identity cid ≡ false → Protected edge marks cid → (o : Option Mark) → mark_of marks cid ≡ o → ByCases edge marks cid
  by_colour cid id p None is = neither id (ap colour_in is)
  by_colour cid id p (Some mark) is = shaded (record {
    colour = mark.colour;
    is = ap colour_in is;
    not_white = λ white. p cid (reach-itself edge none_kept cid) (ap colour_in is ∙ ap Some white);
  })

  by_identity : (n : ℕ) (b : Bool) (cid : List ℕ) → is_identity cid ≡ b → length cid ≤ n → IsCid cid → Protected edge marks cid → ByCases edge marks cid
  by_identity n false cid id le is p = by_colour cid id p (mark_of marks cid) refl
  by_identity zero true cid id le is p = identity id (λ to at. absurd (omega (arith, (inside edge cid is to at).shorter)))
  by_identity (suc n) true cid id le is p = identity id (λ to at.
      let s = inside edge cid is to at in
      by_identity n (is_identity to) to refl (omega (arith, s.shorter)) s.is_cid
      (λ t r. p t (reach-on edge none_kept (cid ∷ []) to t (reach-next edge none_kept (cid ∷ []) cid to (reach-itself edge none_kept cid) (leads-identity edge none_kept cid to id at)) r)))

  -- and what is protected is so by cases
  pub protected_cases : (cid : List ℕ) → IsCid cid → Protected edge marks cid → ByCases edge marks cid
  protected_cases cid is p = by_identity (length cid) (is_identity cid) cid refl (omega arith) is p
