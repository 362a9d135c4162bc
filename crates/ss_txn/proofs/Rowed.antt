-- Marks with a row for each block of a parcel.
use Rattle.std.proofs.Common.{◌≡◌, ◌≢◌, ℕ, zero, suc, ◌+◌, inl, inr, true, false, List, [], ◌∷◌, drop, Some, is_some, refl, sym, ap, subst, ◌∙◌, arith}
use Rattle.std.specs.Prelude.{slice_get}
use Rattle.std.specs.FinMap as finite_map
use Rattle.std.proofs.lemmas.Option.{same_Some, none-some}
use Rattle.ss_cid.specs.Maps.{Kept}
use Rattle.ss_chain.specs.Fetch.{is_identity}
use Rattle.ss_chain.specs.Parcel.{kept_of}
use Rattle.ss_marks.specs.declared.colour.Colour.TheVariants.{White}
use Rattle.ss_marks.specs.Marks.{MarkTable, mark_of, row_of}
use Rattle.ss_txn.specs.Marked.{HasRows}
use Rattle.ss_txn.proofs.Shading.{cases_cid}
use Rattle.ss_txn.proofs.Marking.{row_in}
use Rattle.ss_txn.proofs.Storing.{inserted_here, inserted_elsewhere}

kept-identity : (cid block : List ℕ) (blocks : List (List ℕ × List ℕ)) → is_identity cid ≡ true → kept_of ((cid, block) ∷ blocks) ≡ kept_of blocks
unfolding kept_of
kept-identity cid block blocks is = rw is refl

kept-stored : (cid block : List ℕ) (blocks : List (List ℕ × List ℕ)) → is_identity cid ≡ false → kept_of ((cid, block) ∷ blocks) ≡ finite_map.insert (kept_of blocks) cid block
unfolding kept_of
kept-stored cid block blocks is = rw is refl

module _ (cid block : List ℕ) (blocks : List (List ℕ × List ℕ)) where
  -- a block under an identity CID needs no row
  pub rows_identity : (marks : MarkTable) → is_identity cid ≡ true → HasRows (kept_of blocks) marks → HasRows (kept_of ((cid, block) ∷ blocks)) marks
  rows_identity marks is rows = subst (λ (kept : Kept). HasRows kept marks) (sym (kept-identity cid block blocks is)) rows

  rows_insert : (old new : MarkTable) → ((q : List ℕ) → q ≢ cid → mark_of new q ≡ mark_of old q) → is_some (row_of new cid) ≡ true → HasRows (kept_of blocks) old → HasRows (finite_map.insert (kept_of blocks) cid block) new
  rows_insert old new elsewhere here rows q = elim (cases_cid q cid) [
    | inl same ↦ ap (λ x. is_some (row_of new x)) same ∙ here ∙ sym (ap (λ x. finite_map.contains_key (finite_map.insert (kept_of blocks) cid block) x) same ∙ ap is_some (inserted_here (kept_of blocks) cid block))
    | inr other ↦ ap (λ o. is_some (row_in o)) (elsewhere q other) ∙ rows q ∙ ap is_some (sym (inserted_elsewhere (kept_of blocks) cid block q other))
  ]

  -- nor does one whose CID has a row
  pub rows_there : (marks : MarkTable) (row : ℕ) → is_identity cid ≡ false → Some row ≡ row_of marks cid → HasRows (kept_of blocks) marks → HasRows (kept_of ((cid, block) ∷ blocks)) marks
  rows_there marks row is at rows = subst (λ (kept : Kept). HasRows kept marks) (sym (kept-stored cid block blocks is)) (rows_insert marks marks (λ q other. refl) (ap is_some (sym at)) rows)

  pub rows_added : (old ready new : MarkTable) (row : ℕ) → is_identity cid ≡ false → ready.marks ≡ old.marks → new.marks ≡ finite_map.insert ready.marks cid (record { row = row; colour = White })
      → HasRows (kept_of blocks) old → HasRows (kept_of ((cid, block) ∷ blocks)) new
  rows_added old ready new row is same added rows =
      let at : new.marks ≡ finite_map.insert old.marks cid (record { row = row; colour = White }) = added ∙ ap (λ m. finite_map.insert m cid (record { row = row; colour = White })) same in
      subst (λ (kept : Kept). HasRows kept new) (sym (kept-stored cid block blocks is))
      (rows_insert old new
      (λ q other. ap (λ m. finite_map.get m q) at ∙ inserted_elsewhere old.marks cid (record { row = row; colour = White }) q other)
      (ap (λ m. is_some (row_in (finite_map.get m cid))) at ∙ ap (λ o. is_some (row_in o)) (inserted_here old.marks cid (record { row = row; colour = White })))
      rows)

pub rows_none : (marks : MarkTable) → marks.marks ≡ finite_map.empty → HasRows (kept_of []) marks
unfolding kept_of
rows_none marks none q = ap (λ m. is_some (row_in (finite_map.get m q))) none ∙ ap (λ o. is_some (row_in o)) (finite_map.get-empty _ q) ∙ ap is_some (sym (finite_map.get-empty _ q))

-- the list from one place on
pub drop_at : {A : Type 0} (xs : List A) (i : ℕ) (x : A) → slice_get xs i ≡ Some x → drop i xs ≡ x ∷ drop (i + 1) xs
drop_at [] i x at = absurd (none-some x at)
drop_at (y ∷ ys) zero x at = ap (λ z. z ∷ ys) (same_Some _ _ at)
drop_at (y ∷ ys) (suc i) x at = let e : suc i + 1 ≡ suc (i + 1) = omega arith in rw e (drop_at ys i x at)
