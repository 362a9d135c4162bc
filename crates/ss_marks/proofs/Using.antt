-- For callers: what the marks are after a call, CID by CID.
use Rattle.std.proofs.Common.{◌≡◌, ◌≢◌, ℕ, true, false, cond, List, None, Some, refl, sym, ap, ◌∙◌}
use Rattle.std.specs.Prelude.{option_map}
use Rattle.std.specs.FinMap as finite_map
use Rattle.std.proofs.lemmas.Bool.{true≢false, cond-true, cond-false, false_from_ne_true}
use Rattle.ss_marks.specs.declared.colour.Colour.{Colour}
use Rattle.ss_marks.specs.Marks.{CidMap, Mark, MarkTable, mark_of, row_of, IsLive, IsColoured, Recolours, coloured}
use Rattle.ss_marks.proofs.Colours.{by_bytes}
use Rattle.ss_marks.proofs.Marked.{eq_cid, eq_cid-itself, eq_cid-true}

module _ (marks : CidMap Mark) (cid : List ℕ) where
  -- after a mark is inserted, at its CID and at another
  pub insert_here : (mark : Mark) → finite_map.get (finite_map.insert marks cid mark) cid ≡ Some mark
  insert_here mark = finite_map.get-insert by_bytes marks cid mark cid ∙ cond-true (eq_cid cid cid) (Some mark) (finite_map.get marks cid) (eq_cid-itself cid cid refl)

  differs : (q : List ℕ) → q ≢ cid → eq_cid q cid ≡ false
  differs q other = false_from_ne_true (eq_cid q cid) (λ e. other (eq_cid-true q cid e))

  pub insert_elsewhere : (mark : Mark) (q : List ℕ) → q ≢ cid → finite_map.get (finite_map.insert marks cid mark) q ≡ finite_map.get marks q
  insert_elsewhere mark q other = finite_map.get-insert by_bytes marks cid mark q ∙ cond-false (eq_cid q cid) (Some mark) (finite_map.get marks q) (differs q other)

  -- after one is removed
  pub remove_here : finite_map.get (finite_map.remove marks cid) cid ≡ None
  remove_here = finite_map.get-remove by_bytes marks cid cid ∙ cond-true (eq_cid cid cid) None (finite_map.get marks cid) (eq_cid-itself cid cid refl)

  pub remove_elsewhere : (q : List ℕ) → q ≢ cid → finite_map.get (finite_map.remove marks cid) q ≡ finite_map.get marks q
  remove_elsewhere q other = finite_map.get-remove by_bytes marks cid q ∙ cond-false (eq_cid q cid) None (finite_map.get marks q) (differs q other)

-- a CID with a new colour has that one
pub coloured_here : (t : MarkTable) (cid : List ℕ) (row : ℕ) (colour : Colour) → mark_of (coloured t cid row colour) cid ≡ Some (record { row = row; colour = colour })
coloured_here t cid row colour = insert_here t.marks cid (record { row = row; colour = colour })

-- and all others keep their marks
pub coloured_elsewhere : (t : MarkTable) (cid : List ℕ) (row : ℕ) (colour : Colour) (q : List ℕ) → q ≢ cid → mark_of (coloured t cid row colour) q ≡ mark_of t q
coloured_elsewhere t cid row colour q other = insert_elsewhere t.marks cid (record { row = row; colour = colour }) q other

-- each row stays that of its CID
pub rows_stay : (t : MarkTable) (cid : List ℕ) (row : ℕ) (colour : Colour) → row_of t cid ≡ Some row → (q : List ℕ) → row_of (coloured t cid row colour) q ≡ row_of t q
rows_stay t cid row colour is q =
    elim (eq_cid q cid) as (λ b. eq_cid q cid ≡ b → row_of (coloured t cid row colour) q ≡ row_of t q) [
      | true ↦ λ e. let same = eq_cid-true q cid e in
          ap (λ x. row_of (coloured t cid row colour) x) same ∙ ap (option_map (λ (mark : Mark). mark.row)) (coloured_here t cid row colour) ∙ sym is ∙ sym (ap (row_of t) same)
      | false ↦ λ e. ap (option_map (λ (mark : Mark). mark.row)) (coloured_elsewhere t cid row colour q (λ same. true≢false (sym (eq_cid-itself q cid same) ∙ e)))
    ] refl

-- a row that took a colour has it
pub recolours_now : (old new : MarkTable) (row : ℕ) (from to : Colour) → Recolours old new row from to → IsColoured new row to
recolours_now old new row from to moves = record { cid = moves.cid; is = ap (λ t. mark_of t moves.cid) moves.now ∙ coloured_here old moves.cid row to }

pub coloured_live : (t : MarkTable) (row : ℕ) (colour : Colour) → IsColoured t row colour → IsLive t row
coloured_live t row colour is = record { cid = is.cid; is = ap (option_map (λ (mark : Mark). mark.row)) is.is }

-- what `row` and `colour` answer of a CID
pub live_from : (t : MarkTable) (cid : List ℕ) (row : ℕ) → Some row ≡ row_of t cid → IsLive t row
live_from t cid row is = record { cid = cid; is = sym is }
