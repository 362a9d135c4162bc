-- A row that is read, and one that is grey again.
use Rattle.std.proofs.Common.{◌≡◌, ◌≢◌, ℕ, inl, inr, List, Option, Some, refl, sym, ap, subst, ◌∙◌}
use Rattle.std.specs.Prelude.{option_map}
use Rattle.std.specs.FinMap as finite_map
use Rattle.ss_chain.specs.Reach.{Reach}
use Rattle.ss_marks.specs.declared.colour.Colour.{Colour}
use Rattle.ss_marks.specs.declared.colour.Colour.TheVariants.{White, Grey, Out, Black}
use Rattle.ss_marks.specs.Marks.{Mark, MarkTable, mark_of, row_of, colour_of, coloured, IsColoured}
use Rattle.ss_marks.proofs.Colours.{by_bytes, exact}
use Rattle.ss_marks.proofs.Using.{coloured_here, coloured_elsewhere}
use Rattle.std.proofs.lemmas.Option.{same_Some}
use Rattle.ss_txn.specs.Marked.{none_kept}
use Rattle.ss_txn.specs.Marked.{MayShade, stays, shades, Protects, Blackens}
use Rattle.ss_txn.proofs.Shading.{cases_cid, colour_in, black_not_white, same_then}

coloured_same : (t : MarkTable) (cid : List ℕ) (row : ℕ) (colour : Colour) (new : MarkTable) → new ≡ coloured t cid row colour → new ≡ record t { marks = new.marks }
coloured_same t cid row colour new is = is ∙ ap (λ m. record t { marks = m }) (ap (λ (x : MarkTable). x.marks) (sym is))

-- a mark that is not white stays when others are protected
may_stay : (P : Type 0) (row : ℕ) (colour : Colour) → colour ≢ White → (old new : Option Mark) → MayShade P old new → old ≡ Some (record { row = row; colour = colour }) → new ≡ Some (record { row = row; colour = colour })
may_stay P row colour not old new (stays same) is = same ∙ is
may_stay P row colour not old new (shades row' was now p) is = absurd (not (same_Some _ _ (sym (ap colour_in is) ∙ ap colour_in was)))

pub out_is_shaded : Out ≢ White
out_is_shaded e = absurd (cc)

module _ (edge : ℕ) (links : List (List ℕ)) where
  pub mark_stays : (old new : MarkTable) → Protects edge links old new → (cid : List ℕ) (row : ℕ) (colour : Colour) → colour ≢ White → mark_of old cid ≡ Some (record { row = row; colour = colour }) → mark_of new cid ≡ Some (record { row = row; colour = colour })
  mark_stays old new p cid row colour not is = may_stay _ row colour not _ _ (p.each cid) is

  -- a row that was made ready for reading, and is black when its links are protected
  pub blackens_by : (from : Colour) (cid : List ℕ) (row : ℕ) (old ready mid new : MarkTable) → mark_of old cid ≡ Some (record { row = row; colour = from })
      → ((other : List ℕ) → other ≢ cid → mark_of ready other ≡ mark_of old other) → ready ≡ record old { marks = ready.marks }
      → Protects edge links ready mid → new ≡ coloured mid cid row Black → Blackens edge from cid row links old new
  blackens_by from cid row old ready mid new was away same p is =
      let black : mark_of new cid ≡ Some (record { row = row; colour = Black }) = ap (λ t. mark_of t cid) is ∙ coloured_here mid cid row Black in
      let elsewhere : (other : List ℕ) → other ≢ cid → mark_of new other ≡ mark_of mid other = λ other not. ap (λ t. mark_of t other) is ∙ coloured_elsewhere mid cid row Black other not in
      record {
        was = was;
        black = black;
        reached = λ to r. elim (cases_cid to cid) [
          | inl here ↦ black_not_white _ (ap (colour_of new) here ∙ ap colour_in black)
          | inr other ↦ subst (λ m. colour_in m ≢ Some White) (sym (elsewhere to other)) (p.reached to r)
        ];
        others = λ other not. subst (λ m. MayShade (Reach edge none_kept links other) (mark_of old other) m) (sym (elsewhere other not))
            (subst (λ m. MayShade (Reach edge none_kept links other) m (mark_of mid other)) (away other not) (p.each other));
        same = same_then old mid new (same_then old ready mid same p.same) (coloured_same mid cid row Black new is);
      }

  -- a grey row that was popped
  pub blackens_popped : (cid : List ℕ) (row : ℕ) (old popped mid new : MarkTable) → mark_of old cid ≡ Some (record { row = row; colour = Grey }) → popped ≡ coloured old cid row Out
      → Protects edge links popped mid → new ≡ coloured mid cid row Black → Blackens edge Grey cid row links old new
  blackens_popped cid row old popped mid new was pop p is =
      blackens_by Grey cid row old popped mid new was (λ other not. ap (λ t. mark_of t other) pop ∙ coloured_elsewhere old cid row Out other not) (coloured_same old cid row Out popped pop) p is

  -- its mark while it is read
  pub popped_stays : (cid : List ℕ) (row : ℕ) (old popped mid : MarkTable) → popped ≡ coloured old cid row Out → Protects edge links popped mid → mark_of mid cid ≡ Some (record { row = row; colour = Out })
  popped_stays cid row old popped mid pop p = mark_stays popped mid p cid row Out out_is_shaded (ap (λ t. mark_of t cid) pop ∙ coloured_here old cid row Out)

-- a row that was popped and put back: all is as before
pub put_back_same : (cid : List ℕ) (row : ℕ) (old popped new : MarkTable) → mark_of old cid ≡ Some (record { row = row; colour = Grey }) → popped ≡ coloured old cid row Out → new ≡ coloured popped cid row Grey → new ≡ old
put_back_same cid row old popped new was pop back =
    let marks : new.marks ≡ old.marks = finite_map.same_map by_bytes exact new.marks old.marks (λ q. elim (cases_cid q cid) [
      | inl same ↦ ap (mark_of new) same ∙ ap (λ t. mark_of t cid) back ∙ coloured_here popped cid row Grey ∙ sym was ∙ ap (mark_of old) (sym same)
      | inr other ↦ ap (λ t. mark_of t q) back ∙ coloured_elsewhere popped cid row Grey q other ∙ ap (λ t. mark_of t q) pop ∙ coloured_elsewhere old cid row Out q other
    ]) in
    same_then old popped new (coloured_same old cid row Out popped pop) (coloured_same popped cid row Grey new back) ∙ ap (λ m. record old { marks = m }) marks

-- a row whose mark is known has its colour
pub coloured_by : (t : MarkTable) (cid : List ℕ) (row : ℕ) (colour : Colour) → mark_of t cid ≡ Some (record { row = row; colour = colour }) → IsColoured t row colour
coloured_by t cid row colour is = record { cid = cid; is = is }

-- a row that is out, whose links are known
module _ (edge : ℕ) (links : List (List ℕ)) (row : ℕ) (old mid new : MarkTable) (p : Protects edge links old mid) where
  pub out_after : IsColoured old row Out → IsColoured mid row Out
  out_after out = coloured_by mid out.cid row Out (mark_stays edge links old mid p out.cid row Out out_is_shaded out.is)

  pub blackens_out : (cid : List ℕ) → mark_of old cid ≡ Some (record { row = row; colour = Out })
      → ((c : List ℕ) → row_of mid c ≡ Some row → new ≡ coloured mid c row Black) → Blackens edge Out cid row links old new
  blackens_out cid was black =
      blackens_by edge links Out cid row old old mid new was (λ other not. refl) refl p
      (black cid (ap (option_map (λ (mark : Mark). mark.row)) (mark_stays edge links old mid p cid row Out out_is_shaded was)))
