-- What shading does to marks.
use Rattle.std.proofs.Common.{◌≡◌, ◌≢◌, ℕ, ◌⊎◌, inl, inr, true, false, List, Option, None, Some, refl, sym, ap, ◌∙◌}
use Rattle.std.specs.Prelude.{option_map}
use Rattle.std.proofs.lemmas.Bool.{true≢false}
use Rattle.std.proofs.lemmas.Option.{same_Some, none-some}
use Rattle.ss_marks.specs.declared.colour.Colour.{Colour}
use Rattle.ss_marks.specs.declared.colour.Colour.TheVariants.{White, Grey, Out, Black}
use Rattle.ss_marks.specs.Marks.{Mark, MarkTable, mark_of, row_of, colour_of, coloured}
use Rattle.ss_marks.proofs.Marked.{eq_cid, eq_cid-itself, eq_cid-true}
use Rattle.ss_marks.proofs.Using.{coloured_here, coloured_elsewhere}
use Rattle.ss_txn.specs.Marked.{MayShade, stays, shades, Shades}

abbrev pub colour_in : Option Mark → Option Colour
colour_in = option_map (λ (mark : Mark). mark.colour)

-- two CIDs are the same or not
pub cases_cid : (a b : List ℕ) → (a ≡ b) ⊎ (a ≢ b)
cases_cid a b =
    elim (eq_cid a b) as (λ t. eq_cid a b ≡ t → (a ≡ b) ⊎ (a ≢ b)) [
      | true ↦ λ e. inl (eq_cid-true a b e)
      | false ↦ λ e. inr (λ same. true≢false (sym (eq_cid-itself a b same) ∙ e))
    ] refl

pub grey_not_white : (o : Option Colour) → o ≡ Some Grey → o ≢ Some White
grey_not_white o is white = let e : Grey ≡ White = same_Some _ _ (sym is ∙ white) in absurd (cc)

pub black_not_white : (o : Option Colour) → o ≡ Some Black → o ≢ Some White
black_not_white o is white = let e : Black ≡ White = same_Some _ _ (sym is ∙ white) in absurd (cc)

module _ (P : Type 0) where
  -- what is not white stays so
  pub may_keeps : (old new : Option Mark) → MayShade P old new → colour_in old ≢ Some White → colour_in new ≢ Some White
  may_keeps old new (stays same) not h = not (ap colour_in (sym same) ∙ h)
  may_keeps old new (shades row was now p) not h = grey_not_white (colour_in new) (ap colour_in now) h

  pub may_weaker : (Q : Type 0) → (P → Q) → (old new : Option Mark) → MayShade P old new → MayShade Q old new
  may_weaker Q f old new (stays same) = stays same
  may_weaker Q f old new (shades row was now p) = shades row was now (f p)

  -- one change after another
  pub may_then : (Q R : Type 0) → (P → R) → (Q → R) → (a b c : Option Mark) → MayShade P a b → MayShade Q b c → MayShade R a c
  may_then Q R f g a b c (stays e) (stays e') = stays (e' ∙ e)
  may_then Q R f g a b c (stays e) (shades row was now q) = shades row (sym e ∙ was) now (g q)
  may_then Q R f g a b c (shades row was now p) (stays e) = shades row was (e ∙ now) (f p)
  may_then Q R f g a b c (shades row was now p) (shades row' was' now' q) = absurd (grey_not_white (colour_in b) (ap colour_in now) (ap colour_in was'))

-- nothing but marks changes
pub same_then : (a b c : MarkTable) → b ≡ record a { marks = b.marks } → c ≡ record b { marks = c.marks } → c ≡ record a { marks = c.marks }
same_then a b c p q = q ∙ ap (λ (t : MarkTable). record t { marks = c.marks }) p

-- ---- a row is shaded

module _ (old new : MarkTable) (cid : List ℕ) (row : ℕ) where
  shades_white : mark_of old cid ≡ Some (record { row = row; colour = White }) → new ≡ coloured old cid row Grey → Shades cid old new
  shades_white was is =
      let here = ap (λ t. mark_of t cid) is ∙ coloured_here old cid row Grey in
      record {
        here = grey_not_white (colour_of new cid) (ap colour_in here);
        each = λ other. elim (cases_cid other cid) [
          | inl same ↦ shades row (ap (mark_of old) same ∙ was) (ap (mark_of new) same ∙ here) same
          | inr not ↦ stays (ap (λ t. mark_of t other) is ∙ coloured_elsewhere old cid row Grey other not)
        ];
        same = is ∙ ap (λ m. record old { marks = m }) (ap (λ (t : MarkTable). t.marks) (sym is));
      }

  shades_other : (colour : Colour) → mark_of old cid ≡ Some (record { row = row; colour = colour }) → colour ≢ White → new ≡ old → Shades cid old new
  shades_other colour was not is = record {
    here = λ white. not (same_Some _ _ (sym (ap (λ t. colour_of t cid) is ∙ ap colour_in was) ∙ white));
    each = λ other. stays (ap (λ t. mark_of t other) is);
    same = is ∙ ap (λ m. record old { marks = m }) (ap (λ (t : MarkTable). t.marks) (sym is));
  }

  module _ (white : (c : List ℕ) → mark_of old c ≡ Some (record { row = row; colour = White }) → new ≡ coloured old c row Grey)
      (others : (c : List ℕ) (other : Colour) → mark_of old c ≡ Some (record { row = row; colour = other }) → other ≢ White → new ≡ old) where
    by_colour : (colour : Colour) → mark_of old cid ≡ Some (record { row = row; colour = colour }) → Shades cid old new
    by_colour White was = shades_white was (white cid was)
    by_colour Grey was = shades_other Grey was (λ e. absurd (cc)) (others cid Grey was (λ e. absurd (cc)))
    by_colour Out was = shades_other Out was (λ e. absurd (cc)) (others cid Out was (λ e. absurd (cc)))
    by_colour Black was = shades_other Black was (λ e. absurd (cc)) (others cid Black was (λ e. absurd (cc)))

    by_mark : (o : Option Mark) → mark_of old cid ≡ o → option_map (λ (mark : Mark). mark.row) o ≡ Some row → Shades cid old new
    by_mark None was is = absurd (none-some row is)
    by_mark (Some mark) was is = by_colour mark.colour (was ∙ ap (λ r. Some (record { row = r; colour = mark.colour })) (same_Some _ _ is))

    -- from what the call of `shade` did
    pub shades_by : row_of old cid ≡ Some row → Shades cid old new
    shades_by is = by_mark (mark_of old cid) refl is
