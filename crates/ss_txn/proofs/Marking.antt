-- Calls keep what holds of the marks.
use Rattle.std.proofs.Common.{◌≡◌, ◌≢◌, ℕ, ◌⊎◌, inl, inr, List, [], ◌∷◌, ◌++◌, Contains, Option, None, Some, is_some, refl, sym, ap, subst, ◌∙◌}
use Rattle.std.specs.Prelude.{option_map}
use Rattle.std.proofs.lemmas.Option.{same_Some, none-some}
use Rattle.std.proofs.lemmas.List.Elements.{Contains-append_left, Contains-append_right, Contains-append_cases}
use Rattle.ss_cid.specs.Maps.{Kept}
use Rattle.ss_chain.specs.Reach.{LeadsTo, Reach}
use Rattle.ss_chain.proofs.Reached.{reach-root, reach-next}
use Rattle.ss_marks.specs.declared.colour.Colour.{Colour}
use Rattle.ss_marks.specs.declared.colour.Colour.TheVariants.{White, Grey, Black}
use Rattle.ss_marks.specs.Marks.{Mark, MarkTable, mark_of, row_of, colour_of, whitened}
use Rattle.ss_txn.specs.Marked.{none_kept, IsNotWhite, Protected, HasRows, Marked}
use Rattle.ss_txn.specs.Marked.{KeepsRows, MayShade, stays, shades, Protects, Begins, Blackens, AreFollowed}
use Rattle.ss_txn.proofs.Paths.{reach-from, reach-more, reach-kept, reach-on}
use Rattle.ss_txn.proofs.Shading.{colour_in, cases_cid, black_not_white, may_keeps}

abbrev pub row_in : Option Mark → Option ℕ
row_in = option_map (λ (mark : Mark). mark.row)

-- ---- what was before a change

module _ (P : Type 0) where
  -- a row stays that of its CID
  pub may_row : (old new : Option Mark) → MayShade P old new → row_in new ≡ row_in old
  may_row old new (stays same) = ap row_in same
  may_row old new (shades row was now p) = ap row_in now ∙ sym (ap row_in was)

  -- what is black was black
  pub may_black : (old new : Option Mark) → MayShade P old new → colour_in new ≡ Some Black → colour_in old ≡ Some Black
  may_black old new (stays same) black = ap colour_in (sym same) ∙ black
  may_black old new (shades row was now p) black = let e : Grey ≡ Black = same_Some _ _ (sym (ap colour_in now) ∙ black) in absurd (cc)

  -- a colour that is not white was there, or came
  pub may_shaded : (colour : Colour) → colour ≢ White → (old new : Option Mark) → MayShade P old new → colour_in new ≡ Some colour → (colour_in old ≡ Some colour) ⊎ P
  may_shaded colour not old new (stays same) is = inl (ap colour_in (sym same) ∙ is)
  may_shaded colour not old new (shades row was now p) is = inr p

whitened_row : (o : Option Mark) → row_in (option_map whitened o) ≡ row_in o
whitened_row None = refl
whitened_row (Some mark) = refl

whitened_colour : (colour : Colour) → colour ≢ White → (o : Option Mark) → colour_in (option_map whitened o) ≡ Some colour → ⊥
whitened_colour colour not None is = none-some colour is
whitened_colour colour not (Some mark) is = not (sym (same_Some _ _ is))

black_is_not_white : Black ≢ White
black_is_not_white e = absurd (cc)

-- each change keeps the rows
pub protects_rows : (edge : ℕ) (cids : List (List ℕ)) (old new : MarkTable) → Protects edge cids old new → KeepsRows old new
protects_rows edge cids old new p q = may_row _ _ _ (p.each q)

pub begins_rows : (edge : ℕ) (roots : List (List ℕ)) (old new : MarkTable) → Begins edge roots old new → KeepsRows old new
begins_rows edge roots old new b q = may_row _ _ _ (b.each q) ∙ whitened_row (mark_of old q)

pub blackens_rows : (edge : ℕ) (from : Colour) (cid : List ℕ) (row : ℕ) (links : List (List ℕ)) (old new : MarkTable) → Blackens edge from cid row links old new → KeepsRows old new
blackens_rows edge from cid row links old new b q = elim (cases_cid q cid) [
  | inl same ↦ ap (row_of new) same ∙ ap row_in b.black ∙ sym (ap row_in b.was) ∙ ap (row_of old) (sym same)
  | inr other ↦ may_row _ _ _ (b.others q other)
]

module _ (edge : ℕ) (kept : Kept) where
  -- what is protected stays so while nothing becomes white
  pub protected_stays : (old new : MarkTable) → ((cid : List ℕ) → IsNotWhite old cid → IsNotWhite new cid) → (cid : List ℕ) → Protected edge old cid → Protected edge new cid
  protected_stays old new keeps cid p to r = keeps to (p to r)

  -- each of some CIDs is protected by what they reach together
  protected_of : (cids : List (List ℕ)) (new : MarkTable) → ((cid : List ℕ) → Reach edge none_kept cids cid → IsNotWhite new cid) → (cid : List ℕ) → Contains cids cid → Protected edge new cid
  protected_of cids new reached cid is to r = reached to (reach-on edge none_kept cids cid to (reach-root edge none_kept cids cid is) r)

  module _ (roots : List (List ℕ)) (old new : MarkTable) where
    pub protects_marked : (cid : List ℕ) → Protects edge (cid ∷ []) old new → Marked edge kept roots old → Marked edge kept (roots ++ cid ∷ []) new
    protects_marked cid p m =
        let keeps : (q : List ℕ) → IsNotWhite old q → IsNotWhite new q = λ q. may_keeps _ (mark_of old q) (mark_of new q) (p.each q) in
        record {
          rows = λ q. ap is_some (protects_rows edge (cid ∷ []) old new p q) ∙ m.rows q;
          roots_are = λ q is. elim (Contains-append_cases roots (cid ∷ []) q is) [
            | inl before ↦ protected_stays old new keeps q (m.roots_are q before)
            | inr last ↦ protected_of (cid ∷ []) new p.reached q last
          ];
          black = λ from to is leads. protected_stays old new keeps to (m.black from to (may_black _ _ _ (p.each from) is) leads);
          reached = λ q s. elim (may_shaded _ s.colour s.not_white _ _ (p.each q) s.is) [
            | inl was ↦ reach-more edge kept roots (roots ++ cid ∷ []) (λ r. Contains-append_left roots (cid ∷ []) r) q
                (m.reached q (record { colour = s.colour; is = was; not_white = s.not_white }))
            | inr r ↦ reach-more edge kept (cid ∷ []) (roots ++ cid ∷ []) (λ x. Contains-append_right roots (cid ∷ []) x) q (reach-kept edge kept (cid ∷ []) q r)
          ];
        }

    pub begins_marked : Begins edge roots old new → HasRows kept old → Marked edge kept roots new
    begins_marked b rows = record {
      rows = λ q. ap is_some (begins_rows edge roots old new b q) ∙ rows q;
      roots_are = protected_of roots new b.reached;
      black = λ from to is leads. absurd (whitened_colour Black black_is_not_white (mark_of old from) (may_black _ _ _ (b.each from) is));
      reached = λ q s. elim (may_shaded _ s.colour s.not_white _ _ (b.each q) s.is) [
        | inl was ↦ absurd (whitened_colour s.colour s.not_white (mark_of old q) was)
        | inr r ↦ reach-kept edge kept roots q r
      ];
    }

    module _ (from : Colour) (shaded : from ≢ White) (cid : List ℕ) (row : ℕ) (links : List (List ℕ)) (b : Blackens edge from cid row links old new) where
      keeps_all : (q : List ℕ) → IsNotWhite old q → IsNotWhite new q
      keeps_all q not = elim (cases_cid q cid) [
        | inl same ↦ black_not_white _ (ap (colour_of new) same ∙ ap colour_in b.black)
        | inr other ↦ may_keeps _ (mark_of old q) (mark_of new q) (b.others q other) not
      ]

      pub blackens_marked : AreFollowed edge kept cid links → Marked edge kept roots old → Marked edge kept roots new
      blackens_marked follows m =
          let here : Reach edge kept roots cid = m.reached cid (record { colour = from; is = ap colour_in b.was; not_white = shaded }) in
          record {
            rows = λ q. ap is_some (blackens_rows edge from cid row links old new b q) ∙ m.rows q;
            roots_are = λ q is. protected_stays old new keeps_all q (m.roots_are q is);
            black = λ x to is leads. elim (cases_cid x cid) [
              | inl same ↦ protected_of links new b.reached to ((follows to).1 (subst (λ (f : List ℕ). LeadsTo edge kept f to) same leads))
              | inr other ↦ protected_stays old new keeps_all to (m.black x to (may_black _ _ _ (b.others x other) is) leads)
            ];
            reached = λ q s. elim (cases_cid q cid) [
              | inl same ↦ subst (λ (c : List ℕ). Reach edge kept roots c) (sym same) here
              | inr other ↦ elim (may_shaded _ s.colour s.not_white _ _ (b.others q other) s.is) [
                | inl was ↦ m.reached q (record { colour = s.colour; is = was; not_white = s.not_white })
                | inr r ↦ reach-from edge kept links roots (λ link is. reach-next edge kept roots cid link here ((follows link).0 is)) q (reach-kept edge kept links q r)
              ]
            ];
          }
