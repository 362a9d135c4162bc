-- What holds once nothing is grey or out.
use Rattle.std.proofs.Common.{◌≡◌, ℕ, Bool, true, false, cond, List, [], ◌∷◌, Option, None, Some, is_some, refl, sym, ap, subst, ◌∙◌}
use Rattle.std.specs.Prelude.{option_map}
use Rattle.std.specs.FinMap as finite_map
use Rattle.std.proofs.lemmas.Bool.{true≢false}
use Rattle.ss_cid.specs.Cid.{digest_of}
use Rattle.ss_cid.specs.Maps.{Kept}
use Rattle.ss_chain.specs.Fetch.{is_identity, fetched}
use Rattle.ss_chain.specs.Reach.{LeadsTo, Reach}
use Rattle.ss_chain.proofs.Reached.{reach_each, reach-next}
use Rattle.ss_marks.specs.declared.colour.Colour.{Colour}
use Rattle.ss_marks.specs.declared.colour.Colour.TheVariants.{White, Grey, Out, Black}
use Rattle.ss_marks.specs.Marks.{Mark, MarkTable, mark_of, row_of, colour_of}
use Rattle.ss_txn.specs.Marked.{none_kept, IsNotWhite, Protected, Marked, IsQuiet}
use Rattle.ss_txn.proofs.Paths.{reach-itself, reach-on, identity-leads, leads-identity}

stored-fetched : (kept : Kept) (cid block : List ℕ) (b : Bool) → is_identity cid ≡ b → b ≡ false → fetched kept cid ≡ Some block → finite_map.contains_key kept cid ≡ true
unfolding fetched
stored-fetched kept cid block b is e h =
    ap is_some (subst (λ t. cond t (Some (digest_of cid)) (finite_map.get kept cid) ≡ Some block) (is ∙ e) h)

module _ (marks : MarkTable) (quiet : IsQuiet marks) (cid : List ℕ) (not : IsNotWhite marks cid) where
  by_colour : (colour : Colour) → colour_of marks cid ≡ Some colour → colour_of marks cid ≡ Some Black
  by_colour White is = absurd (not is)
  by_colour Grey is = absurd (quiet.0 cid is)
  by_colour Out is = absurd (quiet.1 cid is)
  by_colour Black is = is

  by_mark : (o : Option Mark) → mark_of marks cid ≡ o → is_some (option_map (λ (mark : Mark). mark.row) o) ≡ true → colour_of marks cid ≡ Some Black
  by_mark None is some = absurd (true≢false (sym some))
  by_mark (Some mark) is some = by_colour mark.colour (ap (option_map (λ (m : Mark). m.colour)) is)

  -- what has a row and is not white is black
  pub is_black : is_some (row_of marks cid) ≡ true → colour_of marks cid ≡ Some Black
  is_black some = by_mark (mark_of marks cid) refl some

module _ (edge : ℕ) (kept : Kept) (roots : List (List ℕ)) (marks : MarkTable) (m : Marked edge kept roots marks) (quiet : IsQuiet marks) where
  goes_on : (b : Bool) (from to : List ℕ) → is_identity from ≡ b → Protected edge marks from → LeadsTo edge kept from to → Protected edge marks to
  goes_on true from to is p leads = λ t r.
      p t (reach-on edge none_kept (from ∷ []) to t
      (reach-next edge none_kept (from ∷ []) from to (reach-itself edge none_kept from) (leads-identity edge none_kept from to is (identity-leads edge kept from to is leads))) r)
  goes_on false from to is p leads =
      m.black from to (is_black marks quiet from (p from (reach-itself edge none_kept from)) (m.rows from ∙ stored-fetched kept from leads.block false is refl leads.is_fetched)) leads

  -- all that is reached is protected
  pub all_protected : (cid : List ℕ) → Reach edge kept roots cid → Protected edge marks cid
  all_protected = reach_each edge kept roots (Protected edge marks) m.roots_are (λ from to p leads. goes_on (is_identity from) from to refl p leads)

  pub white_unreached : (cid : List ℕ) → colour_of marks cid ≡ Some White → Reach edge kept roots cid → ⊥
  white_unreached cid white r = all_protected cid r cid (reach-itself edge none_kept cid) white
