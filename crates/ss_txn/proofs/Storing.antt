-- Blocks that are stored or discarded while marking goes on.
use Rattle.std.proofs.Common.{◌≡◌, ◌≢◌, ℕ, inl, inr, Bool, true, false, cond, List, [], ◌∷◌, ◌++◌, Option, None, Some, is_some, refl, sym, ap, subst, ◌∙◌}
use Rattle.std.specs.FinMap as finite_map
use Rattle.std.proofs.lemmas.Bool.{true≢false, cond-true, cond-false, false_from_ne_true}
use Rattle.std.proofs.lemmas.Option.{same_Some, none-some}
use Rattle.std.proofs.lemmas.List.Elements.{Contains-append_left, Contains-append_right, Contains-append_cases}
use Rattle.ss_cid.specs.Cid.{digest_of}
use Rattle.ss_cid.specs.Maps.{CidMap, Kept}
use Rattle.ss_chain.specs.Fetch.{is_identity, fetched}
use Rattle.ss_chain.specs.Reach.{LeadsTo, Reach}
use Rattle.ss_chain.proofs.Reached.{reach_each, reach-root, reach-next}
use Rattle.ss_marks.specs.declared.colour.Colour.{Colour}
use Rattle.ss_marks.specs.declared.colour.Colour.TheVariants.{White, Grey, Out, Black}
use Rattle.ss_marks.specs.Marks.{MarkTable, mark_of, row_of, colour_of}
use Rattle.ss_marks.proofs.Colours.{by_bytes}
use Rattle.ss_marks.proofs.Marked.{eq_cid, eq_cid-itself, eq_cid-true}
use Rattle.ss_txn.specs.Marked.{none_kept, IsNotWhite, HasRows, Marked, IsQuiet}
use Rattle.ss_txn.specs.Marked.{Protects}
use Rattle.ss_txn.proofs.Paths.{reach-itself, reach-more, reach-kept, reach-on}
use Rattle.ss_txn.proofs.Shading.{cases_cid, colour_in, may_keeps}
use Rattle.ss_txn.proofs.Marking.{row_in, may_row, may_black, may_shaded, protected_stays}
use Rattle.ss_txn.proofs.Quiet.{white_unreached}

-- ---- a map after one entry is removed or inserted

module _ {X : Type 0} (m : CidMap X) (cid : List ℕ) where
  differs : (q : List ℕ) → q ≢ cid → eq_cid q cid ≡ false
  differs q other = false_from_ne_true (eq_cid q cid) (λ e. other (eq_cid-true q cid e))

  removed_here : finite_map.get (finite_map.remove m cid) cid ≡ None
  removed_here = finite_map.get-remove by_bytes m cid cid ∙ cond-true (eq_cid cid cid) None (finite_map.get m cid) (eq_cid-itself cid cid refl)

  removed_elsewhere : (q : List ℕ) → q ≢ cid → finite_map.get (finite_map.remove m cid) q ≡ finite_map.get m q
  removed_elsewhere q other = finite_map.get-remove by_bytes m cid q ∙ cond-false (eq_cid q cid) None (finite_map.get m q) (differs q other)

  pub inserted_here : (x : X) → finite_map.get (finite_map.insert m cid x) cid ≡ Some x
  inserted_here x = finite_map.get-insert by_bytes m cid x cid ∙ cond-true (eq_cid cid cid) (Some x) (finite_map.get m cid) (eq_cid-itself cid cid refl)

  pub inserted_elsewhere : (x : X) (q : List ℕ) → q ≢ cid → finite_map.get (finite_map.insert m cid x) q ≡ finite_map.get m q
  inserted_elsewhere x q other = finite_map.get-insert by_bytes m cid x q ∙ cond-false (eq_cid q cid) (Some x) (finite_map.get m q) (differs q other)

-- a map that has the same at a CID leads on from it in the same way
fetched-same : (a b : Kept) (q : List ℕ) → finite_map.get a q ≡ finite_map.get b q → fetched a q ≡ fetched b q
unfolding fetched
fetched-same a b q same = ap (λ o. cond (is_identity q) (Some (digest_of q)) o) same

leads-same : (edge : ℕ) (a b : Kept) (from to : List ℕ) → finite_map.get a from ≡ finite_map.get b from → LeadsTo edge a from to → LeadsTo edge b from to
leads-same edge a b from to same leads =
    record { block = leads.block; is_fetched = sym (fetched-same a b from same) ∙ leads.is_fetched; follows = leads.follows }

-- ---- a white block goes

module _ (edge : ℕ) (kept : Kept) (roots : List (List ℕ)) (old new : MarkTable) (cid : List ℕ) where
  module _ (is : new.marks ≡ finite_map.remove old.marks cid) where
    gone_here : mark_of new cid ≡ None
    gone_here = ap (λ m. finite_map.get m cid) is ∙ removed_here old.marks cid

    gone_elsewhere : (q : List ℕ) → q ≢ cid → mark_of new q ≡ mark_of old q
    gone_elsewhere q other = ap (λ m. finite_map.get m q) is ∙ removed_elsewhere old.marks cid q other

    -- a colour that is there was there, at another CID
    gone_colour : (q : List ℕ) (colour : Colour) → colour_of new q ≡ Some colour → (q ≢ cid) × (colour_of old q ≡ Some colour)
    gone_colour q colour at = elim (cases_cid q cid) [
      | inl same ↦ absurd (none-some colour (sym (ap (colour_of new) same ∙ ap colour_in gone_here) ∙ at))
      | inr other ↦ (other, ap colour_in (sym (gone_elsewhere q other)) ∙ at)
    ]

    pub gone_quiet : IsQuiet old → IsQuiet new
    gone_quiet quiet = (λ q grey. quiet.0 q (gone_colour q Grey grey).1, λ q out. quiet.1 q (gone_colour q Out out).1)

    gone_keeps : (q : List ℕ) → IsNotWhite old q → IsNotWhite new q
    gone_keeps q not white = not (gone_colour q White white).1

    gone_rows : HasRows kept old → HasRows (finite_map.remove kept cid) new
    gone_rows rows q = elim (cases_cid q cid) [
      | inl same ↦ ap (λ x. is_some (row_of new x)) same ∙ ap (λ o. is_some (row_in o)) gone_here
          ∙ sym (ap (λ x. finite_map.contains_key (finite_map.remove kept cid) x) same ∙ ap is_some (removed_here kept cid))
      | inr other ↦ ap (λ o. is_some (row_in o)) (gone_elsewhere q other) ∙ rows q ∙ ap is_some (sym (removed_elsewhere kept cid q other))
    ]

    pub gone_marked : Marked edge kept roots old → IsQuiet old → colour_of old cid ≡ Some White → Marked edge (finite_map.remove kept cid) roots new
    gone_marked m quiet white = record {
      rows = gone_rows m.rows;
      roots_are = λ q at. protected_stays edge kept old new gone_keeps q (m.roots_are q at);
      black = λ from to at leads.
          let was = gone_colour from Black at in
          protected_stays edge kept old new gone_keeps to (m.black from to was.1 (leads-same edge _ kept from to (removed_elsewhere kept cid from was.0) leads));
      reached = λ q s.
          let was = gone_colour q s.colour s.is in
          still q (m.reached q (record { colour = s.colour; is = was.1; not_white = s.not_white }));
    } where
      -- what was reached is, since no path led over the white block
      still : (q : List ℕ) → Reach edge kept roots q → Reach edge (finite_map.remove kept cid) roots q
      still q r = (reach_each edge kept roots (λ x. Reach edge (finite_map.remove kept cid) roots x × Reach edge kept roots x)
          (λ root at. (reach-root edge _ roots root at, reach-root edge kept roots root at))
          (λ from to both leads. (
            reach-next edge _ roots from to both.0
                (leads-same edge kept _ from to (sym (removed_elsewhere kept cid from (λ same. white_unreached edge kept roots old m quiet cid white (subst (λ (x : List ℕ). Reach edge kept roots x) same both.1)))) leads),
            reach-next edge kept roots from to both.1 leads,
          )) q r).0

-- ---- a block is stored

module _ (edge : ℕ) (kept : Kept) (roots : List (List ℕ)) (old added new : MarkTable) (cid block : List ℕ) (row : ℕ)
    (absent : mark_of old cid ≡ None) (is : added.marks ≡ finite_map.insert old.marks cid (record { row = row; colour = White })) (p : Protects edge (cid ∷ []) added new) (m : Marked edge kept roots old) where
  more : Kept
  more = finite_map.insert kept cid block

  added_here : mark_of added cid ≡ Some (record { row = row; colour = White })
  added_here = ap (λ t. finite_map.get t cid) is ∙ inserted_here old.marks cid (record { row = row; colour = White })

  added_elsewhere : (q : List ℕ) → q ≢ cid → mark_of added q ≡ mark_of old q
  added_elsewhere q other = ap (λ t. finite_map.get t q) is ∙ inserted_elsewhere old.marks cid (record { row = row; colour = White }) q other

  added_keeps : (q : List ℕ) → IsNotWhite old q → IsNotWhite new q
  added_keeps q not = elim (cases_cid q cid) [
    | inl same ↦ subst (λ (x : List ℕ). IsNotWhite new x) (sym same) (p.reached cid (reach-itself edge none_kept cid))
    | inr other ↦ may_keeps _ (mark_of added q) (mark_of new q) (p.each q) (subst (λ o. colour_in o ≢ Some White) (sym (added_elsewhere q other)) not)
  ]

  -- a colour that is not white was there before, at another CID
  added_colour : (q : List ℕ) (colour : Colour) → colour ≢ White → colour_of added q ≡ Some colour → (q ≢ cid) × (colour_of old q ≡ Some colour)
  added_colour q colour not at = elim (cases_cid q cid) [
    | inl same ↦ absurd (not (same_Some _ _ (sym at ∙ ap (colour_of added) same ∙ ap colour_in added_here)))
    | inr other ↦ (other, ap colour_in (sym (added_elsewhere q other)) ∙ at)
  ]

  added_rows : HasRows more new
  unfolding more
  added_rows q = ap is_some (may_row _ _ _ (p.each q)) ∙ elim (cases_cid q cid) [
    | inl same ↦ ap (λ x. is_some (row_of added x)) same ∙ ap (λ o. is_some (row_in o)) added_here
        ∙ sym (ap (λ x. finite_map.contains_key (finite_map.insert kept cid block) x) same ∙ ap is_some (inserted_here kept cid block))
    | inr other ↦ ap (λ o. is_some (row_in o)) (added_elsewhere q other) ∙ m.rows q ∙ ap is_some (sym (inserted_elsewhere kept cid block q other))
  ]

  not_kept : finite_map.contains_key kept cid ≡ false
  not_kept = sym (m.rows cid) ∙ ap (λ o. is_some (row_in o)) absent

  none_of : (o : Option (List ℕ)) → is_some o ≡ false → o ≡ None
  none_of None e = refl
  none_of (Some x) e = absurd (true≢false e)

  fetched-more : (b : Bool) (q x : List ℕ) → is_identity q ≡ b → fetched kept q ≡ Some x → fetched more q ≡ Some x
  unfolding fetched more
  fetched-more true q x id h = rw id (subst (λ t. cond t (Some (digest_of q)) (finite_map.get kept q) ≡ Some x) id h)
  fetched-more false q x id h =
      let stored : finite_map.get kept q ≡ Some x = subst (λ t. cond t (Some (digest_of q)) (finite_map.get kept q) ≡ Some x) id h in
      rw id (elim (cases_cid q cid) [
        | inl same ↦ absurd (none-some x (sym (ap (finite_map.get kept) same ∙ none_of _ not_kept) ∙ stored))
        | inr other ↦ inserted_elsewhere kept cid block q other ∙ stored
      ])

  reach-stays : (q : List ℕ) → Reach edge kept roots q → Reach edge more roots q
  reach-stays = reach_each edge kept roots (λ x. Reach edge more roots x) (reach-root edge more roots)
      (λ from to r leads. reach-next edge more roots from to r (record { block = leads.block; is_fetched = fetched-more (is_identity from) from leads.block refl leads.is_fetched; follows = leads.follows }))

  pub added_marked : Marked edge (finite_map.insert kept cid block) (roots ++ cid ∷ []) new
  unfolding more
  added_marked = record {
    rows = added_rows;
    roots_are = λ q at. elim (Contains-append_cases roots (cid ∷ []) q at) [
      | inl before ↦ protected_stays edge kept old new added_keeps q (m.roots_are q before)
      | inr last ↦ λ to r. p.reached to (reach-on edge none_kept (cid ∷ []) q to (reach-root edge none_kept (cid ∷ []) q last) r)
    ];
    black = λ from to at leads.
        let was = added_colour from Black (λ e. absurd (cc)) (may_black _ _ _ (p.each from) at) in
        protected_stays edge kept old new added_keeps to (m.black from to was.1 (leads-same edge _ kept from to (inserted_elsewhere kept cid block from was.0) leads));
    reached = λ q s. elim (may_shaded _ s.colour s.not_white _ _ (p.each q) s.is) [
      | inl at ↦
          let was = added_colour q s.colour s.not_white at in
          reach-more edge _ roots (roots ++ cid ∷ []) (λ r. Contains-append_left roots (cid ∷ []) r) q (reach-stays q (m.reached q (record { colour = s.colour; is = was.1; not_white = s.not_white })))
      | inr r ↦ reach-more edge _ (cid ∷ []) (roots ++ cid ∷ []) (λ x. Contains-append_right roots (cid ∷ []) x) q (reach-kept edge _ (cid ∷ []) q r)
    ];
  }
