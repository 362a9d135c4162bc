-- What a block is followed to, and what was met and is kept.
use Rattle.std.proofs.Common.{◌≡◌, ◌↔◌, ℕ, true, List, [], Contains, None, Some, is_some, sym, subst, ◌∙◌}
use Rattle.std.specs.Prelude.{Result, Ok, Err, IfOk, filter}
use Rattle.std.specs.Ordering.{nat_cmp}
use Rattle.std.specs.Cmp.{eq_by_cmp_equiv}
use Rattle.std.specs.Cmp.Lexicographic.{slice_cmp, nat_list_cmp_total}
use Rattle.std.specs.BTreeMap.{BTreeMap, get}
use Rattle.std.specs.FinMap as map
use Rattle.std.proofs.lemmas.Map.Views.{Contains-from_any, list_any-from_Contains}
use Rattle.std.proofs.lemmas.Option.{same_Some, none-some}
use Rattle.ss_cid.specs.Maps.{Kept}
use Rattle.ss_chain.specs.Fetch.{fetched}
use Rattle.ss_chain.specs.Follows.{followed}
use Rattle.ss_chain.specs.Reach.{Reach}
use Rattle.ss_model.specs.declared.met.Met.{Met}
use Rattle.ss_model.specs.Met.{was_met, Meets, Reads}
use Rattle.ss_model.specs.Lawful.{ArePlaces}
use Rattle.ss_model.proofs.Members.{none-Contains, filter-Contains, Contains-filter}
use Rattle.ss_model.proofs.Meeting.{is_same, meets_none}
use Rattle.ss_model.proofs.Placing.{placed-kept}

module _ (edge : ℕ) (kept : Kept) (cid : List ℕ) where
  -- a block is read
  pub reads_block : (block : List ℕ) (old new : Met) → Some block ≡ fetched kept cid → Meets (followed edge cid block) old new → Reads edge kept cid old new
  reads_block block old new is meets = record {
    links = followed edge cid block;
    meets = meets;
    followed = λ to. (
      λ at. record { block = block; is_fetched = sym is; follows = at },
      λ leads. subst (λ (b : List ℕ). Contains (followed edge cid b) to) (same_Some _ _ (sym leads.is_fetched ∙ sym is)) leads.follows,
    );
  }

  -- there is none
  pub reads_nothing : (met : Met) → None ≡ fetched kept cid → Reads edge kept cid met met
  reads_nothing met is = record {
    links = [];
    meets = meets_none met;
    followed = λ to. (λ at. absurd (none-Contains to at), λ leads. absurd (none-some leads.block (is ∙ leads.is_fetched)));
  }

-- the CIDs that have a place, of those that were met
abbrev placed_of : BTreeMap (List ℕ) ℕ → Met → List (List ℕ)
placed_of places met = filter (λ cid. is_some (get (slice_cmp nat_cmp) places cid)) met.cids.keys

abbrev IsReached : ℕ → Kept → List (List ℕ) → List (List ℕ) → Type 0
IsReached edge kept roots cids = (cid : List ℕ) → Contains cids cid ↔ (Reach edge kept roots cid × (map.contains_key kept cid ≡ true))

module _ (edge : ℕ) (pairs : List (List ℕ × List ℕ)) (kept : Kept) (roots : List (List ℕ)) (places : BTreeMap (List ℕ) ℕ) (are : ArePlaces pairs kept places)
    (met : Met) (searched : (cid : List ℕ) → (was_met met cid ≡ true) ↔ Reach edge kept roots cid) where
  listed : (cids : List (List ℕ)) → cids ≡ placed_of places met → IsReached edge kept roots cids
  listed cids is cid = (
    λ at. let p = Contains-filter (λ c. is_some (get (slice_cmp nat_cmp) places c)) met.cids.keys cid (subst (λ (xs : List (List ℕ)). Contains xs cid) is at) in (
      (searched cid).0 (list_any-from_Contains (eq_by_cmp_equiv nat_list_cmp_total) cid met.cids.keys p.0),
      sym (placed-kept pairs kept places are cid) ∙ p.1,
    ),
    λ both. subst (λ (xs : List (List ℕ)). Contains xs cid) (sym is)
        (filter-Contains (λ c. is_some (get (slice_cmp nat_cmp) places c)) met.cids.keys cid (placed-kept pairs kept places are cid ∙ both.1)
        (Contains-from_any is_same cid met.cids.keys ((searched cid).1 both.0))),
  )

  pub all_listed : {E : Type 0} (r : Result (List (List ℕ)) E) → IfOk r (λ cids. cids ≡ placed_of places met) → IfOk r (IsReached edge kept roots)
  all_listed (Ok cids) is = listed cids is
  all_listed (Err e) is = tt
