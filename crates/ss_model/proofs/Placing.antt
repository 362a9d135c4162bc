-- The places of a parcel's blocks, found from the last pair to the first.
use Rattle.std.proofs.Common.{◌≡◌, ℕ, zero, suc, ◌+◌, ◌<◌, ◌≤◌, Bool, true, false, cond, List, [], ◌∷◌, length, drop, Option, None, Some, Bor, is_some, refl, sym, ap, subst, ◌∙◌, arith}
use Rattle.std.specs.Prelude.{slice_get, not, option_map}
use Rattle.std.specs.Option.{option_copied}
use Rattle.std.specs.Ordering.{nat_cmp, eq_by_cmp}
use Rattle.std.specs.Cmp.{eq_by_cmp_equiv}
use Rattle.std.specs.Cmp.Lexicographic.{slice_cmp, nat_list_cmp_total}
use Rattle.std.specs.BTreeMap.{BTreeMap, get}
use Rattle.std.specs.FinMap as map
use Rattle.std.proofs.Math.ListN.{drop_of_length-le}
use Rattle.std.proofs.lemmas.List.{drop_more}
use Rattle.std.proofs.lemmas.Option.{slice_get_within, get_or_from_slice_get, none-some}
use Rattle.ss_cid.specs.Cid.{identity_of}
use Rattle.ss_cid.specs.Maps.{Kept}
use Rattle.ss_chain.specs.Fetch.{is_identity, fetched}
use Rattle.ss_chain.specs.Parcel.{kept_of}
use Rattle.ss_chain.proofs.Kept.{fetched-stored}
use Rattle.ss_model.specs.Lawful.{block_at, ArePlaces}

abbrev place_of : BTreeMap (List ℕ) ℕ → List ℕ → Option ℕ
place_of = get (slice_cmp nat_cmp)

kept_of_none : (cid : List ℕ) → map.get (kept_of []) cid ≡ None
unfolding kept_of
kept_of_none cid = map.get-empty _ cid

kept_of_identity : (p : List ℕ × List ℕ) (pairs : List (List ℕ × List ℕ)) → is_identity p.0 ≡ true → kept_of (p ∷ pairs) ≡ kept_of pairs
unfolding kept_of
kept_of_identity p pairs is = rw is refl

kept_of_stored : (p : List ℕ × List ℕ) (pairs : List (List ℕ × List ℕ)) → is_identity p.0 ≡ false → kept_of (p ∷ pairs) ≡ map.insert (kept_of pairs) p.0 p.1
unfolding kept_of
kept_of_stored p pairs is = rw is refl

module _ (pairs : List (List ℕ × List ℕ)) where
  -- the pair at an index, and those after it
  from_here : (i : ℕ) (p : List ℕ × List ℕ) → slice_get pairs i ≡ Some p → drop i pairs ≡ p ∷ drop (i + 1) pairs
  from_here i p at = drop_more pairs i p (slice_get_within pairs i p at) ∙ ap (λ q. q ∷ drop (i + 1) pairs) (get_or_from_slice_get pairs i p p at)

  -- of the pairs from an index on
  abbrev pub PlacedFrom : ℕ → BTreeMap (List ℕ) ℕ → Type 0
  PlacedFrom i places = ArePlaces pairs (kept_of (drop i pairs)) places

  pub placed_none : (i : ℕ) (places : BTreeMap (List ℕ) ℕ) → length pairs ≤ i → places.entries ≡ [] → PlacedFrom i places
  placed_none i places end none = record {
    blocks = λ cid. ap (λ (ps : List (List ℕ × List ℕ)). map.get (kept_of ps) cid) (drop_of_length-le pairs end) ∙ kept_of_none cid ∙ rw none refl;
    within = λ cid k at. absurd (none-some k (rw none at at));
  }

  module _ (i j : ℕ) (p : List ℕ × List ℕ) (next : j ≡ i + 1) (at : slice_get pairs i ≡ Some p) where
    split : drop i pairs ≡ p ∷ drop j pairs
    split = from_here i p at ∙ ap (λ n. p ∷ drop n pairs) (sym next)

    -- a pair under an identity CID
    pub placed_skip : (places : BTreeMap (List ℕ) ℕ) → is_identity p.0 ≡ true → PlacedFrom j places → PlacedFrom i places
    placed_skip places is from = subst (λ (kept : Kept). ArePlaces pairs kept places) (sym (ap kept_of split ∙ kept_of_identity p (drop j pairs) is)) from

    block_now : (b : Bool) (o : Option ℕ) → block_at pairs (cond b (Some i) o) ≡ cond b (Some p.1) (block_at pairs o)
    block_now true o = rw at refl
    block_now false o = refl

    within_now : (b : Bool) (o : Option ℕ) (k : ℕ) → ((n : ℕ) → o ≡ Some n → n < length pairs) → cond b (Some i) o ≡ Some k → k < length pairs
    within_now true o k others is = let same : i ≡ k = cc in subst (λ n. n < length pairs) same (slice_get_within pairs i p at)
    within_now false o k others is = others k is

    -- another
    pub placed_more : (old new : BTreeMap (List ℕ) ℕ) → is_identity p.0 ≡ false
        → ((c : List ℕ) → place_of new c ≡ cond (eq_by_cmp (slice_cmp nat_cmp) p.0 c) (Some i) (place_of old c)) → PlacedFrom j old → PlacedFrom i new
    placed_more old new is updates from = record {
      blocks = λ c.
          ap (λ (kept : Kept). map.get kept c) (ap kept_of split ∙ kept_of_stored p (drop j pairs) is)
          ∙ map.get-insert nat_list_cmp_total (kept_of (drop j pairs)) p.0 p.1 c
          ∙ ap (λ b. cond b (Some p.1) (map.get (kept_of (drop j pairs)) c)) ((eq_by_cmp_equiv nat_list_cmp_total).symm c p.0)
          ∙ ap (cond (eq_by_cmp (slice_cmp nat_cmp) p.0 c) (Some p.1)) (from.blocks c)
          ∙ sym (block_now (eq_by_cmp (slice_cmp nat_cmp) p.0 c) (place_of old c))
          ∙ ap (block_at pairs) (sym (updates c));
      within = λ c k is. within_now (eq_by_cmp (slice_cmp nat_cmp) p.0 c) (place_of old c) k (from.within c) (sym (updates c) ∙ is);
    }

-- whether a CID is an identity CID, by whether its digest was lent
lent-some : (lent : Option (Bor (List ℕ))) → is_some lent ≡ is_some (option_copied lent)
lent-some None = refl
lent-some (Some digest) = refl

some-cond : (b : Bool) (digest : List ℕ) → is_some (cond b (Some digest) None) ≡ b
some-cond true digest = refl
some-cond false digest = refl

pub identity-lent : (cid : List ℕ) (lent : Option (Bor (List ℕ))) (none : Bool) → option_copied lent ≡ identity_of cid → is_some lent ≡ not none → is_identity cid ≡ not none
unfolding identity_of is_identity
identity-lent cid lent none is says = sym (some-cond _ _) ∙ ap is_some (sym is) ∙ sym (lent-some lent) ∙ says

get-some : (pairs : List (List ℕ × List ℕ)) (i : ℕ) → i < length pairs → is_some (block_at pairs (Some i)) ≡ true
get-some [] i lt = absurd (omega arith)
get-some (p ∷ pairs) zero lt = refl
get-some (p ∷ pairs) (suc i) lt = get-some pairs i (omega arith)

some-block : (pairs : List (List ℕ × List ℕ)) (o : Option ℕ) → ((i : ℕ) → o ≡ Some i → i < length pairs) → is_some (block_at pairs o) ≡ is_some o
some-block pairs None within = refl
some-block pairs (Some i) within = get-some pairs i (within i refl)

module _ (pairs : List (List ℕ × List ℕ)) (kept : Kept) (places : BTreeMap (List ℕ) ℕ) (are : ArePlaces pairs kept places) (cid : List ℕ) where
  -- what has a place is kept
  pub placed-kept : is_some (place_of places cid) ≡ map.contains_key kept cid
  placed-kept = sym (ap is_some (are.blocks cid) ∙ some-block pairs (place_of places cid) (are.within cid))

  -- the block of a CID that is no identity CID
  pub placed-block : (i : ℕ) (p : List ℕ × List ℕ) → is_identity cid ≡ false → place_of places cid ≡ Some i → slice_get pairs i ≡ Some p → Some p.1 ≡ fetched kept cid
  placed-block i p stored is at = sym (are.blocks cid ∙ ap (block_at pairs) is ∙ ap (option_map (λ (q : List ℕ × List ℕ). q.1)) at) ∙ fetched-stored kept cid stored

  pub placed-nowhere : is_identity cid ≡ false → place_of places cid ≡ None → None ≡ fetched kept cid
  placed-nowhere stored is = sym (are.blocks cid ∙ ap (block_at pairs) is) ∙ fetched-stored kept cid stored
