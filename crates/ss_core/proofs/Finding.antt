-- Where the blocks of a head are found, and that they are found there again once a log was settled.
use Rattle.std.proofs.Common.{◌≡◌, inl, inr, ℕ, ◌+◌, ◌<◌, Bool, true, false, List, [], length, Option, Some, None, set, get_or, refl, sym, ap, subst, ◌∙◌, true≢false, arith}
use Rattle.std.specs.Prelude.{is_some, option_map, slice_get, unwrap_or, if◌then◌else◌, Result, Ok, Err, IfOk}
use Rattle.std.specs.Option.{option_or}
use Rattle.std.specs.FinMap as finite_map
use Rattle.std.proofs.lemmas.Bool.{cases_lt}
use Rattle.std.proofs.lemmas.Grind.{get_or-set_at}
use Rattle.std.proofs.lemmas.List.{length-set}
use Rattle.std.proofs.lemmas.Option.{slice_get-get_or, get_or_from_slice_get}
use Rattle.ss_cid.specs.Cid.{identity_of}
use Rattle.ss_chain.specs.Fetch.{fetched}
use Rattle.ss_model.specs.State.{Kept}
use Rattle.ss_model.proofs.Kept.{fetched_is as fetched_by}
use Rattle.ss_store.specs.declared.place.Place.{Place}
use Rattle.ss_hot.specs.Store.{Hot, SameButDoubt, LiesIn}
use Rattle.ss_core.specs.declared.found.Found.{Found}
use Rattle.ss_core.specs.Found.{AreFound, IsFound}
use Rattle.ss_core.proofs.PutBytes.{at_other}

-- in the CID itself
pub in_cid : (hot : Hot) (c : List ℕ) → is_some (identity_of c) ≡ true → IsFound hot c Found.InCid
in_cid hot c own = record { at = ap (λ b. if b then Some Found.InCid else option_map Found.At (finite_map.get hot.places c)) own; within = tt }

-- at the place that is held
pub at_place : (hot : Hot) (c : List ℕ) (place : Place) → is_some (identity_of c) ≡ false → finite_map.get hot.places c ≡ Some place → LiesIn hot.log place → IsFound hot c (Found.At place)
at_place hot c place own held within = record {
  at = ap (λ b. if b then Some Found.InCid else option_map Found.At (finite_map.get hot.places c)) own ∙ ap (option_map Found.At) held;
  within = within;
}

-- what was found in the CID is an identity CID, and what was found at a place is held there and is none
pub is_own : (hot : Hot) (c : List ℕ) → IsFound hot c Found.InCid → is_some (identity_of c) ≡ true
is_own hot c found = go (is_some (identity_of c)) (finite_map.get hot.places c) found.at
  where
    go : (own : Bool) (held : Option Place) → (if own then Some Found.InCid else option_map Found.At held) ≡ Some Found.InCid → own ≡ true
    go true held e = refl
    go false None e = absurd cc
    go false (Some p) e = absurd cc

pub is_held : (hot : Hot) (c : List ℕ) (place : Place) → IsFound hot c (Found.At place) → (is_some (identity_of c) ≡ false) × (finite_map.get hot.places c ≡ Some place)
is_held hot c place found = go (is_some (identity_of c)) (finite_map.get hot.places c) found.at
  where
    go : (own : Bool) (held : Option Place) → (if own then Some Found.InCid else option_map Found.At held) ≡ Some (Found.At place) → (own ≡ false) × (held ≡ Some place)
    go true held e = absurd cc
    go false None e = absurd cc
    go false (Some p) e = (refl, cc)

-- a store whose log was settled finds them there too
pub found_settled : (old new : Hot) (cids : List (List ℕ)) (found : List Found) → SameButDoubt old new → AreFound old cids found → AreFound new cids found
found_settled old new cids found same are = subst (λ (h : Hot). AreFound h cids found) (sym same) (λ k c at. let was = are k c at in (was.0, was.1, settled c was.0 was.2))
  where
    settled : (c : List ℕ) (f : Found) → IsFound old c f → IsFound (record old { log = record old.log { unsure = new.log.unsure } }) c f
    settled c Found.InCid is = record { at = is.at; within = tt }
    settled c (Found.At place) is = record { at = is.at; within = is.within }

-- one block more is found
pub found_more : (hot : Hot) (cids : List (List ℕ)) (found : List Found) (i : ℕ) (c : List ℕ) (f : Found) → slice_get cids i ≡ Some c → i < length found → IsFound hot c f
    → ((k : ℕ) (d : List ℕ) → k < i → slice_get cids k ≡ Some d → (was : Found) × (slice_get found k ≡ Some was) × IsFound hot d was)
    → (k : ℕ) (d : List ℕ) → k < i + 1 → slice_get cids k ≡ Some d → (is : Found) × (slice_get (set found i f) k ≡ Some is) × IsFound hot d is
found_more hot cids found i c f here room is before k d within at = elim (cases_lt k i) [
  | inl less ↦
      let was = before k d less at in
      (was.0, at_other found i k f was.0 (λ e. omega (arith, e, less)) was.1, was.2)
  | inr more ↦
      let same : k ≡ i = omega (arith, more, within) in
      let cid : c ≡ d = sym (get_or_from_slice_get cids i c c here) ∙ ap (λ n. get_or cids n c) (sym same) ∙ get_or_from_slice_get cids k d c at in
      (f, slice_get-get_or (set found i f) k f (subst (λ n. k < n) (sym (length-set found i f)) (omega (arith, same, room))) ∙ ap Some (get_or-set_at found i k f f same room), subst (λ e. IsFound hot e f) cid is)
]

-- where the block of one of them is found
pub found_at : (hot : Hot) (cids : List (List ℕ)) (found : List Found) (i : ℕ) (c : List ℕ) (d : Found) → AreFound hot cids found → slice_get cids i ≡ Some c → IsFound hot c (get_or found i d)
found_at hot cids found i c d are at = let is = are i c at in subst (λ f. IsFound hot c f) (sym (get_or_from_slice_get found i is.0 d is.1)) is.2

-- the block of an identity CID
pub own_bytes : {E : Type 0} (kept : Kept) (c : List ℕ) (copy : Result (List ℕ) E) → IfOk copy (λ block. Some block ≡ identity_of c) → IfOk copy (λ block. block ≡ unwrap_or (fetched kept c) [])
own_bytes kept c (Ok block) is = ap (λ f. unwrap_or f []) (sym (fetched_by kept c ∙ ap (λ i. option_or i (finite_map.get kept c)) (sym is)))
own_bytes kept c (Err e) is = tt

-- what is no identity CID
pub not_own : (c : List ℕ) → is_some (identity_of c) ≡ false → None ≡ identity_of c
not_own c none = go (identity_of c) none
  where
    go : (own : Option (List ℕ)) → is_some own ≡ false → None ≡ own
    go None e = refl
    go (Some d) e = absurd (true≢false e)
