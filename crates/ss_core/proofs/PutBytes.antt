-- The bytes of a put and of its record, one pair further.
use Rattle.std.proofs.Common.{◌≡◌, ℕ, ◌+◌, ◌<◌, ◌≤◌, ◌≢◌, inl, inr, List, length, Option, None, Some, take, min, set, get_or, sym, ap, ◌∙◌, subst, arith}
use Rattle.std.specs.Prelude.{sum_by, slice_get, option_map, is_some, if◌then◌else◌}
use Rattle.std.specs.FinMap as finite_map
use Rattle.std.specs.Option.{unwrap_or}
use Rattle.std.proofs.lemmas.List.Sums.{sum_by_more, sum_by-take-le}
use Rattle.std.proofs.lemmas.Bool.{cases_lt}
use Rattle.std.proofs.lemmas.Grind.{get_or-set_at}
use Rattle.std.proofs.lemmas.List.{length-set, get_or-set_other}
use Rattle.std.proofs.lemmas.List.Elements.{All-get_or}
use Rattle.std.proofs.lemmas.Option.{slice_get_within, slice_get-get_or, get_or_from_slice_get}
use Rattle.ss_device.specs.declared.disk.Disk.{Ghosts}
use Rattle.ss_store.specs.declared.place.Place.{Place}
use Rattle.ss_store.specs.Places.{CidMap}
use Rattle.ss_hot.specs.Store.{Hot, AreNotHot}
use Rattle.ss_model.specs.State.{Kept}
use Rattle.ss_model.specs.Lawful.{pair_bytes, put_bytes, written_bytes, body_bytes, length_of}
use Rattle.ss_core.specs.declared.split_core.SplitCore.{SplitCore}
use Rattle.ss_core.specs.declared.fresh.Seen.{Seen}
use Rattle.ss_core.specs.Seen.{by_len, held_in}
use Rattle.ss_core.specs.Replies.{cids_of, held_bytes, held_put_bytes}
use Rattle.ss_core.proofs.Puts.{cids_known}

-- a sum over the pairs before a place, one pair further
sum_next : (f : List ℕ × List ℕ → ℕ) (pairs : List (List ℕ × List ℕ)) (i : ℕ) (p : List ℕ × List ℕ) → slice_get pairs i ≡ Some p → sum_by f (take (i + 1) pairs) ≡ sum_by f (take i pairs) + f p
sum_next f pairs i p at = sum_by_more f pairs i p (slice_get_within pairs i p at) ∙ ap (λ q. sum_by f (take i pairs) + f q) (get_or_from_slice_get pairs i p p at)

-- the bytes of a put
pub bytes_more : (kept : Kept) (pairs : List (List ℕ × List ℕ)) (i : ℕ) (p : List ℕ × List ℕ) (bytes one more top : ℕ) → slice_get pairs i ≡ Some p → bytes ≡ min (put_bytes kept (take i pairs)) top → one ≡ pair_bytes kept p → more ≡ min (bytes + one) top → more ≡ min (put_bytes kept (take (i + 1) pairs)) top
bytes_more kept pairs i p bytes one more top at before here is = omega (arith, sum_next (pair_bytes kept) pairs i p at, here, before, is)

-- by the places of the blocks that are kept
pub held_more : {D : Type 0} {disk : Ghosts D} (core : SplitCore D disk) (pairs : List (List ℕ × List ℕ)) (i : ℕ) (p : List ℕ × List ℕ) (bytes one more top : ℕ) → slice_get pairs i ≡ Some p → bytes ≡ min (held_put_bytes core (take i pairs)) top → one ≡ held_bytes core p → more ≡ min (bytes + one) top → more ≡ min (held_put_bytes core (take (i + 1) pairs)) top
held_more core pairs i p bytes one more top at before here is = omega (arith, sum_next (held_bytes core) pairs i p at, here, before, is)

-- the bytes of a put are at least those of a record of its pairs
pub least_more : (pairs : List (List ℕ × List ℕ)) (i : ℕ) (p : List ℕ × List ℕ) (bytes one more top : ℕ) → slice_get pairs i ≡ Some p → min (body_bytes (take i pairs)) top ≤ bytes → written_bytes p ≤ one → more ≡ min (bytes + one) top → min (body_bytes (take (i + 1) pairs)) top ≤ more
least_more pairs i p bytes one more top at before here is = omega (arith, sum_next written_bytes pairs i p at, here, before, is)

-- the bytes of a put of which nothing is kept are those of a record of its pairs
pub own_more : (pairs : List (List ℕ × List ℕ)) (i : ℕ) (p : List ℕ × List ℕ) (bytes one more top : ℕ) → slice_get pairs i ≡ Some p → bytes ≡ min (body_bytes (take i pairs)) top → one ≡ written_bytes p → more ≡ min (bytes + one) top → more ≡ min (body_bytes (take (i + 1) pairs)) top
own_more pairs i p bytes one more top at before here is = omega (arith, sum_next written_bytes pairs i p at, here, before, is)

-- the bytes of a record
pub body_more : (pairs : List (List ℕ × List ℕ)) (i : ℕ) (p : List ℕ × List ℕ) (bytes : ℕ) → slice_get pairs i ≡ Some p → bytes ≡ body_bytes (take i pairs) → bytes + written_bytes p ≡ body_bytes (take (i + 1) pairs)
body_more pairs i p bytes at before = omega (arith, sum_next written_bytes pairs i p at, before)

-- are no more than those of a record of all pairs
pub body_within : (pairs : List (List ℕ × List ℕ)) (i : ℕ) (p : List ℕ × List ℕ) (bytes : ℕ) → slice_get pairs i ≡ Some p → bytes ≡ body_bytes (take i pairs) → bytes + written_bytes p ≤ body_bytes pairs
body_within pairs i p bytes at before = omega (arith, body_more pairs i p bytes at before, sum_by-take-le written_bytes pairs (i + 1))

-- the bytes that are kept under a CID, by their number where they are kept
pub kept_is : (found : Option (List ℕ)) (told : Option ℕ) (n : ℕ) → told ≡ option_map (λ block. length block) found → n ≡ unwrap_or told 0 → n ≡ length_of found
kept_is None told n is n_is = n_is ∙ ap (λ o. unwrap_or o 0) is
kept_is (Some block) told n is n_is = n_is ∙ ap (λ o. unwrap_or o 0) is

-- of a pair that is not hot none
pub none_is : (hot : Hot) (pairs : List (List ℕ × List ℕ)) (i : ℕ) (p : List ℕ × List ℕ) (told : Option ℕ) (n : ℕ) → AreNotHot hot pairs → slice_get pairs i ≡ Some p → told ≡ option_map (λ place. place.len) (finite_map.get hot.places p.0) → n ≡ unwrap_or told 0 → n ≡ 0
none_is hot pairs i p told n none at is n_is =
    let absent : finite_map.get hot.places p.0 ≡ None = subst (λ q. finite_map.get hot.places q.0 ≡ None) (get_or_from_slice_get pairs i p p at) (All-get_or (λ q. finite_map.get hot.places q.0 ≡ None) pairs i p (slice_get_within pairs i p at) none) in
    n_is ∙ ap (λ o. unwrap_or o 0) (is ∙ ap (option_map (λ (place : Place). place.len)) absent)

-- what holds of the pairs before a place, one pair further
pub each_more : (holds : List ℕ × List ℕ → Type 0) (pairs : List (List ℕ × List ℕ)) (i : ℕ) (p : List ℕ × List ℕ) → slice_get pairs i ≡ Some p → holds p
    → ((k : ℕ) (q : List ℕ × List ℕ) → k < i → slice_get pairs k ≡ Some q → holds q)
    → (k : ℕ) (q : List ℕ × List ℕ) → k < i + 1 → slice_get pairs k ≡ Some q → holds q
each_more holds pairs i p here is before k q within at = elim (cases_lt k i) [
  | inl less ↦ before k q less at
  | inr more ↦
      let same : k ≡ i = omega (arith, more, within) in
      subst holds (sym (get_or_from_slice_get pairs i p p here) ∙ ap (λ n. get_or pairs n p) (sym same) ∙ get_or_from_slice_get pairs k q p at) is
]

-- the other elements of a list of which one was set
pub at_other : {A : Type 0} (xs : List A) (i k : ℕ) (x y : A) → k ≢ i → slice_get xs k ≡ Some y → slice_get (set xs i x) k ≡ Some y
at_other xs i k x y other at =
    slice_get-get_or (set xs i x) k x (subst (λ n. k < n) (sym (length-set xs i x)) (slice_get_within xs k y at)) ∙ ap Some (get_or-set_other xs i k x x other ∙ get_or_from_slice_get xs k y x at)

-- one pair more is noted
pub noted_more : {A : Type 0} (of : List ℕ → A) (pairs : List (List ℕ × List ℕ)) (noted : List A) (i : ℕ) (p : List ℕ × List ℕ) (a : A) → slice_get pairs i ≡ Some p → i < length noted → a ≡ of p.0
    → ((k : ℕ) (q : List ℕ × List ℕ) → k < i → slice_get pairs k ≡ Some q → slice_get noted k ≡ Some (of q.0))
    → (k : ℕ) (q : List ℕ × List ℕ) → k < i + 1 → slice_get pairs k ≡ Some q → slice_get (set noted i a) k ≡ Some (of q.0)
noted_more of pairs noted i p a here room is before k q within at = elim (cases_lt k i) [
  | inl less ↦ at_other noted i k a (of q.0) (λ e. omega (arith, e, less)) (before k q less at)
  | inr more ↦
      let same : k ≡ i = omega (arith, more, within) in
      let pair : p ≡ q = sym (get_or_from_slice_get pairs i p p here) ∙ ap (λ n. get_or pairs n p) (sym same) ∙ get_or_from_slice_get pairs k q p at in
      slice_get-get_or (set noted i a) k a (subst (λ n. k < n) (sym (length-set noted i a)) (omega (arith, same, room))) ∙ ap Some (get_or-set_at noted i k a a same room ∙ is ∙ ap (λ (r : List ℕ × List ℕ). of r.0) pair)
]

-- what is noted at a place
pub noted_at : {A : Type 0} (of : List ℕ → A) (noted : List A) (i : ℕ) (c : List ℕ) (d : A) → slice_get noted i ≡ Some (of c) → get_or noted i d ≡ of c
noted_at of noted i c d at = get_or_from_slice_get noted i (of c) d at

-- what a look-up tells, by the place that is held
pub seen_is : (places : CidMap Place) (c : List ℕ) (told : Option ℕ) → told ≡ option_map (λ place. place.len) (finite_map.get places c) → by_len told ≡ held_in (cids_of places) c
seen_is places c told is = go (finite_map.get places c) told is ∙ ap (λ b. if b then Seen.Hot else Seen.Absent) (sym (cids_known places c))
  where
    go : (found : Option Place) (told : Option ℕ) → told ≡ option_map (λ place. place.len) found → by_len told ≡ (if is_some found then Seen.Hot else Seen.Absent)
    go None told is = ap by_len is
    go (Some place) told is = ap by_len is
