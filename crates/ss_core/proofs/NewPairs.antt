-- The new pairs of a parcel, found one after another and told by their places.
use Rattle.std.proofs.Common.{◌≡◌, ◌≢◌, ℕ, zero, suc, ◌+◌, ◌≤◌, Bool, true, false, true≢false, cond, List, [], ◌∷◌, ◌++◌, length, drop, get_or, None, Some, refl, sym, ap, ◌∙◌, append_assoc, arith}
use Rattle.std.specs.Prelude.{◌==◌, ◌||◌, not, map, is_some, slice_get, if◌then◌else◌}
use Rattle.std.specs.Ordering.{nat_cmp, eq_by_cmp}
use Rattle.std.specs.Cmp.{eq_by_cmp_equiv}
use Rattle.std.specs.Cmp.Lexicographic.{slice_cmp, nat_list_cmp_total}
use Rattle.std.specs.BTreeSet.{BTreeSet, contains}
use Rattle.std.specs.FinSet as finite_set
use Rattle.std.specs.FinSet.{contains-insert}
use Rattle.std.proofs.Math.ListN.{drop_of_length-le}
use Rattle.std.proofs.lemmas.List.{map-append, length-map, append-nil, drop_more}
use Rattle.std.proofs.lemmas.Option.{slice_get_within, get_or_from_slice_get}
use Rattle.ss_cid.specs.Cid.{identity_of, hash_of, digest_of, hash_named}
use Rattle.ss_cid.specs.declared.codec.HashCode.{HashCode}
use Rattle.ss_model.specs.State.{CidSet}
use Rattle.ss_model.specs.Lawful.{is_left_out, new_pairs}
use Rattle.ss_core.specs.declared.fresh.Seen.{Seen}
use Rattle.ss_core.specs.Seen.{AreSeen, is_absent, held_in, seen_in, with_hash_code}
use Rattle.ss_core.specs.Replies.{ArePairsAt}
use Rattle.ss_core.proofs.Puts.{picked, fresh_few}

-- where as many are new as there are, all are
pub all_new : (h : CidSet) (pairs : List (List ℕ × List ℕ)) → length (new_pairs h pairs) ≡ length pairs → new_pairs h pairs ≡ pairs
all_new h [] many = refl
all_new h (p ∷ pairs) many =
    elim (is_left_out h p.0) as (λ out. length (picked h p pairs out) ≡ length (p ∷ pairs) → picked h p pairs out ≡ p ∷ pairs) [
      | true ↦ λ all. absurd (omega (arith, all, fresh_few h pairs))
      | false ↦ λ all. ap (λ rest. p ∷ rest) (all_new (finite_set.insert h p.0) pairs (omega (arith, all)))
    ] many

-- the two lists are told by the same places
pub same_pairs : (xs ys : List (List ℕ × List ℕ)) → map Some xs ≡ map Some ys → xs ≡ ys
same_pairs [] [] e = refl
same_pairs [] (y ∷ ys) e = absurd cc
same_pairs (x ∷ xs) [] e = absurd cc
same_pairs (x ∷ xs) (y ∷ ys) e =
    let rest : map Some xs ≡ map Some ys = cc in
    let first : x ≡ y = cc in
    λ i. first i ∷ same_pairs xs ys rest i

-- there are as many places as pairs
pub as_many : (pairs : List (List ℕ × List ℕ)) (places : List ℕ) (chosen : List (List ℕ × List ℕ)) → ArePairsAt pairs places chosen → length places ≡ length chosen
as_many pairs places chosen are = sym (length-map places (slice_get pairs)) ∙ ap length are ∙ length-map chosen Some

-- one place and its pair more
pub pair_more : (pairs : List (List ℕ × List ℕ)) (places : List ℕ) (chosen : List (List ℕ × List ℕ)) (i : ℕ) (p : List ℕ × List ℕ) → slice_get pairs i ≡ Some p → ArePairsAt pairs places chosen → ArePairsAt pairs (places ++ i ∷ []) (chosen ++ p ∷ [])
pair_more pairs places chosen i p at are =
    map-append (slice_get pairs) places (i ∷ []) ∙ (λ k. are k ++ at k ∷ []) ∙ sym (map-append Some chosen (p ∷ []))

-- The pairs before a place have been walked. Of these `so_far` are new, and these places tell them; after them those pairs are
-- new whose CIDs are not known, and known are those of the set and those that were met.
pub record IsWalked (hot : CidSet) (pairs : List (List ℕ × List ℕ)) (met : BTreeSet (List ℕ)) (places : List ℕ) (i : ℕ) : Type 0 where
  pub so_far : List (List ℕ × List ℕ)
  pub known : CidSet
  pub are_at : ArePairsAt pairs places so_far
  pub split : new_pairs hot pairs ≡ so_far ++ new_pairs known (drop i pairs)
  pub alike : (c : List ℕ) → finite_set.contains known c ≡ (finite_set.contains hot c || contains (slice_cmp nat_cmp) met c)

or-false : (b : Bool) → b ≡ (b || false)
or-false true = refl
or-false false = refl

-- nothing has been walked
pub none_walked : (hot : CidSet) (pairs : List (List ℕ × List ℕ)) (met : BTreeSet (List ℕ)) → met.keys ≡ [] → IsWalked hot pairs met [] 0
none_walked hot pairs met none = record {
  so_far = [];
  known = hot;
  are_at = refl;
  split = refl;
  alike = λ c. rw none (or-false (finite_set.contains hot c));
}

-- the pair at the next place, and those after it
next_pair : (pairs : List (List ℕ × List ℕ)) (i : ℕ) (p : List ℕ × List ℕ) → slice_get pairs i ≡ Some p → drop i pairs ≡ p ∷ drop (i + 1) pairs
next_pair pairs i p at = drop_more pairs i p (slice_get_within pairs i p at) ∙ ap (λ q. q ∷ drop (i + 1) pairs) (get_or_from_slice_get pairs i p p at)

-- what is new of the pairs from a place on, by whether the pair there is left out
from_here : (known : CidSet) (pairs : List (List ℕ × List ℕ)) (i : ℕ) (p : List ℕ × List ℕ) (a out : Bool) → slice_get pairs i ≡ Some p → finite_set.contains known p.0 ≡ a → (is_some (identity_of p.0) || a) ≡ out → new_pairs known (drop i pairs) ≡ picked known p (drop (i + 1) pairs) out
unfolding is_left_out
from_here known pairs i p a out at has left =
    ap (new_pairs known) (next_pair pairs i p at) ∙ ap (picked known p (drop (i + 1) pairs)) (ap (λ b. is_some (identity_of p.0) || b) has ∙ left)

-- the hash code of an identity CID, and of another
pub identity_code : (c : List ℕ) (code : HashCode) → code ≡ hash_named (hash_of c) → code ≡ HashCode.Identity → is_some (identity_of c) ≡ true
unfolding identity_of
identity_code c code named is = go (hash_of c == 0) (hash_of c == 0x12) (hash_of c == 0xb220) (sym named ∙ is)
  where
    go : (a b d : Bool) → (if a then HashCode.Identity else (if b then HashCode.Sha2x256 else if d then HashCode.Blake2b256 else HashCode.Other (hash_of c))) ≡ HashCode.Identity → is_some (if a then Some (digest_of c) else None) ≡ true
    go true b d e = refl
    go false true d e = absurd cc
    go false false true e = absurd cc
    go false false false e = absurd cc

pub other_code : (c : List ℕ) (code : HashCode) → code ≡ hash_named (hash_of c) → code ≢ HashCode.Identity → is_some (identity_of c) ≡ false
unfolding identity_of
other_code c code named not = go (hash_of c == 0) (λ e. not (named ∙ e))
  where
    go : (a : Bool) → (if a then HashCode.Identity else (if hash_of c == 0x12 then HashCode.Sha2x256 else if hash_of c == 0xb220 then HashCode.Blake2b256 else HashCode.Other (hash_of c))) ≢ HashCode.Identity → is_some (if a then Some (digest_of c) else None) ≡ false
    go true other = absurd (other refl)
    go false other = refl

or_assoc : (a b m : Bool) → (a || (b || m)) ≡ ((a || b) || m)
or_assoc true b m = refl
or_assoc false b m = refl

-- whether a pair is left out or was met, by what is noted of its CID
pub told : (hot : CidSet) (met : BTreeSet (List ℕ)) (c : List ℕ) (out said : Bool) → is_left_out hot c ≡ out → contains (slice_cmp nat_cmp) met c ≡ said
    → (is_some (identity_of c) || (finite_set.contains hot c || contains (slice_cmp nat_cmp) met c)) ≡ (out || said)
unfolding is_left_out
told hot met c out said a m = or_assoc (is_some (identity_of c)) _ _ ∙ (λ k. a k || m k)

-- what is noted of a pair
pub noted_is : {A : Type 0} (of : List ℕ → A) (pairs : List (List ℕ × List ℕ)) (noted : List A) (i : ℕ) (p : List ℕ × List ℕ) (d : A) → ((k : ℕ) (q : List ℕ × List ℕ) → slice_get pairs k ≡ Some q → slice_get noted k ≡ Some (of q.0)) → slice_get pairs i ≡ Some p → of p.0 ≡ get_or noted i d
noted_is of pairs noted i p d are at = sym (get_or_from_slice_get noted i _ d (are i p at))

-- what is seen of a CID tells whether it is left out
pub out_is : (hot : CidSet) (c : List ℕ) → is_left_out hot c ≡ not (is_absent (seen_in hot c))
unfolding is_left_out
out_is hot c = go (is_some (identity_of c)) (finite_set.contains hot c)
  where
    go : (identity kept : Bool) → (identity || kept) ≡ not (is_absent (if identity then Seen.Identity else if kept then Seen.Hot else Seen.Absent))
    go true kept = refl
    go false true = refl
    go false false = refl

-- and what was seen of the pair at a place
pub out_at : (hot : CidSet) (pairs : List (List ℕ × List ℕ)) (seen : List Seen) (i : ℕ) (p : List ℕ × List ℕ) (d : Seen) (absent : Bool) → AreSeen (seen_in hot) pairs seen → slice_get pairs i ≡ Some p → absent ≡ is_absent (get_or seen i d) → is_left_out hot p.0 ≡ not absent
out_at hot pairs seen i p d absent are at is = out_is hot p.0 ∙ ap not (ap is_absent (noted_is (seen_in hot) pairs seen i p d are at) ∙ sym is)

-- what is seen of a CID, by its hash code
pub seen_is : (hot : CidSet) (c : List ℕ) (code : HashCode) → code ≡ hash_named (hash_of c) → with_hash_code code (held_in hot c) ≡ seen_in hot c
seen_is hot c HashCode.Identity named = ap (λ b. if b then Seen.Identity else held_in hot c) (sym (identity_code c HashCode.Identity named refl))
seen_is hot c HashCode.Sha2x256 named = ap (λ b. if b then Seen.Identity else held_in hot c) (sym (other_code c HashCode.Sha2x256 named (λ e. absurd cc)))
seen_is hot c HashCode.Blake2b256 named = ap (λ b. if b then Seen.Identity else held_in hot c) (sym (other_code c HashCode.Blake2b256 named (λ e. absurd cc)))
seen_is hot c (HashCode.Other n) named = ap (λ b. if b then Seen.Identity else held_in hot c) (sym (other_code c (HashCode.Other n) named (λ e. absurd cc)))

-- what was added was not there, and what was not added was
pub was_there : (there added : Bool) → added ≡ not there → there ≡ not added
was_there true added is = ap not (sym is)
was_there false added is = ap not (sym is)

-- a pair that is left out
pub old_walked : (hot : CidSet) (pairs : List (List ℕ × List ℕ)) (met more : BTreeSet (List ℕ)) (places : List ℕ) (i : ℕ) (p : List ℕ × List ℕ)
    → slice_get pairs i ≡ Some p → (is_some (identity_of p.0) || (finite_set.contains hot p.0 || contains (slice_cmp nat_cmp) met p.0)) ≡ true
    → more.keys ≡ met.keys → IsWalked hot pairs met places i → IsWalked hot pairs more places (i + 1)
old_walked hot pairs met more places i p at old same walked = record {
  so_far = walked.so_far;
  known = walked.known;
  are_at = walked.are_at;
  split = walked.split ∙ ap (λ rest. walked.so_far ++ rest) (from_here walked.known pairs i p _ true at (walked.alike p.0) old);
  alike = λ c. rw same (walked.alike c);
}

-- one more CID is met
met_more : (same a b : Bool) → (same || (a || b)) ≡ (a || cond same true b)
met_more true true b = refl
met_more true false b = refl
met_more false a b = refl

-- a pair that is new, and whose CID is met from then on
pub new_walked : (hot : CidSet) (pairs : List (List ℕ × List ℕ)) (met more : BTreeSet (List ℕ)) (places : List ℕ) (i : ℕ) (p : List ℕ × List ℕ)
    → slice_get pairs i ≡ Some p → (is_some (identity_of p.0) || (finite_set.contains hot p.0 || contains (slice_cmp nat_cmp) met p.0)) ≡ false
    → ((c : List ℕ) → contains (slice_cmp nat_cmp) more c ≡ cond (eq_by_cmp (slice_cmp nat_cmp) p.0 c) true (contains (slice_cmp nat_cmp) met c))
    → IsWalked hot pairs met places i → IsWalked hot pairs more (places ++ i ∷ []) (i + 1)
new_walked hot pairs met more places i p at new meets walked = record {
  so_far = walked.so_far ++ p ∷ [];
  known = finite_set.insert walked.known p.0;
  are_at = pair_more pairs places walked.so_far i p at walked.are_at;
  split = walked.split ∙ ap (λ rest. walked.so_far ++ rest) (from_here walked.known pairs i p _ false at (walked.alike p.0) new) ∙ sym (append_assoc walked.so_far (p ∷ []) _);
  alike = λ c.
      contains-insert nat_list_cmp_total walked.known p.0 c
      ∙ (λ k. (eq_by_cmp_equiv nat_list_cmp_total).symm c p.0 k || walked.alike c k)
      ∙ met_more _ (finite_set.contains hot c) (contains (slice_cmp nat_cmp) met c)
      ∙ ap (λ b. finite_set.contains hot c || b) (sym (meets c));
}

-- all pairs have been walked
pub all_walked : (hot : CidSet) (pairs : List (List ℕ × List ℕ)) (met : BTreeSet (List ℕ)) (places : List ℕ) (i : ℕ) → length pairs ≤ i → IsWalked hot pairs met places i → ArePairsAt pairs places (new_pairs hot pairs)
all_walked hot pairs met places i end walked =
    walked.are_at ∙ ap (map Some) (sym (walked.split ∙ ap (λ rest. walked.so_far ++ new_pairs walked.known rest) (drop_of_length-le pairs end) ∙ append-nil walked.so_far))

-- a count that is not 0
pub not_empty : (n : ℕ) → false ≡ (n == 0) → 1 ≤ n
not_empty zero e = absurd (true≢false (sym e))
not_empty (suc n) e = omega arith
