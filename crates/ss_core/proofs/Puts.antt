-- What a put of the new blocks of a parcel does to a store of which exactly the kept blocks are hot.
use Rattle.std.proofs.Common.{◌≡◌, ◌≢◌, ℕ, suc, ◌+◌, ◌≤◌, Bool, true, false, cond, List, [], ◌∷◌, map, length, Option, Some, None, refl, sym, ap, ◌∙◌, subst, true≢false, arith}
use Rattle.std.specs.Option.{option_or, unwrap_or}
use Rattle.std.specs.Prelude.{◌==◌, ◌||◌, if◌then◌else◌, is_some, sum_by, All}
use Rattle.std.specs.Ordering.{nat_cmp, eq_by_cmp}
use Rattle.std.specs.Cmp.{Equal-is}
use Rattle.std.specs.Cmp.Lexicographic.{slice_cmp, nat_list_cmp_total}
use Rattle.std.specs.FinMap as finite_map
use Rattle.std.specs.FinMap.{get-insert, len-insert, contains_key-keys, slice_cmp-IsAntisymmetric, nat_cmp-IsAntisymmetric}
use Rattle.std.specs.FinSet as finite_set
use Rattle.std.specs.FinSet.{contains-insert, contains-from_list, same_set}
use Rattle.std.proofs.lemmas.List.Elements.{All-nil, All-cons, All-weaker}
use Rattle.std.proofs.lemmas.List.Sums.{sum_by-cons, sum_by-le-sum_by}
use Rattle.ss_cid.specs.Cid.{hash_of, digest_of, identity_of}
use Rattle.ss_records.specs.Record.{BlockFits}
use Rattle.ss_store.specs.Places.{CidMap, with_pairs}
use Rattle.ss_store.specs.declared.place.Place.{Place}
use Rattle.ss_model.specs.State.{Kept, CidSet}
use Rattle.ss_model.specs.Lawful.{written_pair, written_pairs, is_known, with_block, with_blocks, with_hot_cid, with_hot, is_left_out, new_pairs, body_bytes, put_bytes, written_bytes, pair_bytes, AreSound}
use Rattle.ss_model.proofs.Kept.{known_is}
use Rattle.ss_core.specs.Replies.{cids_of}

-- exactly the kept blocks are hot
abbrev pub AreAlike : Kept → CidSet → Type 0
AreAlike kept hot = (c : List ℕ) → finite_set.contains hot c ≡ is_some (finite_map.get kept c)

-- two sets with the same CIDs leave the same pairs
pub new_pairs_alike : (h k : CidSet) (pairs : List (List ℕ × List ℕ)) → ((c : List ℕ) → finite_set.contains h c ≡ finite_set.contains k c) → new_pairs h pairs ≡ new_pairs k pairs
new_pairs_alike h k pairs alike = ap (λ s. new_pairs s pairs) (same_set nat_list_cmp_total (slice_cmp-IsAntisymmetric nat_cmp-IsAntisymmetric) h k alike)

-- a CID is among those of a map just where the map has something under it
pub cids_known : (places : CidMap Place) (c : List ℕ) → finite_set.contains (cids_of places) c ≡ is_some (finite_map.get places c)
cids_known places c = contains-from_list nat_list_cmp_total (finite_map.keys places) c ∙ sym (contains_key-keys places c)

-- what is new of a pair and those after it, by whether the pair is left out
abbrev pub picked : CidSet → List ℕ × List ℕ → List (List ℕ × List ℕ) → Bool → List (List ℕ × List ℕ)
picked h p pairs out = cond out (new_pairs h pairs) (p ∷ new_pairs (finite_set.insert h p.0) pairs)

-- a pair is left out just where its CID stands for a block
left_out : (kept : Kept) (hot : CidSet) (c : List ℕ) → AreAlike kept hot → is_left_out hot c ≡ is_known kept c
unfolding is_left_out
left_out kept hot c alike = go (identity_of c) ∙ sym (known_is kept c)
  where
    go : (id : Option (List ℕ)) → (is_some id || finite_set.contains hot c) ≡ is_some (option_or id (finite_map.get kept c))
    go (Some d) = refl
    go None = alike c

-- a block that joins the kept ones is hot from then on
both_insert : (kept : Kept) (hot : CidSet) (p : List ℕ × List ℕ) → AreAlike kept hot → AreAlike (finite_map.insert kept p.0 p.1) (finite_set.insert hot p.0)
both_insert kept hot p alike c = contains-insert nat_list_cmp_total hot p.0 c ∙ go (eq_by_cmp (slice_cmp nat_cmp) c p.0) ∙ ap is_some (sym (get-insert nat_list_cmp_total kept p.0 p.1 c))
  where
    go : (same : Bool) → (same || finite_set.contains hot c) ≡ is_some (cond same (Some p.1) (finite_map.get kept c))
    go true = refl
    go false = alike c

-- to join the new blocks is to join all: those that are left out change nothing
pub kept_more : (kept : Kept) (hot : CidSet) (pairs : List (List ℕ × List ℕ)) → AreAlike kept hot → with_pairs kept (new_pairs hot pairs) ≡ with_blocks kept pairs
unfolding with_block
kept_more kept hot [] alike = refl
kept_more kept hot (p ∷ pairs) alike =
    ap (λ out. with_pairs kept (picked hot p pairs out)) (left_out kept hot p.0 alike)
    ∙ elim (is_known kept p.0) as (λ out. with_pairs kept (picked hot p pairs out) ≡ with_blocks (cond out kept (finite_map.insert kept p.0 p.1)) pairs) [
      | true ↦ kept_more kept hot pairs alike
      | false ↦ kept_more (finite_map.insert kept p.0 p.1) (finite_set.insert hot p.0) pairs (both_insert kept hot p alike)
    ]

-- a block joins, and exactly the kept blocks are hot still
block_more : (kept : Kept) (hot : CidSet) (p : List ℕ × List ℕ) → AreAlike kept hot → AreAlike (with_block kept p) (with_hot_cid hot p.0)
unfolding with_block with_hot_cid
block_more kept hot p alike =
    subst (λ known. AreAlike (cond known kept (finite_map.insert kept p.0 p.1)) (cond (is_some (identity_of p.0)) hot (finite_set.insert hot p.0))) (sym (known_is kept p.0)) (by_identity (identity_of p.0))
  where
    again : (c : List ℕ) (same : Bool) → eq_by_cmp (slice_cmp nat_cmp) c p.0 ≡ same → is_some (finite_map.get kept p.0) ≡ true → (same || finite_set.contains hot c) ≡ is_some (finite_map.get kept c)
    again c true e known = sym (subst (λ k. is_some (finite_map.get kept k) ≡ true) (sym (slice_cmp-IsAntisymmetric nat_cmp-IsAntisymmetric c p.0 ((Equal-is (slice_cmp nat_cmp c p.0)).0 e))) known)
    again c false e known = alike c

    by_known : (known : Bool) → is_some (finite_map.get kept p.0) ≡ known → AreAlike (cond known kept (finite_map.insert kept p.0 p.1)) (finite_set.insert hot p.0)
    by_known true e = λ c. contains-insert nat_list_cmp_total hot p.0 c ∙ again c _ refl e
    by_known false e = both_insert kept hot p alike

    by_identity : (id : Option (List ℕ)) → AreAlike (cond (is_some (option_or id (finite_map.get kept p.0))) kept (finite_map.insert kept p.0 p.1)) (cond (is_some id) hot (finite_set.insert hot p.0))
    by_identity (Some d) = alike
    by_identity None = by_known (is_some (finite_map.get kept p.0)) refl

-- a parcel joins, and exactly the kept blocks are hot still
pub hot_more : (kept : Kept) (hot : CidSet) (pairs : List (List ℕ × List ℕ)) → AreAlike kept hot → (c : List ℕ) → finite_set.contains (with_hot hot pairs) c ≡ is_some (finite_map.get (with_blocks kept pairs) c)
hot_more kept hot [] alike = alike
hot_more kept hot (p ∷ pairs) alike = hot_more (with_block kept p) (with_hot_cid hot p.0) pairs (block_more kept hot p alike)

-- where nothing is fetched nothing is kept
none_kept : (id kept : Option (List ℕ)) → is_some (option_or id kept) ≡ false → is_some kept ≡ false
none_kept (Some d) kept e = absurd (true≢false e)
none_kept None kept e = e

-- a block under a CID that none is kept under is one more
one_more : (kept : Kept) (p : List ℕ × List ℕ) → is_known kept p.0 ≡ false → finite_map.len (finite_map.insert kept p.0 p.1) ≡ finite_map.len kept + 1
one_more kept p new =
    len-insert nat_list_cmp_total kept p.0 p.1 ∙ ap (λ b. cond b (finite_map.len kept) (finite_map.len kept + 1)) (none_kept (identity_of p.0) (finite_map.get kept p.0) (sym (known_is kept p.0) ∙ new))

-- as many CIDs more are kept as blocks are new
pub rows_more : (kept : Kept) (hot : CidSet) (pairs : List (List ℕ × List ℕ)) → AreAlike kept hot → finite_map.len (with_blocks kept pairs) ≡ finite_map.len kept + length (new_pairs hot pairs)
unfolding with_block
rows_more kept hot [] alike = omega arith
rows_more kept hot (p ∷ pairs) alike =
    elim (is_known kept p.0) as (λ out. is_known kept p.0 ≡ out → finite_map.len (with_blocks (cond out kept (finite_map.insert kept p.0 p.1)) pairs) ≡ finite_map.len kept + length (picked hot p pairs out)) [
      | true ↦ λ known. rows_more kept hot pairs alike
      | false ↦ λ new. omega (arith, one_more kept p new, rows_more (finite_map.insert kept p.0 p.1) (finite_set.insert hot p.0) pairs (both_insert kept hot p alike))
    ] refl
    ∙ ap (λ out. finite_map.len kept + length (picked hot p pairs out)) (sym (left_out kept hot p.0 alike))

-- a CID that is not left out is no identity CID
stored : (h : CidSet) (c : List ℕ) → is_left_out h c ≡ false → hash_of c ≢ 0
unfolding is_left_out identity_of
stored h c new zero = true≢false (sym (ap (λ n. is_some (if n == 0 then Some (digest_of c) else None) || finite_set.contains h c) zero) ∙ new)

-- the new blocks of a parcel that may be stored fit a record
pub fresh_fit : (h : CidSet) (pairs : List (List ℕ × List ℕ)) → AreSound pairs → All BlockFits (new_pairs h pairs)
fresh_fit h [] sound = All-nil BlockFits
fresh_fit h (p ∷ pairs) sound =
    let rest : AreSound pairs = λ k q within at. sound (suc k) q (omega arith) at in
    elim (is_left_out h p.0) as (λ out. is_left_out h p.0 ≡ out → All BlockFits (picked h p pairs out)) [
      | true ↦ λ known. fresh_fit h pairs rest
      | false ↦ λ new. All-cons BlockFits p _ (stored h p.0 new, (sound 0 p (omega arith) refl).small) (fresh_fit (finite_set.insert h p.0) pairs rest)
    ] refl

-- no more blocks are new than there are
pub fresh_few : (h : CidSet) (pairs : List (List ℕ × List ℕ)) → length (new_pairs h pairs) ≤ length pairs
fresh_few h [] = omega arith
fresh_few h (p ∷ pairs) =
    elim (is_left_out h p.0) as (λ out. length (picked h p pairs out) ≤ length (p ∷ pairs)) [
      | true ↦ omega (arith, fresh_few h pairs)
      | false ↦ omega (arith, fresh_few (finite_set.insert h p.0) pairs)
    ]

-- the new pairs take no more bytes than all
short_sum : (h : CidSet) (pairs : List (List ℕ × List ℕ)) → sum_by written_bytes (new_pairs h pairs) ≤ sum_by written_bytes pairs
short_sum h [] = omega arith
short_sum h (p ∷ pairs) =
    elim (is_left_out h p.0) as (λ out. sum_by written_bytes (picked h p pairs out) ≤ sum_by written_bytes (p ∷ pairs)) [
      | true ↦ omega (arith, sum_by-cons written_bytes p pairs, short_sum h pairs)
      | false ↦ omega (arith, sum_by-cons written_bytes p pairs, sum_by-cons written_bytes p (new_pairs (finite_set.insert h p.0) pairs), short_sum (finite_set.insert h p.0) pairs)
    ]

-- the record of the new pairs is no longer than that of all
pub fresh_short : (h : CidSet) (pairs : List (List ℕ × List ℕ)) → body_bytes (new_pairs h pairs) ≤ body_bytes pairs
fresh_short h pairs = omega (arith, short_sum h pairs)

-- a CID that is not among more is not among fewer
not_before : (same there : Bool) → (same || there) ≡ false → there ≡ false
not_before true there e = absurd (true≢false e)
not_before false there e = e

-- the pair's CID is not in the set
abbrev IsAbsent : CidSet → List ℕ × List ℕ → Type 0
IsAbsent h p = finite_set.contains h p.0 ≡ false

-- no new pair's CID is in the set
absent : (h : CidSet) (pairs : List (List ℕ × List ℕ)) → All (IsAbsent h) (new_pairs h pairs)
unfolding is_left_out
absent h [] = All-nil (IsAbsent h)
absent h (p ∷ pairs) =
    let before : (q : List ℕ × List ℕ) → finite_set.contains (finite_set.insert h p.0) q.0 ≡ false → finite_set.contains h q.0 ≡ false =
    λ q e. not_before (eq_by_cmp (slice_cmp nat_cmp) q.0 p.0) (finite_set.contains h q.0) (sym (contains-insert nat_list_cmp_total h p.0 q.0) ∙ e) in
    elim (is_some (identity_of p.0) || finite_set.contains h p.0) as (λ out. (is_some (identity_of p.0) || finite_set.contains h p.0) ≡ out → All (IsAbsent h) (picked h p pairs out)) [
      | true ↦ λ known. absent h pairs
      | false ↦ λ new. All-cons (IsAbsent h) p _ (not_before (is_some (identity_of p.0)) (finite_set.contains h p.0) new) (All-weaker (IsAbsent (finite_set.insert h p.0)) (IsAbsent h) before _ (absent (finite_set.insert h p.0) pairs))
    ] refl

-- what is not some is none
no_place : (found : Option Place) → is_some found ≡ false → found ≡ None
no_place None e = refl
no_place (Some x) e = absurd (true≢false e)

-- none of the new blocks is held
pub fresh_absent : (places : CidMap Place) (pairs : List (List ℕ × List ℕ)) → All (λ p. finite_map.get places p.0 ≡ None) (new_pairs (cids_of places) pairs)
fresh_absent places pairs =
    All-weaker (IsAbsent (cids_of places)) (λ p. finite_map.get places p.0 ≡ None) (λ p e. no_place (finite_map.get places p.0) (sym (cids_known places p.0) ∙ e)) _ (absent (cids_of places) pairs)

-- a put takes at least the bytes of the record of all its pairs
pub least_bytes : (kept : Kept) (pairs : List (List ℕ × List ℕ)) → body_bytes pairs ≤ put_bytes kept pairs
least_bytes kept pairs = omega (arith, sum_by-le-sum_by written_bytes (pair_bytes kept) pairs (λ p. omega arith))

-- of the new blocks all are new
pub new_again : (h : CidSet) (pairs : List (List ℕ × List ℕ)) → new_pairs h (new_pairs h pairs) ≡ new_pairs h pairs
new_again h [] = refl
new_again h (p ∷ pairs) =
    elim (is_left_out h p.0) as (λ out. is_left_out h p.0 ≡ out → new_pairs h (picked h p pairs out) ≡ picked h p pairs out) [
      | true ↦ λ known. new_again h pairs
      | false ↦ λ new. ap (λ out. picked h p (new_pairs (finite_set.insert h p.0) pairs) out) new ∙ ap (λ rest. p ∷ rest) (new_again (finite_set.insert h p.0) pairs)
    ] refl

-- what no CID has kept
nothing_kept : {X : Type 0} (found : Option X) → is_some found ≡ false → found ≡ None
nothing_kept None e = refl
nothing_kept (Some x) e = absurd (true≢false e)

-- where what is not hot is not kept a record has the new pairs as they are
same_pairs : (kept : Kept) (hot : CidSet) (pairs : List (List ℕ × List ℕ)) → ((c : List ℕ) → finite_set.contains hot c ≡ false → finite_map.get kept c ≡ None) → map (written_pair kept) (new_pairs hot pairs) ≡ new_pairs hot pairs
unfolding is_left_out
same_pairs kept hot [] absent = refl
same_pairs kept hot (p ∷ pairs) absent =
    let later : (c : List ℕ) → finite_set.contains (finite_set.insert hot p.0) c ≡ false → finite_map.get kept c ≡ None =
    λ c e. absent c (not_before (eq_by_cmp (slice_cmp nat_cmp) c p.0) (finite_set.contains hot c) (sym (contains-insert nat_list_cmp_total hot p.0 c) ∙ e)) in
    elim (is_some (identity_of p.0) || finite_set.contains hot p.0) as (λ out. (is_some (identity_of p.0) || finite_set.contains hot p.0) ≡ out → map (written_pair kept) (picked hot p pairs out) ≡ picked hot p pairs out) [
      | true ↦ λ known. same_pairs kept hot pairs absent
      | false ↦ λ new.
          ap (λ found. (p.0, unwrap_or found p.1) ∷ map (written_pair kept) (new_pairs (finite_set.insert hot p.0) pairs)) (absent p.0 (not_before (is_some (identity_of p.0)) (finite_set.contains hot p.0) new))
          ∙ ap (λ rest. p ∷ rest) (same_pairs kept (finite_set.insert hot p.0) pairs later)
    ] refl

pub written_are : (kept : Kept) (hot : CidSet) (pairs : List (List ℕ × List ℕ)) → AreAlike kept hot → written_pairs kept hot pairs ≡ new_pairs hot pairs
written_are kept hot pairs alike = same_pairs kept hot pairs (λ c out. nothing_kept (finite_map.get kept c) (sym (alike c) ∙ out))
