-- What is kept stays, is valid, is under no identity CID, is hot, and fits its table.
use Rattle.std.proofs.Common.{◌≡◌, ◌≢◌, ◌⊎◌, ⊎_elim, inl, inr, ℕ, zero, suc, Bool, true, false, cond, List, [], ◌∷◌, Option, Some, None, refl, sym, ap, ◌∙◌, subst, true≢false, arith}
use Rattle.std.specs.Option.{option_or}
use Rattle.std.specs.Prelude.{◌==◌, ◌||◌, is_some, slice_get}
use Rattle.std.specs.Ordering.{nat_cmp, eq_by_cmp}
use Rattle.std.specs.Cmp.{Equal-is, tied_itself}
use Rattle.std.specs.Cmp.Lexicographic.{slice_cmp, nat_list_cmp_total}
use Rattle.std.specs.FinMap as map
use Rattle.std.specs.FinMap.{get-insert, get-empty, slice_cmp-IsAntisymmetric, nat_cmp-IsAntisymmetric}
use Rattle.std.specs.FinSet as set
use Rattle.std.specs.FinSet.{contains-insert}
use Rattle.ss_cid.specs.Cid.{hash_of, digest_of, identity_of}
use Rattle.ss_chain.specs.Fetch.{is_identity, fetched}
use Rattle.ss_hash.specs.Digest.{IsValid}
use Rattle.ss_model.specs.State.{Kept, CidSet, State}
use Rattle.ss_model.specs.Lawful.{is_known, with_block, with_blocks, with_hot_cid, with_hot, AreSound, LawfulGet, after_put, After}
use Rattle.ss_model.specs.Lawful.{AfterAll}
use Rattle.ss_model.specs.declared.call.PutReply.TheVariants as put
use Rattle.ss_model.specs.declared.call.GetReply.{GetReply}
use Rattle.ss_model.specs.declared.call.GetReply.TheVariants as get
use Rattle.ss_model.specs.declared.call.Entry.{Entry}
use Rattle.ss_model.proofs.Each.{after_each}

-- what an insert leaves at a CID: the new block there, and elsewhere what was
inserted : (kept : Kept) (k v c : List ℕ) → ((c ≡ k) × (map.get (map.insert kept k v) c ≡ Some v)) ⊎ (map.get (map.insert kept k v) c ≡ map.get kept c)
inserted kept k v c = go (eq_by_cmp (slice_cmp nat_cmp) c k) refl
  where
    go : (b : Bool) → eq_by_cmp (slice_cmp nat_cmp) c k ≡ b → ((c ≡ k) × (map.get (map.insert kept k v) c ≡ Some v)) ⊎ (map.get (map.insert kept k v) c ≡ map.get kept c)
    go true e = inl (slice_cmp-IsAntisymmetric nat_cmp-IsAntisymmetric c k ((Equal-is (slice_cmp nat_cmp c k)).0 e), get-insert nat_list_cmp_total kept k v c ∙ ap (λ b. cond b (Some v) (map.get kept c)) e)
    go false e = inr (get-insert nat_list_cmp_total kept k v c ∙ ap (λ b. cond b (Some v) (map.get kept c)) e)

-- an identity CID stands for its digest, and another for what is kept under it
pub fetched_is : (kept : Kept) (c : List ℕ) → fetched kept c ≡ option_or (identity_of c) (map.get kept c)
unfolding fetched is_identity identity_of
fetched_is kept c = go (hash_of c == 0)
  where
    go : (b : Bool) → cond b (Some (digest_of c)) (map.get kept c) ≡ option_or (cond b (Some (digest_of c)) None) (map.get kept c)
    go true = refl
    go false = refl

pub known_is : (kept : Kept) (c : List ℕ) → is_known kept c ≡ is_some (option_or (identity_of c) (map.get kept c))
known_is kept c = ap is_some (fetched_is kept c)

some_or : (id kept : Option (List ℕ)) (b : List ℕ) → kept ≡ Some b → is_some (option_or id kept) ≡ true
some_or (Some d) kept b e = refl
some_or None kept b e = ap is_some e

inside : (x y : List ℕ) → Some x ≡ Some y → x ≡ y
inside x y e = cc

block_stays : (kept : Kept) (p : List ℕ × List ℕ) (c b : List ℕ) → map.get kept c ≡ Some b → map.get (with_block kept p) c ≡ Some b
unfolding with_block
block_stays kept p c b is = go (is_known kept p.0) refl
  where
    go : (known : Bool) → is_known kept p.0 ≡ known → map.get (cond known kept (map.insert kept p.0 p.1)) c ≡ Some b
    go true e = is
    go false e = ⊎_elim
        (λ (same : (c ≡ p.0) × (map.get (map.insert kept p.0 p.1) c ≡ Some p.1)). absurd (true≢false (sym (some_or (identity_of p.0) (map.get kept p.0) b (subst (λ k. map.get kept k ≡ Some b) same.0 is)) ∙ sym (known_is kept p.0) ∙ e)))
        (λ (other : map.get (map.insert kept p.0 p.1) c ≡ map.get kept c). other ∙ is)
        (inserted kept p.0 p.1 c)

pub blocks_stay : (kept : Kept) (pairs : List (List ℕ × List ℕ)) (c b : List ℕ) → map.get kept c ≡ Some b → map.get (with_blocks kept pairs) c ≡ Some b
blocks_stay kept [] c b is = is
blocks_stay kept (p ∷ pairs) c b is = blocks_stay (with_block kept p) pairs c b (block_stays kept p c b is)

pub stays : (s : State) (h : List Entry) (c b : List ℕ) → map.get s.kept c ≡ Some b → map.get (AfterAll s h).kept c ≡ Some b
stays s [] c b is = is
stays s (e ∷ h) c b is =
    stays (After s e.call e.answer) h c b (after_each s e.call e.answer (λ t. map.get t.kept c ≡ Some b) (record {
      same = is;
      opened = λ n few. is;
      closed = λ v. is;
      stored = λ v pairs admitted. blocks_stay s.kept pairs c b is;
      headed = λ cids height set. is;
    }))

-- a CID that stands for a block goes on to

known_more : (id kept more : Option (List ℕ)) → is_some (option_or id kept) ≡ true → ((b : List ℕ) → kept ≡ Some b → more ≡ Some b) → is_some (option_or id more) ≡ true
known_more (Some d) kept more known stays = refl
known_more None None more known stays = absurd (true≢false (sym known))
known_more None (Some b) more known stays = ap is_some (stays b refl)

known_stays : (kept : Kept) (p : List ℕ × List ℕ) (c : List ℕ) → is_known kept c ≡ true → is_known (with_block kept p) c ≡ true
known_stays kept p c known =
    known_is (with_block kept p) c ∙ known_more (identity_of c) (map.get kept c) (map.get (with_block kept p) c) (sym (known_is kept c) ∙ known) (λ b is. block_stays kept p c b is)

known_here : (kept : Kept) (p : List ℕ × List ℕ) → is_known (with_block kept p) p.0 ≡ true
unfolding with_block
known_here kept p = go (is_known kept p.0) refl
  where
    go : (known : Bool) → is_known kept p.0 ≡ known → is_known (cond known kept (map.insert kept p.0 p.1)) p.0 ≡ true
    go true e = e
    go false e = known_is (map.insert kept p.0 p.1) p.0 ∙ some_or (identity_of p.0) _ p.1 (get-insert nat_list_cmp_total kept p.0 p.1 p.0 ∙ ap (λ b. cond b (Some p.1) (map.get kept p.0)) ((Equal-is (slice_cmp nat_cmp p.0 p.0)).1 (tied_itself nat_list_cmp_total p.0)))

all_stay : (kept : Kept) (pairs : List (List ℕ × List ℕ)) (c : List ℕ) → is_known kept c ≡ true → is_known (with_blocks kept pairs) c ≡ true
all_stay kept [] c known = known
all_stay kept (p ∷ pairs) c known = all_stay (with_block kept p) pairs c (known_stays kept p c known)

known_after : (kept : Kept) (pairs : List (List ℕ × List ℕ)) (i : ℕ) (p : List ℕ × List ℕ) → slice_get pairs i ≡ Some p → is_known (with_blocks kept pairs) p.0 ≡ true
known_after kept [] i p at = absurd (cc)
known_after kept (q ∷ pairs) zero p at =
    let same : q ≡ p = cc in
    subst (λ r. is_known (with_blocks (with_block kept q) pairs) r.0 ≡ true) same (all_stay (with_block kept q) pairs q.0 (known_here kept q))
known_after kept (q ∷ pairs) (suc i) p at = known_after (with_block kept q) pairs i p at

known_on : (s : State) (h : List Entry) (c : List ℕ) → is_known s.kept c ≡ true → is_known (AfterAll s h).kept c ≡ true
known_on s h c known =
    known_is (AfterAll s h).kept c ∙ known_more (identity_of c) (map.get s.kept c) (map.get (AfterAll s h).kept c) (sym (known_is s.kept c) ∙ known) (λ b is. stays s h c b is)

pub found : (s : State) (pairs : List (List ℕ × List ℕ)) (new : ℕ) (between : List Entry) (i : ℕ) (p : List ℕ × List ℕ) (v : ℕ) (reply : GetReply) → slice_get pairs i ≡ Some p → LawfulGet (AfterAll (after_put s pairs (put.Stored new)) between) v p.0 reply → reply ≢ get.NotFound
found s pairs new between i p v reply at lawful is =
    let known = known_on (after_put s pairs (put.Stored new)) between p.0 (known_after s.kept pairs i p at) in
    let none = subst (λ r. LawfulGet (AfterAll (after_put s pairs (put.Stored new)) between) v p.0 r) is lawful in
    true≢false (sym known ∙ ap is_some none.1)

-- what is kept is valid

abbrev pub AreValid : Kept → Type 0
AreValid kept = (c b : List ℕ) → map.get kept c ≡ Some b → IsValid c b

block_valid : (kept : Kept) (p : List ℕ × List ℕ) → AreValid kept → IsValid p.0 p.1 → AreValid (with_block kept p)
unfolding with_block
block_valid kept p valid new = go (is_known kept p.0)
  where
    go : (known : Bool) → AreValid (cond known kept (map.insert kept p.0 p.1))
    go true = valid
    go false = λ c b is. ⊎_elim
        (λ (same : (c ≡ p.0) × (map.get (map.insert kept p.0 p.1) c ≡ Some p.1)).
        let block : p.1 ≡ b = inside p.1 b (sym same.1 ∙ is) in
        subst (λ k. IsValid k b) (sym same.0) (subst (IsValid p.0) block new))
        (λ (other : map.get (map.insert kept p.0 p.1) c ≡ map.get kept c). valid c b (sym other ∙ is))
        (inserted kept p.0 p.1 c)

pub blocks_valid : (kept : Kept) (pairs : List (List ℕ × List ℕ)) → AreValid kept → AreSound pairs → AreValid (with_blocks kept pairs)
blocks_valid kept [] valid sound = valid
blocks_valid kept (p ∷ pairs) valid sound =
    blocks_valid (with_block kept p) pairs (block_valid kept p valid (sound 0 p (omega arith) refl).valid) (λ k q within at. sound (suc k) q (omega arith) at)

pub nothing_kept : (k x : List ℕ) → map.get (map.empty {X = List ℕ} {R = slice_cmp nat_cmp}) k ≡ Some x → ⊥
nothing_kept k x none = true≢false (sym (ap is_some (sym (get-empty (slice_cmp nat_cmp) k) ∙ none)))

-- what is kept is under no identity CID

abbrev pub AreStored : Kept → Type 0
AreStored kept = (c b : List ℕ) → map.get kept c ≡ Some b → identity_of c ≡ None

no_identity : (id kept : Option (List ℕ)) → is_some (option_or id kept) ≡ false → id ≡ None
no_identity (Some d) kept e = absurd (true≢false e)
no_identity None kept e = refl

block_stored : (kept : Kept) (p : List ℕ × List ℕ) → AreStored kept → AreStored (with_block kept p)
unfolding with_block
block_stored kept p are c b = go (is_known kept p.0) refl
  where
    go : (known : Bool) → is_known kept p.0 ≡ known → map.get (cond known kept (map.insert kept p.0 p.1)) c ≡ Some b → identity_of c ≡ None
    go true e is = are c b is
    go false e is = ⊎_elim
        (λ (same : (c ≡ p.0) × (map.get (map.insert kept p.0 p.1) c ≡ Some p.1)). subst (λ k. identity_of k ≡ None) (sym same.0) (no_identity (identity_of p.0) (map.get kept p.0) (sym (known_is kept p.0) ∙ e)))
        (λ (other : map.get (map.insert kept p.0 p.1) c ≡ map.get kept c). are c b (sym other ∙ is))
        (inserted kept p.0 p.1 c)

pub blocks_stored : (kept : Kept) (pairs : List (List ℕ × List ℕ)) → AreStored kept → AreStored (with_blocks kept pairs)
blocks_stored kept [] are = are
blocks_stored kept (p ∷ pairs) are = blocks_stored (with_block kept p) pairs (block_stored kept p are)

-- only what is kept is hot

abbrev pub AreKept : Kept → CidSet → Type 0
AreKept kept hot = (c : List ℕ) → set.contains hot c ≡ true → map.contains_key kept c ≡ true

block_kept : (kept : Kept) (hot : CidSet) (p : List ℕ × List ℕ) → AreKept kept hot → AreKept (with_block kept p) (with_hot_cid hot p.0)
unfolding with_block with_hot_cid
block_kept kept hot p are c =
    subst (λ known. set.contains (cond (is_some (identity_of p.0)) hot (set.insert hot p.0)) c ≡ true → is_some (map.get (cond known kept (map.insert kept p.0 p.1)) c) ≡ true) (sym (known_is kept p.0)) (by_identity (identity_of p.0))
  where
    in_known : (same : Bool) → eq_by_cmp (slice_cmp nat_cmp) c p.0 ≡ same → is_some (map.get kept p.0) ≡ true → (same || set.contains hot c) ≡ true → is_some (map.get kept c) ≡ true
    in_known true e known is = subst (λ k. is_some (map.get kept k) ≡ true) (sym (slice_cmp-IsAntisymmetric nat_cmp-IsAntisymmetric c p.0 ((Equal-is (slice_cmp nat_cmp c p.0)).0 e))) known
    in_known false e known is = are c is

    in_new : (same : Bool) → (same || set.contains hot c) ≡ true → is_some (cond same (Some p.1) (map.get kept c)) ≡ true
    in_new true is = refl
    in_new false is = are c is

    by_known : (known : Bool) → is_some (map.get kept p.0) ≡ known → set.contains (set.insert hot p.0) c ≡ true → is_some (map.get (cond known kept (map.insert kept p.0 p.1)) c) ≡ true
    by_known true e is = in_known _ refl e (sym (contains-insert nat_list_cmp_total hot p.0 c) ∙ is)
    by_known false e is = ap is_some (get-insert nat_list_cmp_total kept p.0 p.1 c) ∙ in_new _ (sym (contains-insert nat_list_cmp_total hot p.0 c) ∙ is)

    by_identity : (id : Option (List ℕ)) → set.contains (cond (is_some id) hot (set.insert hot p.0)) c ≡ true → is_some (map.get (cond (is_some (option_or id (map.get kept p.0))) kept (map.insert kept p.0 p.1)) c) ≡ true
    by_identity (Some d) = are c
    by_identity None = by_known (is_some (map.get kept p.0)) refl

pub blocks_kept : (kept : Kept) (hot : CidSet) (pairs : List (List ℕ × List ℕ)) → AreKept kept hot → AreKept (with_blocks kept pairs) (with_hot hot pairs)
blocks_kept kept hot [] are = are
blocks_kept kept hot (p ∷ pairs) are = blocks_kept (with_block kept p) (with_hot_cid hot p.0) pairs (block_kept kept hot p are)

-- all that is kept is hot

abbrev pub AreHot : Kept → CidSet → Type 0
AreHot kept hot = (c : List ℕ) → map.contains_key kept c ≡ true → set.contains hot c ≡ true

block_hot : (kept : Kept) (hot : CidSet) (p : List ℕ × List ℕ) → AreHot kept hot → AreHot (with_block kept p) (with_hot_cid hot p.0)
unfolding with_block with_hot_cid
block_hot kept hot p are c =
    subst (λ known. is_some (map.get (cond known kept (map.insert kept p.0 p.1)) c) ≡ true → set.contains (cond (is_some (identity_of p.0)) hot (set.insert hot p.0)) c ≡ true) (sym (known_is kept p.0)) (by_identity (identity_of p.0))
  where
    known_before : (same : Bool) → is_some (map.get kept c) ≡ true → (same || set.contains hot c) ≡ true
    known_before true is = refl
    known_before false is = are c is

    new_now : (same : Bool) → is_some (cond same (Some p.1) (map.get kept c)) ≡ true → (same || set.contains hot c) ≡ true
    new_now true is = refl
    new_now false is = are c is

    by_known : (known : Bool) → is_some (map.get (cond known kept (map.insert kept p.0 p.1)) c) ≡ true → set.contains (set.insert hot p.0) c ≡ true
    by_known true is = contains-insert nat_list_cmp_total hot p.0 c ∙ known_before _ is
    by_known false is = contains-insert nat_list_cmp_total hot p.0 c ∙ new_now _ (sym (ap is_some (get-insert nat_list_cmp_total kept p.0 p.1 c)) ∙ is)

    by_identity : (id : Option (List ℕ)) → is_some (map.get (cond (is_some (option_or id (map.get kept p.0))) kept (map.insert kept p.0 p.1)) c) ≡ true → set.contains (cond (is_some id) hot (set.insert hot p.0)) c ≡ true
    by_identity (Some d) = are c
    by_identity None = by_known (is_some (map.get kept p.0))

pub blocks_hot : (kept : Kept) (hot : CidSet) (pairs : List (List ℕ × List ℕ)) → AreHot kept hot → AreHot (with_blocks kept pairs) (with_hot hot pairs)
blocks_hot kept hot [] are = are
blocks_hot kept hot (p ∷ pairs) are = blocks_hot (with_block kept p) (with_hot_cid hot p.0) pairs (block_hot kept hot p are)
