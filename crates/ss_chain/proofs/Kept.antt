-- The blocks of a parcel as a map.
use Rattle.std.proofs.Common.{◌≡◌, ℕ, zero, suc, ◌≤◌, Bool, true, false, cond, eqb, List, [], ◌∷◌, length, take, Option, Some, None, refl, sym, ap, ◌∙◌, arith}
use Rattle.std.specs.Prelude.{slice_get, is_some}
use Rattle.std.specs.List.{list_any}
use Rattle.std.specs.FinMap as map
use Rattle.std.specs.Cmp.Lexicographic.{nat_list_cmp_total, texts_ties, same_text}
use Rattle.ss_cid.specs.Maps.{Kept}
use Rattle.ss_cid.specs.Cid.{hash_of, digest_of, identity_of}
use Rattle.ss_chain.specs.Fetch.{is_identity, fetched, is_known}
use Rattle.ss_chain.specs.Parcel.{kept_of}
use Rattle.ss_chain.specs.Tipset.{same_cid}
use Rattle.ss_chain.proofs.Steps.{or-false}

-- ---- identity CIDs

chosen-some : (b : Bool) (x y : List ℕ) (other : Option (List ℕ)) → Some x ≡ cond b (Some y) None → Some x ≡ cond b (Some y) other
chosen-some true x y other h = h
chosen-some false x y other h = absurd (cc)

chosen-none : (b : Bool) (y : List ℕ) → None ≡ cond b (Some y) None → b ≡ false
chosen-none true y h = absurd (cc)
chosen-none false y h = refl

pub identity-some : (kept : Kept) (cid digest : List ℕ) → Some digest ≡ identity_of cid → Some digest ≡ fetched kept cid
unfolding identity_of fetched is_identity
identity-some kept cid digest h = chosen-some (eqb (hash_of cid) 0) digest (digest_of cid) (map.get kept cid) h

pub identity-none : (cid : List ℕ) → None ≡ identity_of cid → is_identity cid ≡ false
unfolding identity_of is_identity
identity-none cid h = chosen-none (eqb (hash_of cid) 0) (digest_of cid) h

-- ---- fetch

pub fetched-digest : (kept : Kept) (cid : List ℕ) → is_identity cid ≡ true → Some (digest_of cid) ≡ fetched kept cid
unfolding fetched
fetched-digest kept cid h = rw h refl

pub fetched-stored : (kept : Kept) (cid : List ℕ) → is_identity cid ≡ false → map.get kept cid ≡ fetched kept cid
unfolding fetched
fetched-stored kept cid h = rw h refl

known-by : (kept : Kept) (cid : List ℕ) (b : Bool) → is_identity cid ≡ b → is_known (map.contains_key kept) cid ≡ is_some (fetched kept cid)
unfolding fetched
known-by kept cid true h = rw h refl
known-by kept cid false h = rw h refl

-- a CID is known exactly where fetch gives its block
pub known-some : (kept : Kept) (cid block : List ℕ) → Some block ≡ fetched kept cid → is_known (map.contains_key kept) cid ≡ true
known-some kept cid block h = known-by kept cid (is_identity cid) refl ∙ ap is_some (sym h)

pub known-none : (kept : Kept) (cid : List ℕ) → None ≡ fetched kept cid → is_known (map.contains_key kept) cid ≡ false
known-none kept cid h = known-by kept cid (is_identity cid) refl ∙ ap is_some (sym h)

-- the block of an identity CID
pub digest-is : (kept : Kept) (cid block : List ℕ) → Some block ≡ fetched kept cid → is_identity cid ≡ true → block ≡ digest_of cid
digest-is kept cid block h identity = let e = h ∙ sym (fetched-digest kept cid identity) in cc

-- ---- the first block of a CID

unlike : (c d : List ℕ) (r : Bool) → same_cid c d ≡ r → is_identity c ≡ false → is_identity d ≡ true → same_cid c d ≡ false
unlike c d true h p q = let e = ap is_identity (same_text c d (sym h)) in absurd (cc (e, p, q))
unlike c d false h p q = h

get-kept : (c : List ℕ) (x : List ℕ × List ℕ) (xs : List (List ℕ × List ℕ)) (b : Bool) → is_identity x.0 ≡ b → is_identity c ≡ false →
    map.get (kept_of (x ∷ xs)) c ≡ cond (same_cid c x.0) (Some x.1) (map.get (kept_of xs) c)
unfolding kept_of
get-kept c x xs true h p = rw (h, unlike c x.0 (same_cid c x.0) refl p h) refl
get-kept c x xs false h p = rw (h, texts_ties c x.0) (map.get-insert nat_list_cmp_total (kept_of xs) x.0 x.1 c)

get-none : (c : List ℕ) → map.get (kept_of []) c ≡ None
unfolding kept_of
get-none c = map.get-empty _ c

module _ (c : List ℕ) (stored : is_identity c ≡ false) where
  -- none of the first i blocks is under this CID
  abbrev pub NoneBefore : ℕ → List (List ℕ × List ℕ) → Type 0
  NoneBefore i blocks = list_any (λ b. same_cid c b.0) (take i blocks) ≡ false

  pub kept-found : (i : ℕ) (blocks : List (List ℕ × List ℕ)) (b : List ℕ × List ℕ) → slice_get blocks i ≡ Some b → NoneBefore i blocks → same_cid c b.0 ≡ true →
      map.get (kept_of blocks) c ≡ Some b.1
  kept-found i [] b at none same = absurd (cc)
  kept-found zero (x ∷ xs) b at none same =
      let is : x ≡ b = cc in
      get-kept c x xs (is_identity x.0) refl stored ∙ rw (is, same) refl
  kept-found (suc i) (x ∷ xs) b at none same =
      let p = or-false (same_cid c x.0) (list_any (λ b. same_cid c b.0) (take i xs)) none in
      get-kept c x xs (is_identity x.0) refl stored ∙ rw p.0 (kept-found i xs b at p.1 same)

  pub kept-none : (i : ℕ) (blocks : List (List ℕ × List ℕ)) → length blocks ≤ i → NoneBefore i blocks → map.get (kept_of blocks) c ≡ None
  kept-none i [] le none = get-none c
  kept-none zero (x ∷ xs) le none = absurd (omega arith)
  kept-none (suc i) (x ∷ xs) le none =
      let p = or-false (same_cid c x.0) (list_any (λ b. same_cid c b.0) (take i xs)) none in
      get-kept c x xs (is_identity x.0) refl stored ∙ rw p.0 (kept-none i xs (omega arith) p.1)
