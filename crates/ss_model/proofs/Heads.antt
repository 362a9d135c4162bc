-- A head stays a tipset of blocks that are there, whatever blocks join.
use Rattle.std.proofs.Common.{◌≡◌, ⊎_elim, ℕ, zero, suc, ◌≤◌, Bool, true, false, List, [], ◌∷◌, Option, Some, None, refl, sym, ap, ◌∙◌, subst, true≢false, arith}
use Rattle.std.specs.Option.{option_or}
use Rattle.std.specs.Prelude.{◌<◌, length, is_some, if◌then◌else◌, slice_get, unwrap_or, option_map, option_and_then, Ok}
use Rattle.std.proofs.lemmas.Bool.{cases_lt}
use Rattle.std.proofs.lemmas.Option.{slice_get_within}
use Rattle.std.specs.FinMap as finite_map
use Rattle.ss_cid.specs.Cid.{identity_of}
use Rattle.ss_chain.specs.Fetch.{fetched}
use Rattle.ss_chain.specs.Steps.{first_of}
use Rattle.ss_chain.specs.Tipset.{cids_fault, tipset_of}
use Rattle.ss_model.specs.State.{Kept}
use Rattle.ss_model.specs.Lawful.{is_known}
use Rattle.ss_model.specs.Head.{answer_of, absent_at, unread_refusal, blocks_of, IsHead}
use Rattle.ss_model.specs.declared.call.HeadReply.TheVariants as head
use Rattle.ss_model.proofs.Kept.{fetched_is}

-- where the first of two is none and so is the other, both are
neither : {A : Type 0} (x y : Option A) → option_or x y ≡ None → (x ≡ None) × (y ≡ None)
neither None y e = (refl, e)
neither (Some a) y e = absurd (true≢false (ap is_some e))

not_mapped : {A B : Type 0} (f : A → B) (x : Option A) → option_map f x ≡ None → x ≡ None
not_mapped f None e = refl
not_mapped f (Some a) e = absurd (true≢false (ap is_some e))

module _ (kept : Kept) (cids : List (List ℕ)) where
  -- a CID of which nothing is said to be absent is known
  known_there : (i : ℕ) (c : List ℕ) → slice_get cids i ≡ Some c → absent_at kept cids i ≡ None → is_known kept c ≡ true
  known_there i c at none = go (is_known kept c) (sym (ap (option_and_then (λ c. if is_known kept c then None else Some (head.Absent i))) at) ∙ none)
    where
      go : (known : Bool) → (if known then None else Some (head.Absent i)) ≡ None → known ≡ true
      go true e = refl
      go false e = absurd (true≢false (ap is_some e))

  known_before : (n : ℕ) → first_of (absent_at kept cids) n ≡ None → (i : ℕ) (c : List ℕ) → i < n → slice_get cids i ≡ Some c → is_known kept c ≡ true
  unfolding first_of
  known_before zero none i c below at = absurd (omega (arith, below))
  known_before (suc n) none i c below at =
      let both = neither (first_of (absent_at kept cids) n) (absent_at kept cids n) none in
      ⊎_elim (λ (less : i < n). known_before n both.0 i c less at) (λ (past : n ≤ i). known_there i c at (subst (λ k. absent_at kept cids k ≡ None) (omega (arith, past, below)) both.1)) (cases_lt i n)

  -- a list of CIDs that is not refused before a block is read: its CIDs have no fault, and each is known
  pub unread_is : unread_refusal kept cids ≡ None → cids_fault cids ≡ None
  unread_is none = not_mapped answer_of (cids_fault cids) (neither (option_map answer_of (cids_fault cids)) (first_of (absent_at kept cids) (length cids)) none).0

  pub each_known : unread_refusal kept cids ≡ None → (i : ℕ) (c : List ℕ) → slice_get cids i ≡ Some c → is_known kept c ≡ true
  each_known none i c at =
      known_before (length cids) (neither (option_map answer_of (cids_fault cids)) (first_of (absent_at kept cids) (length cids)) none).1 i c (slice_get_within cids i c at) at

module _ (kept more : Kept) (stays : (c b : List ℕ) → finite_map.get kept c ≡ Some b → finite_map.get more c ≡ Some b) where
  -- what a CID stands for, it goes on to stand for
  fetched_stays : (c : List ℕ) → is_known kept c ≡ true → fetched more c ≡ fetched kept c
  fetched_stays c known = go (fetched kept c) refl known
    where
      on : (b : List ℕ) (id was : Option (List ℕ)) → ((b : List ℕ) → was ≡ Some b → finite_map.get more c ≡ Some b) → option_or id was ≡ Some b → option_or id (finite_map.get more c) ≡ Some b
      on b (Some d) was stay is = is
      on b None was stay is = stay b is

      go : (found : Option (List ℕ)) → fetched kept c ≡ found → is_some found ≡ true → fetched more c ≡ found
      go (Some b) is known = fetched_is more c ∙ on b (identity_of c) (finite_map.get kept c) (stays c) (sym (fetched_is kept c) ∙ is)
      go None is known = absurd (true≢false (sym known))

  -- so the blocks of known CIDs stay
  same_blocks : (cids : List (List ℕ)) → ((i : ℕ) (c : List ℕ) → slice_get cids i ≡ Some c → is_known kept c ≡ true) → blocks_of kept cids ≡ blocks_of more cids
  same_blocks [] known = refl
  same_blocks (c ∷ cids) known =
      let here : unwrap_or (fetched kept c) [] ≡ unwrap_or (fetched more c) [] = ap (λ f. unwrap_or f []) (sym (fetched_stays c (known 0 c refl))) in
      let more_blocks = same_blocks cids (λ i d at. known (suc i) d at) in
      cc (here, more_blocks)

  absent_stays : (cids : List (List ℕ)) → ((i : ℕ) (c : List ℕ) → slice_get cids i ≡ Some c → is_known kept c ≡ true) → (i : ℕ) → absent_at more cids i ≡ None
  absent_stays cids known i = go (slice_get cids i) refl
    where
      go : (at : Option (List ℕ)) → slice_get cids i ≡ at → option_and_then (λ c. if is_known more c then None else Some (head.Absent i)) at ≡ None
      go None is = refl
      go (Some c) is = ap (λ known. if known then None else Some (head.Absent i)) (ap is_some (fetched_stays c (known i c is)) ∙ known i c is)

  none_absent : (cids : List (List ℕ)) → ((i : ℕ) (c : List ℕ) → slice_get cids i ≡ Some c → is_known kept c ≡ true) → (n : ℕ) → first_of (absent_at more cids) n ≡ None
  unfolding first_of
  none_absent cids known zero = refl
  none_absent cids known (suc n) = rw (none_absent cids known n) (absent_stays cids known n)

  pub head_stays : (cids : List (List ℕ)) (height : ℕ) → IsHead kept cids height → IsHead more cids height
  head_stays cids height is = record {
    known = rw (unread_is kept cids is.known, none_absent cids (each_known kept cids is.known) (length cids)) refl;
    tipset = subst (λ blocks. tipset_of blocks ≡ Ok height) (same_blocks cids (each_known kept cids is.known)) is.tipset;
  }
