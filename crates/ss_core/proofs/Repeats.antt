-- CIDs that stand earlier in a list too.
use Rattle.std.proofs.Common.{◌≡◌, ℕ, ◌+◌, ◌<◌, ◌≤◌, true, false, List, length, take, Some, None, refl, sym}
use Rattle.std.specs.Prelude.{slice_get, option_map}
use Rattle.std.specs.List.{list_any}
use Rattle.ss_chain.specs.Steps.{first_of}
use Rattle.ss_chain.specs.Tipset.{same_cid, stands_earlier, repeat_at, cids_fault}
use Rattle.ss_chain.proofs.Firsts.{first_of-next, first_of-found, list_any-found}
use Rattle.ss_chain.proofs.Tipsets.{count-none}
use Rattle.ss_chain.specs.declared.tipset_fault.TipsetFault.TheVariants as fault
use Rattle.ss_model.specs.Head.{answer_of}
use Rattle.ss_model.specs.declared.call.HeadReply.TheVariants.{Repeated}

module _ (cids : List (List ℕ)) where
  pub earlier-found : (i j : ℕ) (a b : List ℕ) → slice_get cids i ≡ Some a → slice_get cids j ≡ Some b → j < i → same_cid a b ≡ true → true ≡ stands_earlier cids i
  unfolding stands_earlier
  earlier-found i j a b here at lt same = let found = list_any-found (same_cid a) cids i j b at lt same in rw here (sym found)

  pub earlier-none : (i j : ℕ) (a : List ℕ) → slice_get cids i ≡ Some a → i ≡ j → list_any (same_cid a) (take j cids) ≡ false → false ≡ stands_earlier cids i
  unfolding stands_earlier
  earlier-none i j a here e none =
      let is : list_any (same_cid a) (take i cids) ≡ false = rw e none in
      rw here (sym is)

  pub repeats-next : (i : ℕ) → first_of (repeat_at cids) i ≡ None → stands_earlier cids i ≡ false → first_of (repeat_at cids) (i + 1) ≡ None
  repeats-next i before here = first_of-next (repeat_at cids) i before (rw here refl)

  pub repeats-found : (i : ℕ) → 0 < length cids → length cids ≤ 64 → first_of (repeat_at cids) i ≡ None → i < length cids → stands_earlier cids i ≡ true → Some (Repeated i) ≡ option_map answer_of (cids_fault cids)
  unfolding cids_fault
  repeats-found i some few before lt here =
      let found = first_of-found (repeat_at cids) i (length cids) (fault.Repeated i) before lt (rw here refl) in
      rw (count-none (length cids) some few, found) refl
