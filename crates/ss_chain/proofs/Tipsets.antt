-- What is wrong with some blocks, as it is found one after another.
use Rattle.std.proofs.Common.{◌≡◌, ℕ, zero, ◌+◌, ◌<◌, ◌≤◌, true, false, List, [], ◌∷◌, length, map, take, Option, Some, None, Ok, Err, refl, sym, ap, subst, ◌∙◌, arith}
use Rattle.std.specs.Prelude.{slice_get, option_map}
use Rattle.std.specs.List.{list_any}
use Rattle.std.proofs.lemmas.Bool.{eq-eqb, ne_eqb, le-ltb}
use Rattle.std.proofs.lemmas.Option.{slice_get-map}
use Rattle.std.proofs.lemmas.List.{length-map}
use Rattle.ss_chain.specs.Steps.{first_of}
use Rattle.ss_chain.specs.Header.{HeaderFields}
use Rattle.ss_chain.specs.HeaderReading.{header_of}
use Rattle.ss_chain.specs.Tipset.{same_cid, same_cids, count_fault, stands_earlier, repeat_at, cids_fault, fault_beside, header_at, common_height}
use Rattle.ss_chain.specs.declared.tipset_fault.TipsetFault.{TipsetFault}
use Rattle.ss_chain.specs.declared.tipset_fault.TipsetFault.TheVariants.{Repeated, NotHeader}
use Rattle.ss_chain.proofs.Firsts.{first_of-none, first_of-next, first_of-found, list_any-next, list_any-found}

pub same_cid-refl : (c : List ℕ) → same_cid c c ≡ true
same_cid-refl [] = refl
same_cid-refl (b ∷ c) = rw (eq-eqb b b refl) (same_cid-refl c)

pub same_cids-refl : (cs : List (List ℕ)) → same_cids cs cs ≡ true
same_cids-refl [] = refl
same_cids-refl (c ∷ cs) = rw (same_cid-refl c) (same_cids-refl cs)

pub count-none : (n : ℕ) → 0 < n → n ≤ 64 → count_fault n ≡ None
count-none n some few = rw (ne_eqb n 0 (λ e. absurd (omega arith)), le-ltb 64 n few) refl

module _ (blocks : List (List ℕ × List ℕ)) where
  -- the CIDs
  abbrev pub cids : List (List ℕ)
  cids = map (λ b. b.0) blocks

  -- ---- repeated CIDs

  pub cid-at : (i : ℕ) (b : List ℕ × List ℕ) → slice_get blocks i ≡ Some b → slice_get cids i ≡ Some b.0
  cid-at i b at = slice_get-map (λ b. b.0) blocks i ∙ ap (option_map (λ b. b.0)) at

  pub earlier-next : (j : ℕ) (cid : List ℕ) (b : List ℕ × List ℕ) → slice_get blocks j ≡ Some b → list_any (same_cid cid) (take j cids) ≡ false → same_cid cid b.0 ≡ false →
      list_any (same_cid cid) (take (j + 1) cids) ≡ false
  earlier-next j cid b at before here = list_any-next (same_cid cid) cids j b.0 (cid-at j b at) before here

  pub earlier-found : (i j : ℕ) (a b : List ℕ × List ℕ) → slice_get blocks i ≡ Some a → slice_get blocks j ≡ Some b → j < i → same_cid a.0 b.0 ≡ true → true ≡ stands_earlier cids i
  unfolding stands_earlier
  earlier-found i j a b here at lt same =
      let found = list_any-found (same_cid a.0) cids i j b.0 (cid-at j b at) lt same in
      rw (cid-at i a here) (sym found)

  pub earlier-none : (i j : ℕ) (a : List ℕ × List ℕ) → slice_get blocks i ≡ Some a → i ≡ j → list_any (same_cid a.0) (take j cids) ≡ false → false ≡ stands_earlier cids i
  unfolding stands_earlier
  earlier-none i j a here e none =
      let is : list_any (same_cid a.0) (take i cids) ≡ false = rw e none in
      rw (cid-at i a here) (sym is)

  pub repeats-none : first_of (repeat_at cids) zero ≡ None
  repeats-none = first_of-none (repeat_at cids)

  pub repeats-next : (i : ℕ) → first_of (repeat_at cids) i ≡ None → stands_earlier cids i ≡ false → first_of (repeat_at cids) (i + 1) ≡ None
  repeats-next i before here = first_of-next (repeat_at cids) i before (rw here refl)

  pub repeats-found : (i : ℕ) → 0 < length blocks → length blocks ≤ 64 → first_of (repeat_at cids) i ≡ None → i < length blocks → stands_earlier cids i ≡ true →
      Some (Repeated i) ≡ cids_fault cids
  unfolding cids_fault
  repeats-found i some few before lt here =
      let len : length cids ≡ length blocks = length-map blocks (λ b. b.0) in
      let found = first_of-found (repeat_at cids) i (length blocks) (Repeated i) before lt (rw here refl) in
      rw (len, count-none (length blocks) some few, found) refl

  -- ---- blocks beside the first one

  module _ (first : HeaderFields) where
    -- what is wrong with the block at a place
    abbrev pub wrong : ℕ → Option TipsetFault
    wrong i = fault_beside first i (header_at blocks i)

    wrong-at : (i : ℕ) (b : List ℕ × List ℕ) (f : Option TipsetFault) → slice_get blocks i ≡ Some b → fault_beside first i (header_of b.0 b.1) ≡ f → wrong i ≡ f
    wrong-at i b f at is = rw at is

    pub wrong-first : (b : List ℕ × List ℕ) → slice_get blocks 0 ≡ Some b → header_of b.0 b.1 ≡ Some first → first_of wrong 1 ≡ None
    wrong-first b at is =
        let fine : fault_beside first 0 (header_of b.0 b.1) ≡ None = rw (is, eq-eqb first.height first.height refl, same_cids-refl first.parents) refl in
        first_of-next wrong 0 (first_of-none wrong) (wrong-at 0 b None at fine)

    pub wrong-next : (i : ℕ) (b : List ℕ × List ℕ) → slice_get blocks i ≡ Some b → first_of wrong i ≡ None → fault_beside first i (header_of b.0 b.1) ≡ None → first_of wrong (i + 1) ≡ None
    wrong-next i b at before here = first_of-next wrong i before (wrong-at i b None at here)

    pub height-wrong : (i : ℕ) (a b : List ℕ × List ℕ) (f : TipsetFault) → slice_get blocks 0 ≡ Some a → header_of a.0 a.1 ≡ Some first → slice_get blocks i ≡ Some b →
        first_of wrong i ≡ None → i < length blocks → fault_beside first i (header_of b.0 b.1) ≡ Some f → Err f ≡ common_height blocks
    unfolding common_height
    height-wrong i a b f start is at before lt here =
        let found = first_of-found wrong i (length blocks) f before lt (wrong-at i b (Some f) at here) in
        rw (start, is, found) refl

    pub height-is : (n : ℕ) (a : List ℕ × List ℕ) → slice_get blocks 0 ≡ Some a → header_of a.0 a.1 ≡ Some first → first_of wrong n ≡ None → n ≡ length blocks → Ok first.height ≡ common_height blocks
    unfolding common_height
    height-is n a start is none e =
        let all : first_of wrong (length blocks) ≡ None = subst (λ (m : ℕ). first_of wrong m ≡ None) e none in
        rw (start, is, all) refl

  pub height-none : (a : List ℕ × List ℕ) → slice_get blocks 0 ≡ Some a → header_of a.0 a.1 ≡ None → Err (NotHeader 0) ≡ common_height blocks
  unfolding common_height
  height-none a start is = rw (start, is) refl
