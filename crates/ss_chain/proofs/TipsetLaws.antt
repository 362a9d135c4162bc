-- Blocks have a height exactly where they are a tipset of that height.
use Rattle.std.proofs.Common.{◌≡◌, ◌≢◌, ℕ, ◌<◌, ◌≤◌, Bool, true, false, eqb, ltb, List, [], ◌∷◌, length, take, get_or, Option, Some, None, Result, Ok, refl, sym, subst, ◌∙◌, arith, inl, inr}
use Rattle.std.specs.Prelude.{slice_get, not, ◌↔◌}
use Rattle.std.specs.List.{list_any}
use Rattle.std.specs.Cmp.Lexicographic.{same_text}
use Rattle.std.proofs.lemmas.Bool.{eqb-true, eqb-false, eq-eqb, ltb-false}
use Rattle.std.proofs.lemmas.List.{length-map}
use Rattle.std.proofs.lemmas.Option.{slice_get_within, slice_get-get_or}
use Rattle.ss_cbor.proofs.Heads.{choose}
use Rattle.ss_chain.specs.Steps.{first_of}
use Rattle.ss_chain.specs.Header.{HeaderFields}
use Rattle.ss_chain.specs.HeaderReading.{header_of}
use Rattle.ss_chain.specs.Tipset.{IsTipset, same_cid, same_cids, count_fault, stands_earlier, repeat_at, cids_fault, fault_beside, header_at, unless, height_beside, common_height, tipset_of}
use Rattle.ss_chain.specs.declared.tipset_fault.TipsetFault.{TipsetFault}
use Rattle.ss_chain.specs.declared.tipset_fault.TipsetFault.TheVariants.{Repeated}
use Rattle.ss_chain.proofs.Firsts.{first_of-none-each, first_of-all-none, list_any-found, list_any-none}
use Rattle.ss_chain.proofs.Steps.{Some-same, option_or-none, not-chosen, both, not-false}
use Rattle.ss_chain.proofs.Tipsets.{cids, cid-at, count-none, wrong, same_cid-refl, same_cids-refl}

unless-Ok : {A : Type 0} (f : Option TipsetFault) (r : Result A TipsetFault) (x : A) → unless f r ≡ Ok x → (f ≡ None) × (r ≡ Ok x)
unless-Ok None r x h = (refl, h)
unless-Ok (Some fault) r x h = absurd (cc)

count-fits : (n : ℕ) → count_fault n ≡ None → (0 < n) × (n ≤ 64)
count-fits n h =
    elim (choose (eqb n 0) _ _ _ h) [
      | inl e ↦ absurd (cc (e.1))
      | inr a ↦ elim (choose (ltb 64 n) _ _ _ a.1) [
        | inl e ↦ absurd (cc (e.1))
        | inr b ↦ let some : n ≢ 0 = eqb-false _ _ a.0 in (omega arith, ltb-false _ _ b.0)
      ]
    ]

same_cids-equal : (xs ys : List (List ℕ)) → same_cids xs ys ≡ true → xs ≡ ys
same_cids-equal [] [] h = refl
same_cids-equal [] (y ∷ ys) h = absurd (cc)
same_cids-equal (x ∷ xs) [] h = absurd (cc)
same_cids-equal (x ∷ xs) (y ∷ ys) h =
    let p = both (same_cid x y) (same_cids xs ys) h in
    let first = same_text x y (sym p.0) in
    let others = same_cids-equal xs ys p.1 in
    cc

-- ---- a height, of a tipset

beside-Ok : (blocks : List (List ℕ × List ℕ)) (o : Option HeaderFields) (height : ℕ) → height_beside blocks o ≡ Ok height →
    (first : HeaderFields) × (o ≡ Some first) × (first.height ≡ height) × (first_of (wrong blocks first) (length blocks) ≡ None)
beside-Ok blocks None height h = absurd (cc)
beside-Ok blocks (Some first) height h =
    let u = unless-Ok (first_of (wrong blocks first) (length blocks)) (Ok first.height) height h in
    let same : first.height ≡ height = cc (u.1) in
    (first, refl, same, u.0)

beside-none : (first : HeaderFields) (i : ℕ) (o : Option HeaderFields) → fault_beside first i o ≡ None →
    (h : HeaderFields) × (o ≡ Some h) × (h.height ≡ first.height) × (h.parents ≡ first.parents)
beside-none first i None h = absurd (cc)
beside-none first i (Some header) h =
    elim (choose (not (eqb header.height first.height)) _ _ _ h) [
      | inl e ↦ absurd (cc (e.1))
      | inr a ↦ elim (choose (not (same_cids header.parents first.parents)) _ _ _ a.1) [
        | inl e ↦ absurd (cc (e.1))
        | inr b ↦ (header, refl, eqb-true _ _ (not-false _ a.0), same_cids-equal _ _ (not-false _ b.0))
      ]
    ]

module _ (blocks : List (List ℕ × List ℕ)) where
  apart : cids_fault (cids blocks) ≡ None → (i j : ℕ) (a b : List ℕ × List ℕ) → j < i → slice_get blocks i ≡ Some a → slice_get blocks j ≡ Some b → a.0 ≢ b.0
  unfolding cids_fault stands_earlier
  apart none i j a b lt here there same =
      let first = option_or-none (count_fault (length (cids blocks))) (first_of (repeat_at (cids blocks)) (length (cids blocks))) none in
      let i_lt : i < length (cids blocks) = slice_get_within (cids blocks) i a.0 (cid-at blocks i a here) in
      let fresh : stands_earlier (cids blocks) i ≡ false = not-chosen (stands_earlier (cids blocks) i) (Repeated i) (first_of-none-each (repeat_at (cids blocks)) (length (cids blocks)) first.1 i i_lt) in
      let found = list_any-found (same_cid a.0) (cids blocks) i j b.0 (cid-at blocks j b there) lt (subst (λ (c : List ℕ). same_cid a.0 c ≡ true) same (same_cid-refl a.0)) in
      let none_earlier : list_any (same_cid a.0) (take i (cids blocks)) ≡ false = rw (cid-at blocks i a here) at fresh in
      absurd (cc (found, none_earlier))

  header-here : (i : ℕ) (b : List ℕ × List ℕ) (h : HeaderFields) → slice_get blocks i ≡ Some b → header_at blocks i ≡ Some h → header_of b.0 b.1 ≡ Some h
  header-here i b h at is = rw at at is

  counted : cids_fault (cids blocks) ≡ None → (0 < length blocks) × (length blocks ≤ 64)
  unfolding cids_fault
  counted none =
      let first = option_or-none (count_fault (length (cids blocks))) (first_of (repeat_at (cids blocks)) (length (cids blocks))) none in
      subst (λ (n : ℕ). (0 < n) × (n ≤ 64)) (length-map blocks (λ b. b.0)) (count-fits (length (cids blocks)) first.0)

  pub tipset-is : (height : ℕ) → tipset_of blocks ≡ Ok height → IsTipset blocks height
  unfolding tipset_of common_height
  tipset-is height h =
      let u = unless-Ok (cids_fault (cids blocks)) (height_beside blocks (header_at blocks 0)) height h in
      let n = counted u.0 in
      let first = beside-Ok blocks (header_at blocks 0) height u.1 in
      record {
        some = n.0;
        few = n.1;
        distinct = apart u.0;
        parents = first.0.parents;
        headers = λ i b at.
            let fine = beside-none first.0 i (header_at blocks i) (first_of-none-each (wrong blocks first.0) (length blocks) first.3 i (slice_get_within blocks i b at)) in
            (fine.0, header-here i b fine.0 at fine.1, fine.2 ∙ first.2, fine.3);
      }

  -- ---- of a tipset, its height

  unlike : (c d : List ℕ) (r : Bool) → same_cid c d ≡ r → c ≢ d → same_cid c d ≡ false
  unlike c d true h other = absurd (other (same_text c d (sym h)))
  unlike c d false h other = h

  module _ (height : ℕ) (is : IsTipset blocks height) where
    block-at : (i : ℕ) → i < length blocks → (b : List ℕ × List ℕ) × (slice_get blocks i ≡ Some b)
    block-at i lt = (get_or blocks i ([], []), slice_get-get_or blocks i ([], []) lt)

    not-earlier : (i : ℕ) → i < length blocks → stands_earlier (cids blocks) i ≡ false
    unfolding stands_earlier
    not-earlier i lt =
        let a = block-at i lt in
        rw (cid-at blocks i a.0 a.1) (list_any-none (same_cid a.0.0) (cids blocks) i (λ j x less at.
        let b = block-at j (omega arith) in
        let e : x ≡ b.0.0 = Some-same (sym at ∙ cid-at blocks j b.0 b.1) in
        rw e (unlike a.0.0 b.0.0 (same_cid a.0.0 b.0.0) refl (is.distinct i j a.0 b.0 less a.1 b.1))))

    cids-fine : cids_fault (cids blocks) ≡ None
    unfolding cids_fault
    cids-fine =
        let len : length (cids blocks) ≡ length blocks = length-map blocks (λ b. b.0) in
        rw (len, count-none (length blocks) is.some is.few) (first_of-all-none (repeat_at (cids blocks)) (length blocks) (λ i lt. rw (not-earlier i lt) refl))

    fine-beside : (first h : HeaderFields) (i : ℕ) → first.height ≡ height → first.parents ≡ is.parents → h.height ≡ height → h.parents ≡ is.parents → fault_beside first i (Some h) ≡ None
    fine-beside first h i p q r s =
        let heights : eqb h.height first.height ≡ true = eq-eqb h.height first.height (r ∙ sym p) in
        let parents : h.parents ≡ first.parents = s ∙ sym q in
        let same : same_cids h.parents first.parents ≡ true = rw parents (same_cids-refl first.parents) in
        rw (heights, same) refl

    pub tipset-again : tipset_of blocks ≡ Ok height
    unfolding tipset_of common_height
    tipset-again =
        let b = block-at 0 is.some in
        let first = is.headers 0 b.0 b.1 in
        let none = first_of-all-none (wrong blocks first.0) (length blocks) (λ i lt.
        let c = block-at i lt in
        let h = is.headers i c.0 c.1 in
        rw (c.1, h.1) (fine-beside first.0 h.0 i first.2 first.3 h.2 h.3)) in
        rw (cids-fine, b.1, first.1, none, first.2) refl

pub tipset-exact : (blocks : List (List ℕ × List ℕ)) (r : Result ℕ TipsetFault) → r ≡ tipset_of blocks → (height : ℕ) → (r ≡ Ok height) ↔ IsTipset blocks height
tipset-exact blocks r e height = (λ h. tipset-is blocks height (sym e ∙ h), λ is. e ∙ tipset-again blocks height is)
