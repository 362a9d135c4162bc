-- What a reading took from the front of some bytes, and what it takes again.
use Rattle.std.proofs.Common.{◌≡◌, ℕ, zero, suc, ◌+◌, ◌^◌, ◌<◌, ◌≤◌, List, [], ◌++◌, length, Some, Result, Ok, refl, sym, ap, subst, ◌∙◌, append_assoc, arith, length-append}
use Rattle.ss_cid.proofs.Chains.{bind-Ok, Ok-same}
use Rattle.ss_cbor.specs.Item.{Part, uint, array, link, IsPart, none}
use Rattle.ss_cbor.specs.Reading.{part_at, as_count, as_number, as_link, count_from, number_from, link_from}
use Rattle.ss_cbor.specs.Fault.{rest_at, item_at}
use Rattle.ss_cbor.specs.declared.fault.CborFault.{CborFault}
use Rattle.ss_cbor.proofs.Numbers.{IsBytes, IsBytes-right}
use Rattle.ss_cbor.proofs.Parts.{part_takes, part_again}
use Rattle.ss_cbor.proofs.Rows.{Items-append, Items-split, Items-none}
use Rattle.ss_cbor.proofs.Fronts.{item_spelled, item_again}
use Rattle.ss_chain.specs.Header.{AreItems}
use Rattle.ss_chain.specs.HeaderReading.{item_from, after_items}
use Rattle.ss_chain.proofs.Steps.{Some-same, bind-Some, result_ok-is}

-- ---- what was read

count-is : (r : Result (Part × List ℕ) CborFault) (x : ℕ × List ℕ) → as_count r ≡ Some x → r ≡ Ok (array x.0, x.1)
count-is (Ok (array n, rest)) x h = ap (λ (y : ℕ × List ℕ). Ok (array y.0, y.1)) (Some-same h)
count-is _ x h = absurd (cc)

number-is : (r : Result (Part × List ℕ) CborFault) (x : ℕ × List ℕ) → as_number r ≡ Some x → r ≡ Ok (uint x.0, x.1)
number-is (Ok (uint n, rest)) x h = ap (λ (y : ℕ × List ℕ). Ok (uint y.0, y.1)) (Some-same h)
number-is _ x h = absurd (cc)

link-is : (r : Result (Part × List ℕ) CborFault) (x : List ℕ × List ℕ) → as_link r ≡ Some x → r ≡ Ok (link x.0, x.1)
link-is (Ok (link cid, rest)) x h = ap (λ (y : List ℕ × List ℕ). Ok (link y.0, y.1)) (Some-same h)
link-is _ x h = absurd (cc)

-- ---- what was taken

-- the bytes are a front and a rest
pub record TakesFront (bytes front rest : List ℕ) : Type 0 where
  pub parts : bytes ≡ front ++ rest
  pub fits : IsBytes rest
  pub front_less : length front ≤ length bytes
  pub rest_less : length rest ≤ length bytes

takes : (bytes front rest : List ℕ) → IsBytes bytes → bytes ≡ front ++ rest → TakesFront bytes front rest
takes bytes front rest fits parts =
    let len : length bytes ≡ length front + length rest = ap length parts ∙ length-append front rest in
    record { parts = parts; fits = IsBytes-right front rest (subst IsBytes parts fits); front_less = omega arith; rest_less = omega arith }

-- a part
pub record TakesPart (bytes : List ℕ) (part : Part) (rest : List ℕ) : Type 0 where
  pub front : List ℕ
  pub is : IsPart front part
  pub takes : TakesFront bytes front rest

-- so many items
pub record TakesItems (n : ℕ) (bytes rest : List ℕ) : Type 0 where
  pub front : List ℕ
  pub are : AreItems n front
  pub takes : TakesFront bytes front rest

module _ (end : ℕ) (bytes : List ℕ) (fits : IsBytes bytes) where
  part-taken : (part : Part) (rest : List ℕ) → part_at 0 end bytes ≡ Ok (part, rest) → TakesPart bytes part rest
  part-taken part rest h =
      let t = part_takes 0 end bytes (part, rest) (omega arith) fits h in
      record { front = t.front; is = t.is; takes = takes bytes t.front rest fits t.takes.parts }

  pub count-taken : (x : ℕ × List ℕ) → count_from end bytes ≡ Some x → TakesPart bytes (array x.0) x.1
  unfolding count_from
  count-taken x h = part-taken (array x.0) x.1 (count-is (part_at 0 end bytes) x h)

  pub number-taken : (x : ℕ × List ℕ) → number_from end bytes ≡ Some x → TakesPart bytes (uint x.0) x.1
  unfolding number_from
  number-taken x h = part-taken (uint x.0) x.1 (number-is (part_at 0 end bytes) x h)

  pub link-taken : (x : List ℕ × List ℕ) → link_from end bytes ≡ Some x → TakesPart bytes (link x.0) x.1
  unfolding link_from
  link-taken x h = part-taken (link x.0) x.1 (link-is (part_at 0 end bytes) x h)

  pub item-taken : (x : List ℕ × List ℕ) → item_from end bytes ≡ Some x → AreItems 1 x.0 × TakesFront bytes x.0 x.1
  unfolding item_from item_at
  item-taken x h =
      let r = bind-Ok (rest_at 1 end bytes) _ x (result_ok-is (item_at end bytes) x h) in
      let s = item_spelled end bytes fits r.0 r.1 in
      subst (λ (y : List ℕ × List ℕ). AreItems 1 y.0 × TakesFront bytes y.0 y.1) (Ok-same r.2) ((s.0, s.1), takes bytes _ r.0 fits s.2)

at_count : {m n : ℕ} {bytes : List ℕ} → m ≡ n → AreItems m bytes → AreItems n bytes
at_count {bytes = bytes} e = subst (λ (k : ℕ). AreItems k bytes) e

pub items-taken : (n end : ℕ) (bytes rest : List ℕ) → IsBytes bytes → after_items n end bytes ≡ Some rest → TakesItems n bytes rest
unfolding after_items
items-taken zero end bytes rest fits h = record { front = []; are = ([], none); takes = takes bytes [] rest fits (Some-same h) }
items-taken (suc n) end bytes rest fits h =
    let x = bind-Some (item_from end bytes) _ rest h in
    let first = item-taken end bytes fits x.0 x.1 in
    let others = items-taken n end x.0.1 rest first.1.fits x.2 in
    record {
      front = x.0.0 ++ others.front;
      are = at_count (omega arith) (first.0.0 ++ others.are.0, Items-append first.0.1 others.are.1);
      takes = takes bytes (x.0.0 ++ others.front) rest fits (first.1.parts ∙ ap (λ (l : List ℕ). x.0.0 ++ l) others.takes.parts ∙ sym (append_assoc x.0.0 others.front rest));
    }

-- ---- taken again

module _ (end : ℕ) (front rest : List ℕ) where
  pub count-again : (n : ℕ) → IsPart front (array n) → n < 2 ^ 63 → count_from end (front ++ rest) ≡ Some (n, rest)
  unfolding count_from
  count-again n is few = rw (part_again 0 end front rest (array n) is (omega arith)) refl

  pub number-again : (n : ℕ) → IsPart front (uint n) → number_from end (front ++ rest) ≡ Some (n, rest)
  unfolding number_from
  number-again n is = rw (part_again 0 end front rest (uint n) is (omega arith)) refl

  pub link-again : (cid : List ℕ) → IsPart front (link cid) → link_from end (front ++ rest) ≡ Some (cid, rest)
  unfolding link_from
  link-again cid is = rw (part_again 0 end front rest (link cid) is (omega arith)) refl

  pub item-again : AreItems 1 front → length front < 2 ^ 63 → item_from end (front ++ rest) ≡ Some (front, rest)
  unfolding item_from
  item-again is room = rw (item_again end front rest is.0 room is.1) refl

pub items-again : (n end : ℕ) (front rest : List ℕ) → AreItems n front → length front < 2 ^ 63 → after_items n end (front ++ rest) ≡ Some rest
unfolding after_items
items-again zero end front rest are room = let e = Items-none are.1 in rw e.0 refl
items-again (suc n) end front rest are room =
    let s = Items-split 1 n (suc n) (omega arith) are.1 in
    let len : length front ≡ length s.front + length s.rest = ap length s.parts ∙ length-append s.front s.rest in
    let first : item_from end (s.front ++ (s.rest ++ rest)) ≡ Some (s.front, s.rest ++ rest) = item-again end s.front (s.rest ++ rest) (s.before, s.first) (omega arith) in
    let regrouped : front ++ rest ≡ s.front ++ (s.rest ++ rest) = ap (λ (l : List ℕ). l ++ rest) s.parts ∙ append_assoc s.front s.rest rest in
    ap (after_items (suc n) end) regrouped ∙ rw first (items-again n end s.rest rest (s.after, s.others) (omega arith))
