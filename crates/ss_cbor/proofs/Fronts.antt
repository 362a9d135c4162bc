-- What stands at the front of some bytes: one part, or one item.
use Rattle.std.proofs.Common.{◌≡◌, inl, inr, ℕ, zero, suc, ◌+◌, ◌-◌, ◌^◌, ◌<◌, List, ◌++◌, length, take, All, Ok, Err, refl, sym, ap, subst, ◌∙◌, arith, length-append}
use Rattle.std.proofs.lemmas.List.{take_at}
use Rattle.ss_cid.proofs.Chains.{bind-Ok, Ok-same}
use Rattle.ss_cid.specs.Cid.{IsCid}
use Rattle.ss_cbor.specs.Item.{Part, uint, nint, blob, text, array, map, link, float, bool, null, links_of, IsPart, IsItem}
use Rattle.ss_cbor.specs.Reading.{part_at}
use Rattle.ss_cbor.specs.Fault.{FirstFault, walk, items_at, rest_at, item_at}
use Rattle.ss_cbor.specs.declared.fault.CborFault.{CborFault}
use Rattle.ss_cbor.proofs.Numbers.{IsBytes}
use Rattle.ss_cbor.proofs.Parts.{part_takes}
use Rattle.ss_cbor.proofs.Walk.{bind-Err, TakesItems, walk_takes, walk_again, walk_faults}

-- ---- one part

pub links_are_CIDs : (front : List ℕ) (part : Part) → IsPart front part → All IsCid (links_of part)
links_are_CIDs front (link cid) is zero d lt = is.0
links_are_CIDs front (link cid) is (suc k) d lt = absurd (omega arith)
links_are_CIDs front (uint n) is k d lt = absurd (omega arith)
links_are_CIDs front (nint n) is k d lt = absurd (omega arith)
links_are_CIDs front (blob b) is k d lt = absurd (omega arith)
links_are_CIDs front (text b) is k d lt = absurd (omega arith)
links_are_CIDs front (array n) is k d lt = absurd (omega arith)
links_are_CIDs front (map n) is k d lt = absurd (omega arith)
links_are_CIDs front float is k d lt = absurd (omega arith)
links_are_CIDs front (bool b) is k d lt = absurd (omega arith)
links_are_CIDs front null is k d lt = absurd (omega arith)

module _ (end : ℕ) (bytes : List ℕ) (fits : IsBytes bytes) where
  pub part_CIDs : (part : Part) (rest : List ℕ) → part_at 0 end bytes ≡ Ok (part, rest) → All IsCid (links_of part)
  part_CIDs part rest h =
      let t = part_takes 0 end bytes (part, rest) (omega arith) fits h in
      links_are_CIDs t.front part t.is

  pub part_spelled : (part : Part) (rest : List ℕ) → part_at 0 end bytes ≡ Ok (part, rest) → (front : List ℕ) × IsPart front part × (bytes ≡ front ++ rest)
  part_spelled part rest h =
      let t = part_takes 0 end bytes (part, rest) (omega arith) fits h in
      (t.front, t.is, t.takes.parts)

  -- ---- one item

  items_front : (rest : List ℕ) → rest_at 1 end bytes ≡ Ok rest → (links : List (List ℕ)) × TakesItems 1 bytes (links, rest)
  unfolding rest_at items_at
  items_front rest h =
      let x = bind-Ok (walk (length bytes) 1 end bytes) (λ x. Ok x.1) rest h in
      let t = walk_takes (length bytes) 1 end bytes x.0 (omega arith) fits x.1 in
      (x.0.0, subst (λ (r : List ℕ). TakesItems 1 bytes (x.0.0, r)) (Ok-same x.2) t)

  -- the bytes that were passed are the item
  pub item_spelled : (rest : List ℕ) → rest_at 1 end bytes ≡ Ok rest →
      (links : List (List ℕ)) × IsItem (take (length bytes - length rest) bytes) links × (bytes ≡ take (length bytes - length rest) bytes ++ rest)
  item_spelled rest h =
      let x = items_front rest h in
      let t = x.1 in
      let len : length bytes ≡ length t.front + length rest = ap length t.takes.parts ∙ length-append t.front rest in
      let front : take (length bytes - length rest) bytes ≡ t.front = ap (take (length bytes - length rest)) t.takes.parts ∙ take_at t.front rest (length bytes - length rest) (omega arith) in
      (x.0, subst (λ (b : List ℕ). IsItem b x.0) (sym front) t.items, t.takes.parts ∙ ap (λ (l : List ℕ). l ++ rest) (sym front))

  pub item_refused : (fault : CborFault) → rest_at 1 end bytes ≡ Err fault → FirstFault end 1 bytes fault
  unfolding rest_at items_at
  item_refused fault h =
      elim (bind-Err (walk (length bytes) 1 end bytes) (λ x. Ok x.1) fault h) [
        | inl e ↦ walk_faults (length bytes) 1 end bytes fault (omega arith) fits (omega arith) e
        | inr x ↦ absurd (cc (x.2))
      ]

  pub item_read : (rest : List ℕ) → rest_at 1 end bytes ≡ Ok rest → item_at end bytes ≡ Ok (take (length bytes - length rest) bytes, rest)
  unfolding item_at
  item_read rest h = rw h refl

  pub item_fault : (fault : CborFault) → rest_at 1 end bytes ≡ Err fault → item_at end bytes ≡ Err fault
  unfolding item_at
  item_fault fault h = rw h refl

-- an item is passed, whatever follows it
pub item_again : (end : ℕ) (item rest : List ℕ) (links : List (List ℕ)) → length item < 2 ^ 63 → IsItem item links → item_at end (item ++ rest) ≡ Ok (item, rest)
unfolding item_at rest_at items_at
item_again end item rest links room h =
    let len : length (item ++ rest) ≡ length item + length rest = length-append item rest in
    let reads : walk (length (item ++ rest)) 1 end (item ++ rest) ≡ Ok (links, rest) = walk_again (length (item ++ rest)) 1 end item rest links (omega arith) room h in
    let front : take (length (item ++ rest) - length rest) (item ++ rest) ≡ item = take_at item rest (length (item ++ rest) - length rest) (omega arith) in
    rw (reads, front) refl
