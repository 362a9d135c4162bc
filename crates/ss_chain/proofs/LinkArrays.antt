-- Arrays of links alone.
use Rattle.std.proofs.Common.{◌≡◌, ℕ, zero, suc, ◌+◌, ◌^◌, ◌<◌, true, List, [], ◌∷◌, ◌++◌, map, length, Some, refl, sym, ap, subst, ◌∙◌, append_assoc, zero-add, add-zero, arith, length-append}
use Rattle.std.specs.List.{flat_map}
use Rattle.std.proofs.lemmas.List.{append-nil}
use Rattle.std.proofs.lemmas.List.Concat.{flat_map-cons}
use Rattle.ss_cbor.specs.Item.{Part, array, link, links_of, IsPart, IsItem, AreParts, Closes}
use Rattle.ss_cbor.proofs.Numbers.{IsBytes}
use Rattle.ss_cbor.proofs.Rows.{Items-few}
use Rattle.ss_cbor.proofs.Readings.{one_reading, closed_items}
use Rattle.ss_cbor.proofs.Scanned.{Ok-scanned}
use Rattle.ss_chain.specs.Header.{AreItems, item_links}
use Rattle.ss_cbor.specs.Reading.{count_from, link_from}
use Rattle.ss_chain.specs.HeaderReading.{leads_with_links, has_only_links}
use Rattle.ss_chain.proofs.Steps.{passes-is}
use Rattle.ss_chain.proofs.Fronts.{count-taken, link-taken, count-again, link-again}

-- the parts of an array of links
abbrev pub array_of : List (List ℕ) → List Part
array_of cids = array (length cids) ∷ map link cids

links-close : (cids : List (List ℕ)) → Closes (length cids) (map link cids)
links-close [] = tt
links-close (c ∷ cids) = subst (λ (n : ℕ). Closes n (map link cids)) (sym (zero-add (length cids))) (links-close cids)

array-closes : (cids : List (List ℕ)) → Closes 1 (array_of cids)
array-closes cids = subst (λ (n : ℕ). Closes n (map link cids)) (sym (add-zero (length cids))) (links-close cids)

links-flat : (cids : List (List ℕ)) → flat_map links_of (map link cids) ≡ cids
links-flat [] = refl
links-flat (c ∷ cids) = flat_map-cons links_of (link c) (map link cids) ∙ ap (λ (l : List (List ℕ)). c ∷ l) (links-flat cids)

array-flat : (cids : List (List ℕ)) → flat_map links_of (array_of cids) ≡ cids
array-flat cids = flat_map-cons links_of (array (length cids)) (map link cids) ∙ links-flat cids

-- an array of links is an item that has these links
pub array-is-item : (item : List ℕ) (cids : List (List ℕ)) → AreParts item (array_of cids) → IsItem item cids
array-is-item item cids parts = subst (λ (l : List (List ℕ)). IsItem item l) (array-flat cids) (closed_items 1 item (array_of cids) parts (array-closes cids))

pub links-are : (item : List ℕ) (links : List (List ℕ)) → IsBytes item → length item < 2 ^ 63 → IsItem item links → item_links item ≡ links
unfolding item_links
links-are item links fits room is = rw (Ok-scanned item fits room links is) refl

-- ---- read so

-- the links that come first
record TakesLinks (n : ℕ) (bytes : List ℕ) : Type 0 where
  pub cids : List (List ℕ)
  pub front : List ℕ
  pub rest : List ℕ
  pub count : n ≡ length cids
  pub are : AreParts front (map link cids)
  pub parts : bytes ≡ front ++ rest

links-taken : (n end : ℕ) (bytes : List ℕ) → IsBytes bytes → leads_with_links n end bytes ≡ true → TakesLinks n bytes
unfolding leads_with_links
links-taken zero end bytes fits h = record { cids = []; front = []; rest = bytes; count = refl; are = refl; parts = refl }
links-taken (suc n) end bytes fits h =
    let x = passes-is _ (link_from end bytes) h in
    let first = link-taken end bytes fits x.0 x.1 in
    let others = links-taken n end x.0.1 first.takes.fits x.2 in
    record {
      cids = x.0.0 ∷ others.cids;
      front = first.front ++ others.front;
      rest = others.rest;
      count = ap suc others.count;
      are = (first.front, others.front, first.is, others.are, refl);
      parts = first.takes.parts ∙ ap (λ (l : List ℕ). first.front ++ l) others.parts ∙ sym (append_assoc first.front others.front others.rest);
    }

-- an item that leads with as many links as it is to hold is the array of these links
pub only-links : (item : List ℕ) → IsBytes item → length item < 2 ^ 63 → AreItems 1 item → has_only_links item ≡ true → AreParts item (array_of (item_links item))
unfolding has_only_links
only-links item fits room is h =
    let x = passes-is _ (count_from (length item) item) h in
    let first = count-taken (length item) item fits x.0 x.1 in
    let row = links-taken x.0.0 (length item) x.0.1 first.takes.fits x.2 in
    let front = first.front ++ row.front in
    let head_is : IsPart first.front (array (length row.cids)) = subst (λ (n : ℕ). IsPart first.front (array n)) row.count first.is in
    let parts : AreParts front (array_of row.cids) = (first.front, row.front, head_is, row.are, refl) in
    let split : item ≡ front ++ row.rest = first.takes.parts ∙ ap (λ (l : List ℕ). first.front ++ l) row.parts ∙ sym (append_assoc first.front row.front row.rest) in
    let len : length item ≡ length front + length row.rest = ap length split ∙ length-append front row.rest in
    let one = one_reading item front [] row.rest is.0 row.cids room (omega arith) is.1 (array-is-item front row.cids parts) (append-nil item ∙ split) in
    let whole : AreParts item (array_of row.cids) = subst (λ (b : List ℕ). AreParts b (array_of row.cids)) (sym one.0) parts in
    subst (λ (l : List (List ℕ)). AreParts item (array_of l)) (sym (links-are item row.cids fits room (array-is-item item row.cids whole))) whole

-- ---- read again

links-again : (cids : List (List ℕ)) (end : ℕ) (bytes : List ℕ) → AreParts bytes (map link cids) → leads_with_links (length cids) end bytes ≡ true
unfolding leads_with_links
links-again [] end bytes parts = refl
links-again (c ∷ cids) end bytes (front, rest, is, others, split) =
    let first : link_from end bytes ≡ Some (c, rest) = ap (link_from end) split ∙ link-again end front rest c is in
    rw first (links-again cids end rest others)

pub only-links-again : (item : List ℕ) (cids : List (List ℕ)) → length item < 2 ^ 63 → AreParts item (array_of cids) → has_only_links item ≡ true
unfolding has_only_links
only-links-again item cids room (front, rest, is, others, split) =
    let few = Items-few (array-is-item item cids (front, rest, is, others, split)) in
    let first : count_from (length item) item ≡ Some (length cids, rest) = ap (count_from (length item)) split ∙ count-again (length item) front rest (length cids) is (omega (arith, few.1)) in
    rw first (links-again cids (length item) rest others)
