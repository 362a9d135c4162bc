-- A block has no more links than bytes, nor more that are followed.
use Rattle.std.proofs.Common.{◌≡◌, ℕ, ◌+◌, ◌^◌, ◌<◌, ◌≤◌, Bool, true, false, cond, eqb, List, [], ◌∷◌, ◌++◌, length, filter, Option, Some, None, Result, Ok, Err, refl, sym, subst, arith, length-append}
use Rattle.std.specs.Prelude.{nat_le, ◌||◌, ◌==◌}
use Rattle.ss_cid.specs.Cid.{codec_of}
use Rattle.ss_cbor.specs.Fault.{scanned}
use Rattle.ss_cbor.specs.Reading.{or_none}
use Rattle.ss_cbor.specs.declared.fault.CborFault.{CborFault}
use Rattle.ss_cbor.specs.Item.{link, head}
use Rattle.ss_cbor.proofs.Numbers.{IsBytes}
use Rattle.ss_cbor.proofs.Parts.{IsPart-some}
use Rattle.ss_cbor.proofs.Rows.{Items-few}
use Rattle.ss_cbor.proofs.Scanned.{scanned-Ok}
use Rattle.ss_chain.specs.Header.{HeaderFields, IsHeader, item_links, links_in}
use Rattle.ss_chain.specs.HeaderReading.{header_of}
use Rattle.ss_chain.specs.Follows.{is_followed, only_if, header_links, links_by, followed}
use Rattle.ss_chain.proofs.LinkArrays.{array-is-item}
use Rattle.ss_chain.proofs.Headers.{header-exact}

kept : {A : Type 0} (b : Bool) (some : List A) (x : A) (xs : List A) → length some ≤ length xs → length (cond b (x ∷ some) some) ≤ length (x ∷ xs)
kept true some x xs h = omega arith
kept false some x xs h = omega arith

filter-few : {A : Type 0} (test : A → Bool) (xs : List A) → length (filter test xs) ≤ length xs
filter-few test [] = omega arith
filter-few test (x ∷ xs) = kept (test x) (filter test xs) x xs (filter-few test xs)

scanned-few : (bytes : List ℕ) (r : Result (List (List ℕ)) CborFault) → scanned bytes ≡ r → IsBytes bytes → length bytes < 2 ^ 63 → length (or_none r) ≤ length bytes
scanned-few bytes (Ok links) h fits room = (Items-few (scanned-Ok bytes fits room links h)).1
scanned-few bytes (Err fault) h fits room = omega arith

only_if-few : (b : Bool) (cid : List ℕ) → length (only_if b cid) ≤ 1
only_if-few true cid = omega arith
only_if-few false cid = omega arith

at_most : (a b c : ℕ) → a ≤ b → b ≤ c → a ≤ c
at_most a b c p q = omega arith

append-few : (a b c d : List (List ℕ)) → length b ≤ 1 → length c ≤ 1 → length d ≤ 1 → length (a ++ (b ++ (c ++ d))) ≤ length a + 3
append-few a b c d p q r =
    let len : length (a ++ (b ++ (c ++ d))) ≡ length a + (length b + (length c + length d)) = simp length-append refl in
    omega arith

behind-few : (front rest : List ℕ) (n : ℕ) → n ≤ length rest → n ≤ length (front ++ rest)
behind-few front rest n le = omega (arith, length-append front rest)

more-few : (front rest : List ℕ) (m n : ℕ) → m ≤ length front → n ≤ length rest → m + n ≤ length (front ++ rest)
more-few front rest m n p q = omega (arith, length-append front rest)

front-few : (front rest : List ℕ) (m : ℕ) → m ≤ length front → m ≤ length (front ++ rest)
front-few front rest m le = omega (arith, length-append front rest)

-- a header's links lie in its items
header-few : (edge : ℕ) (cid block : List ℕ) (h : HeaderFields) → IsHeader cid block h → length (header_links edge h) ≤ length block
header-few edge cid block h is =
    let within = nat_le edge h.height in
    let links = append-few h.parents (only_if (within || (h.height == 0)) h.state) (only_if within h.receipts) (only_if within h.messages)
    (only_if-few _ h.state) (only_if-few _ h.receipts) (only_if-few _ h.messages) in
    let parents = (Items-few (array-is-item is.parents h.parents is.has_parents)).1 in
    let messages = front-few is.messages is.aggregate_to_fee 1 (IsPart-some is.messages (link h.messages) is.has_messages) in
    let receipts = more-few is.receipts _ 1 1 (IsPart-some is.receipts (link h.receipts) is.has_receipts) messages in
    let state = more-few is.state _ 1 2 (IsPart-some is.state (link h.state) is.has_state) receipts in
    let others = behind-few is.weight _ 3 (behind-few is.height _ 3 state) in
    let all = more-few is.parents _ (length h.parents) 3 parents others in
    let bytes = behind-few (head 4 16) _ _ (behind-few is.miner_to_proof _ _ all) in
    subst (λ (b : List ℕ). length (header_links edge h) ≤ length b) (sym is.spelled) (at_most _ _ _ links bytes)

module _ (edge : ℕ) (cid block : List ℕ) (fits : IsBytes block) (room : length block < 2 ^ 63) where
  links-few : (b : Bool) → length (cond b (item_links block) []) ≤ length block
  unfolding item_links
  links-few true = scanned-few block (scanned block) refl fits room
  links-few false = omega arith

  by-few : (o : Option HeaderFields) → header_of cid block ≡ o → length (links_by edge o (links_in cid block)) ≤ length block
  unfolding links_in
  by-few None e = links-few (eqb (codec_of cid) 0x71)
  by-few (Some h) e = header-few edge cid block h ((header-exact cid block fits room (Some h) (sym e) h).0 refl)

  pub followed-few : length (followed edge cid block) ≤ length block
  unfolding followed
  followed-few =
      let all = by-few (header_of cid block) refl in
      let some = filter-few is_followed (links_by edge (header_of cid block) (links_in cid block)) in
      omega arith
