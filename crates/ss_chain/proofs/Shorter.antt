-- Each link of a block is shorter than the block, since its bytes lie in the block's.
use Rattle.std.proofs.Common.{◌≡◌, ℕ, ◌+◌, ◌^◌, ◌<◌, ◌≤◌, Bool, true, false, cond, eqb, List, [], ◌∷◌, ◌++◌, length, Contains, Option, Some, None, Result, Ok, Err, refl, sym, subst, inl, inr, drop, length-drop, arith, length-append}
use Rattle.std.specs.Prelude.{nat_le, ◌||◌, ◌==◌}
use Rattle.std.specs.List.{All}
use Rattle.std.proofs.lemmas.Bool.{cases_lt}
use Rattle.std.proofs.lemmas.List.{get_or_past}
use Rattle.std.proofs.lemmas.List.Elements.{All-nil, All-cons, All-get_or, All-weaker, All-contains, All-append, All-filter}
use Rattle.ss_cid.specs.Cid.{IsCid, codec_of, digest_of}
use Rattle.ss_cid.proofs.Grammar.{IsCid-length}
use Rattle.ss_cbor.specs.Fault.{scanned}
use Rattle.ss_cbor.specs.Reading.{or_none}
use Rattle.ss_cbor.specs.declared.fault.CborFault.{CborFault}
use Rattle.ss_cbor.specs.Item.{Part, uint, nint, blob, text, array, map, link, float, bool, null, head, links_of, IsPart, Items, none, more}
use Rattle.ss_cbor.proofs.Numbers.{IsBytes, IsBytes-drop}
use Rattle.ss_cbor.proofs.Scanned.{scanned-Ok}
use Rattle.ss_chain.specs.Header.{HeaderFields, IsHeader, item_links, links_in}
use Rattle.ss_chain.specs.HeaderReading.{header_of}
use Rattle.ss_chain.specs.Follows.{is_followed, only_if, header_links, links_by, followed}
use Rattle.ss_chain.proofs.LinkArrays.{array-is-item}
use Rattle.ss_chain.proofs.Headers.{header-exact}

-- the bytes are a CID that is shorter than this
pub record IsShorter (n : ℕ) (cid : List ℕ) : Type 0 where
  pub is_cid : IsCid cid
  pub shorter : length cid < n

-- and so is each of some
abbrev pub AreShorter : ℕ → List (List ℕ) → Type 0
AreShorter n cids = All (IsShorter n) cids

none-shorter : (n : ℕ) → AreShorter n []
none-shorter n = All-nil (IsShorter n)

one-shorter : (n : ℕ) (cid : List ℕ) → IsShorter n cid → AreShorter n (cid ∷ [])
one-shorter n cid lt = All-cons (IsShorter n) cid [] lt (none-shorter n)

less : (m n : ℕ) → m ≤ n → (cid : List ℕ) → IsShorter m cid → IsShorter n cid
less m n le cid s = record { is_cid = s.is_cid; shorter = omega (arith, s.shorter) }

longer : (m n : ℕ) → m ≤ n → (cids : List (List ℕ)) → AreShorter m cids → AreShorter n cids
longer m n le cids h = All-weaker (IsShorter m) (IsShorter n) (less m n le) cids h

link-shorter : (front cid : List ℕ) → IsPart front (link cid) → IsShorter (length front) cid
link-shorter front cid is =
    let len : length (head 6 42 ++ (head 2 (length (0 ∷ cid)) ++ 0 ∷ cid)) ≡ length (head 6 42) + (length (head 2 (length (0 ∷ cid))) + length (0 ∷ cid)) = simp length-append refl in
    record { is_cid = is.0; shorter = rw (is.1, len) (omega arith) }

part-shorter : (front : List ℕ) (part : Part) → IsPart front part → AreShorter (length front) (links_of part)
part-shorter front (link cid) is = one-shorter (length front) cid (link-shorter front cid is)
part-shorter front (uint n) is = none-shorter (length front)
part-shorter front (nint n) is = none-shorter (length front)
part-shorter front (blob b) is = none-shorter (length front)
part-shorter front (text b) is = none-shorter (length front)
part-shorter front (array n) is = none-shorter (length front)
part-shorter front (map n) is = none-shorter (length front)
part-shorter front float is = none-shorter (length front)
part-shorter front (bool b) is = none-shorter (length front)
part-shorter front null is = none-shorter (length front)

items-shorter : {n : ℕ} {bytes : List ℕ} {links : List (List ℕ)} → Items n bytes links → AreShorter (length bytes) links
items-shorter none = none-shorter 0
items-shorter (more part front inner rest below after is p r parts links) =
    let len : length (front ++ (inner ++ rest)) ≡ length front + (length inner + length rest) = simp length-append refl in
    let short = All-append (IsShorter (length (front ++ (inner ++ rest)))) (links_of part) (below ++ after)
    (longer (length front) _ (omega arith) (links_of part) (part-shorter front part is))
    (All-append (IsShorter (length (front ++ (inner ++ rest)))) below after
    (longer (length inner) _ (omega arith) below (items-shorter p))
    (longer (length rest) _ (omega arith) after (items-shorter r))) in
    rw (parts, links) short

scanned-shorter : (bytes : List ℕ) (r : Result (List (List ℕ)) CborFault) → scanned bytes ≡ r → IsBytes bytes → length bytes < 2 ^ 63 → AreShorter (length bytes) (or_none r)
scanned-shorter bytes (Ok links) h fits room = items-shorter (scanned-Ok bytes fits room links h)
scanned-shorter bytes (Err fault) h fits room = none-shorter (length bytes)

only_if-shorter : (n : ℕ) (b : Bool) (cid : List ℕ) → IsShorter n cid → AreShorter n (only_if b cid)
only_if-shorter n true cid lt = one-shorter n cid lt
only_if-shorter n false cid lt = none-shorter n

behind : (front rest : List ℕ) (n : ℕ) → n ≤ length rest → n ≤ length (front ++ rest)
behind front rest n le = omega (arith, length-append front rest)

ahead : (front rest : List ℕ) → length front ≤ length (front ++ rest)
ahead front rest = omega (arith, length-append front rest)

-- a header's links lie in its items
header-shorter : (edge : ℕ) (cid block : List ℕ) (h : HeaderFields) → IsHeader cid block h → AreShorter (length block) (header_links edge h)
header-shorter edge cid block h is =
    let due = nat_le edge h.height in
    let from-parents : (n : ℕ) (rest : List ℕ) → n ≤ length rest → n ≤ length (head 4 16 ++ (is.miner_to_proof ++ rest)) = λ n rest le. behind (head 4 16) _ n (behind is.miner_to_proof rest n le) in
    let from-state : (n : ℕ) (rest : List ℕ) → n ≤ length rest → n ≤ length (is.parents ++ (is.weight ++ (is.height ++ rest))) =
    λ n rest le. behind is.parents _ n (behind is.weight _ n (behind is.height rest n le)) in
    let whole = length (head 4 16 ++ (is.miner_to_proof ++ (is.parents ++ (is.weight ++ (is.height ++ (is.state ++ (is.receipts ++ (is.messages ++ is.aggregate_to_fee)))))))) in
    let parents : length is.parents ≤ whole = from-parents _ _ (ahead is.parents _) in
    let state : length is.state ≤ whole = from-parents _ _ (from-state _ _ (ahead is.state _)) in
    let receipts : length is.receipts ≤ whole = from-parents _ _ (from-state _ _ (behind is.state _ _ (ahead is.receipts _))) in
    let messages : length is.messages ≤ whole = from-parents _ _ (from-state _ _ (behind is.state _ _ (behind is.receipts _ _ (ahead is.messages _)))) in
    let short : AreShorter whole (header_links edge h) =
    All-append (IsShorter whole) h.parents _ (longer (length is.parents) whole parents h.parents (items-shorter (array-is-item is.parents h.parents is.has_parents)))
    (All-append (IsShorter whole) (only_if (due || (h.height == 0)) h.state) _ (only_if-shorter whole _ h.state (less _ whole state h.state (link-shorter is.state h.state is.has_state)))
    (All-append (IsShorter whole) (only_if due h.receipts) _ (only_if-shorter whole _ h.receipts (less _ whole receipts h.receipts (link-shorter is.receipts h.receipts is.has_receipts)))
    (only_if-shorter whole _ h.messages (less _ whole messages h.messages (link-shorter is.messages h.messages is.has_messages))))) in
    subst (λ (b : List ℕ). AreShorter (length b) (header_links edge h)) (sym is.spelled) short

module _ (edge : ℕ) (cid block : List ℕ) (fits : IsBytes block) (room : length block < 2 ^ 63) where
  links-shorter : (b : Bool) → AreShorter (length block) (cond b (item_links block) [])
  unfolding item_links
  links-shorter true = scanned-shorter block (scanned block) refl fits room
  links-shorter false = none-shorter (length block)

  by-shorter : (o : Option HeaderFields) → header_of cid block ≡ o → AreShorter (length block) (links_by edge o (links_in cid block))
  unfolding links_in
  by-shorter None e = links-shorter (eqb (codec_of cid) 0x71)
  by-shorter (Some h) e = header-shorter edge cid block h ((header-exact cid block fits room (Some h) (sym e) h).0 refl)

  pub followed-shorter : AreShorter (length block) (followed edge cid block)
  unfolding followed
  followed-shorter =
      All-filter is_followed (IsShorter (length block)) (links_by edge (header_of cid block) (links_in cid block)) (by-shorter (header_of cid block) refl)

-- a CID that is followed is a CID, and is shorter than its block
pub Contains-shorter : (n : ℕ) (cids : List (List ℕ)) (cid : List ℕ) → AreShorter n cids → Contains cids cid → IsShorter n cid
Contains-shorter n cids cid h at = All-contains (IsShorter n) cids cid h at

pub only-shorter : (n : ℕ) (cids : List (List ℕ)) → AreShorter n cids → All (λ (cid : List ℕ). length cid < n) cids
only-shorter n cids h = All-weaker (IsShorter n) (λ (cid : List ℕ). length cid < n) (λ cid s. s.shorter) cids h

-- ---- of an identity CID

as-bytes : (bytes : List ℕ) → All (λ (b : ℕ). b < 256) bytes → IsBytes bytes
as-bytes bytes small i =
    elim (cases_lt i (length bytes)) [
      | inl lt ↦ All-get_or (λ (b : ℕ). b < 256) bytes i 0 lt small
      | inr le ↦ rw (get_or_past bytes i 0 le) (omega arith)
    ]

drop-short : (n : ℕ) (xs : List ℕ) → length (drop n xs) ≤ length xs
drop-short n xs = omega (arith, length-drop n xs)

digest-bytes : (cid : List ℕ) → IsBytes cid → IsBytes (digest_of cid) × (length (digest_of cid) ≤ length cid)
unfolding digest_of
digest-bytes cid fits = (IsBytes-drop _ cid fits, drop-short _ cid)

-- what the block inside a CID is followed to is shorter than the CID
pub inside-shorter : (edge : ℕ) (cid : List ℕ) → IsCid cid → AreShorter (length cid) (followed edge cid (digest_of cid))
inside-shorter edge cid is =
    let digest = digest-bytes cid (as-bytes cid is.bytes) in
    longer (length (digest_of cid)) (length cid) digest.1 (followed edge cid (digest_of cid)) (followed-shorter edge cid (digest_of cid) digest.0 (omega (arith, (IsCid-length cid is).1)))
