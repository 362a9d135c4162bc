-- The places of a Put's blocks, as they are read.
use Rattle.std.proofs.Common.{◌≡◌, ◌≢◌, ℕ, zero, suc, ◌+◌, ◌-◌, ◌^◌, List, [], ◌∷◌, ◌++◌, length, map, take, drop, Result, Ok, Err, refl, sym, ap, ap₂, ◌∙◌, arith, length-append}
use Rattle.std.specs.Int.{w16, w32}
use Rattle.std.proofs.lemmas.Bool.{eqb-true}
use Rattle.std.specs.Prelude.{IsTrue, ◌↔◌, ◌==◌}
use Rattle.ss_records.specs.declared.fault.RecordFault.{RecordFault}
use Rattle.ss_records.specs.declared.fault.RecordFault.TheVariants.{BadRecord}
use Rattle.ss_records.specs.declared.places.BlockPlace.{BlockPlace}
use Rattle.ss_records.specs.Record.{number, block, spelling}
use Rattle.ss_cid.specs.Steps.{◌>>=◌}
use Rattle.ss_records.specs.Fields.{block_at, items_at, items_of, list_of, ended, number_at, placed, read_record, record_of}
use Rattle.ss_records.proofs.Parts.{IsBytes, IsBytes-drop}
use Rattle.ss_records.proofs.Numbers.{number_at-Ok, length-number, wide16, wide32}
use Rattle.std.proofs.lemmas.List.{length-drop, append_assoc, drop_at, take_at}
use Rattle.std.specs.List.{flat_map}
use Rattle.ss_records.proofs.Blocks.{block_field}
use Rattle.ss_records.specs.Places.{block_then, blocks_from, places, places_of, bytes_in, ArePlaces, IsPut}
use Rattle.ss_records.specs.declared.record.Record.TheVariants.{Put}

-- nothing is left
pub from_nothing : (end : ℕ) → blocks_from end 0 [] ≡ []
unfolding blocks_from
from_nothing end = refl

-- something is left that should not be
pub from_more : (end n at : ℕ) (bytes : List ℕ) → n ≡ 0 → at ≡ end → blocks_from end n bytes ≢ [] → blocks_from end n bytes ≡ Err (BadRecord at) ∷ []
unfolding blocks_from
from_more end zero at [] none same some = absurd (some refl)
from_more end zero at (b ∷ bytes) none same some = rw same refl
from_more end (suc n) at bytes none same some = absurd (omega arith)

-- where nothing is left, no block is due and no byte stands there
pub from_empty : (end n : ℕ) (bytes : List ℕ) → blocks_from end n bytes ≡ [] → (n ≡ 0) × (bytes ≡ [])
unfolding blocks_from
from_empty end zero [] h = (refl, refl)
from_empty end zero (b ∷ bytes) h = absurd cc
from_empty end (suc n) bytes h = some (block_at bytes) h where
  some : (read : Result ((List ℕ × List ℕ) × List ℕ) ℕ) → block_then end (length bytes) (blocks_from end n) read ≡ [] → (suc n ≡ 0) × (bytes ≡ [])
  some (Ok found) h = absurd cc
  some (Err left) h = absurd cc

-- a block comes
pub from_Ok : (end n at len : ℕ) (bytes cid content rest : List ℕ) → n ≢ 0 → block_at bytes ≡ Ok ((cid, content), rest)
    → at ≡ end - length bytes + length cid + 4 → len ≡ length content
    → blocks_from end n bytes ≡ Ok (record { cid = cid; at = at; len = len }) ∷ blocks_from end (n - 1) rest
unfolding blocks_from
from_Ok end zero at len bytes cid content rest some h ea el = absurd (some refl)
from_Ok end (suc n) at len bytes cid content rest some h ea el =
    let fewer : suc n - 1 ≡ n = omega arith in
    ap (block_then end (length bytes) (blocks_from end n)) h ∙ rw (fewer, ea, el) refl

-- a fault comes
pub from_Err : (end n left : ℕ) (bytes : List ℕ) → n ≢ 0 → block_at bytes ≡ Err left → blocks_from end n bytes ≡ Err (BadRecord (end - left)) ∷ []
unfolding blocks_from
from_Err end zero left bytes some h = absurd (some refl)
from_Err end (suc n) left bytes some h = ap (block_then end (length bytes) (blocks_from end n)) h

-- with no block due, something is left where a byte is
pub done_at_end : (end n : ℕ) (bytes : List ℕ) → n ≡ 0 → IsTrue (length bytes == 0) ↔ (blocks_from end n bytes ≡ [])
unfolding blocks_from
done_at_end end zero [] none = (λ _. refl, λ _. refl)
done_at_end end zero (b ∷ bytes) none = (λ t. absurd (omega (arith, eqb-true (length (b ∷ bytes)) 0 t)), λ h. absurd cc)
done_at_end end (suc n) bytes none = absurd (omega arith)

-- a block is due
pub not_done : (end n : ℕ) (bytes : List ℕ) → n ≢ 0 → IsTrue (n == 0) ↔ (blocks_from end n bytes ≡ [])
not_done end n bytes some = (λ t. absurd (some (eqb-true n 0 t)), λ h. absurd (some (from_empty end n bytes h).0))

-- ---- all places

-- the items are the places of these blocks from a place on; or some places, and then the fault
abbrev pub ArePlaced : ℕ → ℕ → Result (List (List ℕ × List ℕ)) ℕ → List (Result BlockPlace RecordFault) → Type 0
ArePlaced end at (Ok blocks) items = items ≡ map Ok (places at blocks)
ArePlaced end at (Err left) items = (front : List BlockPlace) × (items ≡ map Ok front ++ Err (BadRecord (end - left)) ∷ [])

abbrev with_first : {X : Type 0} → X → Result (List X × List ℕ) ℕ → Result (List X × List ℕ) ℕ
with_first x read = read >>= λ items. Ok (x ∷ items.0, items.1)

abbrev all_of : {X : Type 0} → Result (List X × List ℕ) ℕ → Result (List X) ℕ
all_of read = read >>= λ items. ended items.0 items.1

all_of-first : {X : Type 0} (x : X) (read : Result (List X × List ℕ) ℕ) → all_of (with_first x read) ≡ (all_of read >>= λ others. Ok (x ∷ others))
all_of-first x (Ok (xs, [])) = refl
all_of-first x (Ok (xs, b ∷ bytes)) = refl
all_of-first x (Err e) = refl

-- items behind a first one
items_of-suc : {X : Type 0} (item : List ℕ → Result (X × List ℕ) ℕ) (n : ℕ) (bytes : List ℕ)
    → items_of item (suc n) bytes ≡ (item bytes >>= λ first. items_of item n first.1 >>= λ others. Ok (first.0 ∷ others))
unfolding items_of items_at
items_of-suc {X = X} item n bytes = behind (item bytes) where
  behind : (read : Result (X × List ℕ) ℕ)
      → all_of (read >>= λ first. with_first first.0 (items_at item n first.1)) ≡ (read >>= λ first. all_of (items_at item n first.1) >>= λ others. Ok (first.0 ∷ others))
  behind (Ok first) = all_of-first first.0 (items_at item n first.1)
  behind (Err e) = refl

-- a block in front of others
placed_next : (end at next : ℕ) (b : List ℕ × List ℕ) (place : BlockPlace) (read : Result (List (List ℕ × List ℕ)) ℕ) (items : List (Result BlockPlace RecordFault))
    → place ≡ record { cid = b.0; at = at + length b.0 + 4; len = length b.1 } → next ≡ at + length (block b)
    → ArePlaced end next read items → ArePlaced end at (read >>= λ others. Ok (b ∷ others)) (Ok place ∷ items)
placed_next end at next b place (Ok blocks) items e n placed = rw (e, placed, n) refl
placed_next end at next b place (Err left) items e n placed = (place ∷ placed.0, ap (λ rest. Ok place ∷ rest) placed.1)

-- one block due more
placed_more : (end at n : ℕ) (bytes : List ℕ) → IsBytes bytes → at + length bytes ≡ end
    → ((next : ℕ) (rest : List ℕ) → IsBytes rest → next + length rest ≡ end → ArePlaced end next (items_of block_at n rest) (blocks_from end n rest))
    → (read : Result ((List ℕ × List ℕ) × List ℕ) ℕ) → block_at bytes ≡ read
    → ArePlaced end at (read >>= λ first. items_of block_at n first.1 >>= λ others. Ok (first.0 ∷ others)) (block_then end (length bytes) (blocks_from end n) read)
placed_more end at n bytes small e others (Err left) h = ([], refl)
placed_more end at n bytes small e others (Ok found) h =
    let taken = block_field.takes bytes found.0 found.1 small h in
    let len : length bytes ≡ length (block found.0) + length found.1 = ap length taken.0.parts ∙ length-append (block found.0) found.1 in
    let start : end - length bytes + length found.0.0 + 4 ≡ at + length found.0.0 + 4 = omega arith in
    placed_next end at (at + length (block found.0)) found.0 _ (items_of block_at n found.1) (blocks_from end n found.1)
    (ap (λ (k : ℕ). record { cid = found.0.0; at = k; len = length found.0.1 }) start) refl
    (others (at + length (block found.0)) found.1 taken.0.rest_bytes (omega arith))

pub placed_all : (end at n : ℕ) (bytes : List ℕ) → IsBytes bytes → at + length bytes ≡ end → ArePlaced end at (items_of block_at n bytes) (blocks_from end n bytes)
unfolding items_of items_at blocks_from
placed_all end at zero [] small e = refl
placed_all end at zero (b ∷ bytes) small e = ([], ap (λ k. Err (BadRecord k) ∷ []) (omega arith))
placed_all end at (suc n) bytes small e =
    rw (items_of-suc block_at n bytes) (placed_more end at n bytes small e (λ next rest. placed_all end next n rest) (block_at bytes) refl)

-- the same of a whole body
placed_record : (end : ℕ) (read : Result (List (List ℕ × List ℕ)) ℕ) (items : List (Result BlockPlace RecordFault)) → ArePlaced end 3 read items
    → ArePlaces (placed end (read >>= λ blocks. Ok (Put blocks))) items
placed_record end (Ok blocks) items is = is
placed_record end (Err left) items is = is

-- the body of a Put: its count, and its blocks
read_put : (body fields : List ℕ) → body ≡ 3 ∷ fields → read_record body ≡ placed (suc (length fields)) (list_of w16 4096 block_at fields >>= λ blocks. Ok (Put blocks))
unfolding read_record record_of
read_put body fields e = ap read_record e

pub placed_put : (body fields rest : List ℕ) (end due : ℕ) → IsBytes body → body ≡ 3 ∷ fields → end ≡ length body → number_at w16 1 4096 fields ≡ Ok (due, rest)
    → ArePlaces (read_record body) (blocks_from end due rest)
unfolding list_of
placed_put body fields rest end due small e len h =
    let read = number_at-Ok w16 1 4096 fields due rest h in
    let tail : IsBytes fields = λ i. rw e at (small (suc i)) in
    let rest_bytes : IsBytes rest = rw (← read.rest_is) (IsBytes-drop 2 fields tail) in
    let size : end ≡ suc (length fields) = rw (len, e) refl in
    let items : list_of w16 4096 block_at fields ≡ items_of block_at due rest = rw h refl in
    rw (read_put body fields e, items, ← size)
    (placed_record end (items_of block_at due rest) (blocks_from end due rest)
    (placed_all end 3 due rest rest_bytes (omega (arith, read.there, ap length read.rest_is, length-drop 2 fields))))

pub placed_fault : (body fields : List ℕ) (left at : ℕ) → body ≡ 3 ∷ fields → number_at w16 1 4096 fields ≡ Err left → at ≡ length body - left
    → IsPut body × (read_record body ≡ Err at)
unfolding list_of
placed_fault body fields left at e h place =
    let fault : list_of w16 4096 block_at fields ≡ Err left = rw h refl in
    let len : length body ≡ suc (length fields) = ap length e in
    (rw e refl, rw (read_put body fields e, fault, place, len) refl)

-- ---- what lies at a place

content_at : (front cid width content rest : List ℕ) (at : ℕ) → at ≡ length front + length cid + 4 → length width ≡ 4
    → take (length content) (drop at (front ++ ((cid ++ (width ++ content)) ++ rest))) ≡ content
content_at front cid width content rest at e four =
    let before : List ℕ = front ++ (cid ++ width) in
    let regrouped : front ++ ((cid ++ (width ++ content)) ++ rest) ≡ before ++ (content ++ rest) = simp append_assoc refl in
    let size : length before ≡ at = omega (arith, length-append front (cid ++ width), length-append cid width) in
    rw (regrouped, drop_at before (content ++ rest) at size) (take_at content rest (length content) refl)

lie_from : (front : List ℕ) (blocks : List (List ℕ × List ℕ)) (at : ℕ) → at ≡ length front
    → map (λ place. (place.cid, bytes_in (front ++ flat_map block blocks) place)) (places at blocks) ≡ blocks
lie_from front [] at e = refl
lie_from front (b ∷ bs) at e =
    let here : bytes_in (front ++ flat_map block (b ∷ bs)) (record { cid = b.0; at = at + length b.0 + 4; len = length b.1 }) ≡ b.1 =
    content_at front b.0 (number w32 (length b.1)) b.1 (flat_map block bs) (at + length b.0 + 4) (omega arith) (length-number w32 (2 ^ 32) (length b.1) wide32) in
    let moved : front ++ flat_map block (b ∷ bs) ≡ (front ++ block b) ++ flat_map block bs = sym (append_assoc front (block b) (flat_map block bs)) in
    let others : map (λ place. (place.cid, bytes_in (front ++ flat_map block (b ∷ bs)) place)) (places (at + length (block b)) bs) ≡ bs =
    rw moved (lie_from (front ++ block b) bs (at + length (block b)) (omega (arith, length-append front (block b)))) in
    ap₂ (λ content more. (b.0, content) ∷ more) here others

-- the blocks of a Put are what lies at their places in its body
pub blocks_at_places : (blocks : List (List ℕ × List ℕ)) → map (λ place. (place.cid, bytes_in (spelling (Put blocks)) place)) (places_of (Put blocks)) ≡ blocks
unfolding spelling
blocks_at_places blocks =
    lie_from (3 ∷ number w16 (length blocks)) blocks 3 (ap suc (sym (length-number w16 (2 ^ 16) (length blocks) wide16)))
