-- Reading a header from left to right: the fields, or nothing of a block that is none. `end` is the length of the whole block.
use Rattle.std.specs.{Prelude.{ℕ, zero, suc, ◌^◌, ◌==◌, ◌&&◌, nat_lt, if◌then◌else◌, Bool, true, List, length, Option, Some, None}, Result.result_ok}
use Rattle.ss_cid.specs.Cid.{codec_of}
use Rattle.ss_cbor.specs.{Fault.item_at, Reading.{count_from, number_from, link_from}}
use Rattle.ss_chain.specs.{Header.{HeaderFields, item_links}, Steps.{◌>>=◌, passes}}

-- the bytes of the item at the front, and what follows it
unfoldable pub item_from : ℕ → List ℕ → Option (List ℕ × List ℕ)
item_from end bytes = result_ok (item_at end bytes)

-- what follows so many items
unfoldable pub after_items : ℕ → ℕ → List ℕ → Option (List ℕ)
after_items zero end bytes = Some bytes
after_items (suc n) end bytes = item_from end bytes >>= λ item. after_items n end item.1

-- whether so many links come first
unfoldable pub leads_with_links : ℕ → ℕ → List ℕ → Bool
leads_with_links zero end bytes = true
leads_with_links (suc n) end bytes = passes (λ found. leads_with_links n end found.1) (link_from end bytes)

-- whether an item is an array of links alone
unfoldable pub has_only_links : List ℕ → Bool
has_only_links item = passes (λ count. leads_with_links count.0 (length item) count.1) (count_from (length item) item)

-- the fields of a header from its sixteen items
unfoldable pub fields_from : ℕ → List ℕ → Option HeaderFields
fields_from end bytes = do
  proofs ← after_items 5 end bytes
  parents ← item_from end proofs
  weight ← after_items 1 end parents.1
  height ← number_from end weight
  state ← link_from end height.1
  receipts ← link_from end state.1
  messages ← link_from end receipts.1
  rest ← after_items 5 end messages.1
  if (length rest == 0) && nat_lt height.0 (2 ^ 63) && has_only_links parents.0
      then Some (record { height = height.0; parents = item_links parents.0; state = state.0; receipts = receipts.0; messages = messages.0 })
      else None

-- the fields of a block of dag-cbor, if it is a header
unfoldable pub header_in : ℕ → List ℕ → Option HeaderFields
header_in end block = do
  items ← count_from end block
  if items.0 == 16 then fields_from end items.1 else None

-- the fields of a block, if it is a header: the one value of which `IsHeader` holds
unfoldable pub header_of : List ℕ → List ℕ → Option HeaderFields
header_of cid block = if codec_of cid == 0x71 then header_in (length block) block else None
