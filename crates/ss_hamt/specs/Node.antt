-- Nodes of a HAMT, a map from byte strings kept as a tree, after Filecoin's form: the array of a bitfield and of pointers. A pointer is the
-- link of a child or a bucket, an array of one or more entries, each the array of a key and a value. `end` is the length of the whole input.
use Rattle.std.specs.{Prelude.{ℕ, ◌==◌, ◌&&◌, nat_lt, nat_eq, if◌then◌else◌, List, [], ◌∷◌, length, Option, Some, None, option_map, option_copied}, Option.option_or, Cmp.Lexicographic.pointwise, Prelude.count_ones}
use Rattle.ss_cbor.specs.{Options.{◌>>=◌}, Reading.{count_from, link_from, blob_from}}
use Rattle.ss_chain.specs.HeaderReading.{item_from}
use Rattle.ss_node.specs.Rows.{array_from}
use Rattle.ss_hamt.specs.Slots.{is_bitfield, bits_of, at_slot}
use Rattle.ss_hamt.specs.declared.found.Found.{Found}
use Rattle.ss_hamt.specs.declared.pointer.Entry.{Entry}

pub data Pointer : Type 0 where
  link : List ℕ → Pointer
  bucket : List (List ℕ × List ℕ) → Pointer

-- which slots are taken, and for each of these, in order, its pointer
pub record Node : Type 0 where
  pub bits : ℕ
  pub pointers : List Pointer

-- a key and its value, the bytes of any item
unfoldable pub entry_from : ℕ → List ℕ → Option ((List ℕ × List ℕ) × List ℕ)
entry_from end bytes = do
  parts ← count_from end bytes
  key ← blob_from end parts.1
  value ← item_from end key.1
  if parts.0 == 2 then Some ((key.0, value.0), value.1) else None

unfoldable pub bucket_from : ℕ → List ℕ → Option (Pointer × List ℕ)
bucket_from end bytes = do
  entries ← array_from entry_from end bytes
  if nat_lt 0 (length entries.0) then Some (bucket entries.0, entries.1) else None

unfoldable pub pointer_from : ℕ → List ℕ → Option (Pointer × List ℕ)
pointer_from end bytes = option_or (option_map (λ x. (link x.0, x.1)) (link_from end bytes)) (bucket_from end bytes)

-- the node that the bytes are, to their end
unfoldable pub node_from : ℕ → List ℕ → Option Node
node_from end bytes = do
  parts ← count_from end bytes
  field ← blob_from end parts.1
  pointers ← array_from pointer_from end field.1
  if (parts.0 == 2) && is_bitfield field.0 && (length pointers.0 == count_ones (bits_of field.0)) && (length pointers.1 == 0)
      then Some (record { bits = bits_of field.0; pointers = pointers.0 }) else None

-- the node that a block is
abbrev pub node_in : List ℕ → Option Node
node_in block = node_from (length block) block

-- ---- what a node has for a key

-- the value of the first entry with a key
abbrev pub value_of : List ℕ → List (List ℕ × List ℕ) → Option (List ℕ)
value_of key [] = None
value_of key (entry ∷ entries) = if pointwise nat_eq key entry.0 then Some entry.1 else value_of key entries

abbrev pub found_by : List ℕ → Pointer → Found
found_by key (link child) = Found.Child child
found_by key (bucket entries) = Found.Value (value_of key entries)

abbrev pub found_or_none : Option Found → Found
found_or_none (Some found) = found
found_or_none None = Found.Value None

-- the child or the value that a node has at a slot for a key
abbrev pub found_at : List ℕ → ℕ → Node → Found
found_at key slot node = found_or_none (option_map (found_by key) (at_slot node.bits node.pointers slot))

-- the same as it was read
abbrev pub found_of : Entry → Found
found_of (Entry.Child child) = Found.Child child
found_of (Entry.Value value) = Found.Value (option_copied value)
