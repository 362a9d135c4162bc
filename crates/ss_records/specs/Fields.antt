-- The fields of a record's body from left to right, and the first that does not fit. A field is its value
-- and the bytes after it; or, where there is a fault, how many bytes are left from it on: all from the
-- field on where it does not fit, and none where the body ends early or has bytes too many.
use Rattle.std.specs.{Prelude.{ℕ, zero, suc, ◌-◌, ◌^◌, nat_lt, ◌==◌, ◌||◌, if◌then◌else◌, List, [], ◌∷◌, length, take, drop, Result, Ok, Err, ◌≡◌}, Int.{Width, w8, w16, w32, w64, byte_len, from_be_bytes}}
use Rattle.ss_cid.specs.{Cid.{cid_len, hash_of}, declared.fault.CidFault.CidFault, Steps.{◌>>=◌}}
use Rattle.ss_records.specs.{declared.fields.Allowed.Allowed, declared.record.Mode.Mode, declared.record.Record.Record, declared.fault.Fault.Fault, declared.fault.Misfit.Misfit, declared.fault.RecordFault.RecordFault}

-- a reader's answer, seen by `view`, is what the bytes say
abbrev pub Reads : {X Y : Type 0} → (X → Y) → Result X Misfit → Result Y ℕ → Type 0
Reads view (Ok x) read = read ≡ Ok (view x)
Reads view (Err e) read = read ≡ Err e.left

-- a reader met this fault of the bytes, or found no memory
abbrev pub Fails : {Y : Type 0} → Fault → Result Y ℕ → Type 0
Fails (Fault.Bad e) read = read ≡ Err e.left
Fails Fault.NoMemory read = Unit {0}

-- a reader's answer, seen by `view`, is what the bytes say, unless it found no memory
abbrev pub Gives : {X Y : Type 0} → (X → Y) → Result X Fault → Result Y ℕ → Type 0
Gives view (Ok x) read = read ≡ Ok (view x)
Gives view (Err e) read = Fails e read

-- an answer is what the bytes say, or the offset of their fault, unless memory ran out
abbrev pub Answers : {X : Type 0} → Result X RecordFault → Result X ℕ → Type 0
Answers (Ok x) read = read ≡ Ok x
Answers (Err (RecordFault.BadRecord at)) read = read ≡ Err at
Answers (Err RecordFault.NoMemory) read = Unit {0}

-- so many bytes
unfoldable pub bytes_at : ℕ → List ℕ → Result (List ℕ × List ℕ) ℕ
bytes_at n bytes = if nat_lt (length bytes) n then Err 0 else Ok (take n bytes, drop n bytes)

-- the number that `bytes` begin with, where it is from low to high
abbrev pub within : ℕ → ℕ → List ℕ → ℕ × List ℕ → Result (ℕ × List ℕ) ℕ
within low high bytes field =
    if nat_lt field.0 low || nat_lt high field.0 then Err (length bytes) else Ok field

-- a number from low to high
unfoldable pub number_at : Width → ℕ → ℕ → List ℕ → Result (ℕ × List ℕ) ℕ
number_at w low high bytes = do
  field ← bytes_at (byte_len w) bytes
  within low high bytes (from_be_bytes w field.0, field.1)

-- a CID by its length, or its fault; one that is cut short ends the body early
abbrev pub cid_taken : List ℕ → Result ℕ CidFault → Result (List ℕ × List ℕ) ℕ
cid_taken bytes (Ok n) = Ok (take n bytes, drop n bytes)
cid_taken bytes (Err (CidFault.Short at)) = Err 0
cid_taken bytes (Err _) = Err (length bytes)

-- a CID
unfoldable pub cid_at : List ℕ → Result (List ℕ × List ℕ) ℕ
cid_at bytes = cid_taken bytes (cid_len bytes)

-- a CID that is not an identity CID
unfoldable pub stored_cid_at : List ℕ → Result (List ℕ × List ℕ) ℕ
stored_cid_at bytes = do
  cid ← cid_at bytes
  if hash_of cid.0 == 0 then Err (length bytes) else Ok cid

-- a CID of those that are allowed
abbrev pub allowed_cid_at : Allowed → List ℕ → Result (List ℕ × List ℕ) ℕ
allowed_cid_at Allowed.Any = cid_at
allowed_cid_at Allowed.Stored = stored_cid_at

-- a block, which has at most 8,388,608 bytes with its CID
unfoldable pub block_at : List ℕ → Result ((List ℕ × List ℕ) × List ℕ) ℕ
block_at bytes = do
  cid ← stored_cid_at bytes
  len ← number_at w32 0 (8388608 - length cid.0) cid.1
  content ← bytes_at len.0 len.1
  Ok ((cid.0, content.0), content.1)

-- so many fields of one kind
unfoldable pub items_at : {X : Type 0} → (List ℕ → Result (X × List ℕ) ℕ) → ℕ → List ℕ → Result (List X × List ℕ) ℕ
items_at item zero bytes = Ok ([], bytes)
items_at item (suc n) bytes = do
  first ← item bytes
  others ← items_at item n first.1
  Ok (first.0 ∷ others.0, others.1)

-- the value, where nothing follows the last field
abbrev pub ended : {X : Type 0} → X → List ℕ → Result X ℕ
ended x [] = Ok x
ended x (b ∷ bytes) = Err 0

-- so many fields of one kind, and nothing after them
unfoldable pub items_of : {X : Type 0} → (List ℕ → Result (X × List ℕ) ℕ) → ℕ → List ℕ → Result (List X) ℕ
items_of item n bytes = do
  items ← items_at item n bytes
  ended items.0 items.1

-- a list after its count, which is from 1 to `most`
unfoldable pub list_of : {X : Type 0} → Width → ℕ → (List ℕ → Result (X × List ℕ) ℕ) → List ℕ → Result (List X) ℕ
list_of w most item bytes = do
  count ← number_at w 1 most bytes
  items_of item count.0 count.1

-- one number of at least so much, and nothing after it
unfoldable pub number_of : ℕ → List ℕ → Result ℕ ℕ
number_of low bytes = do
  number ← number_at w64 low (2 ^ 64 - 1) bytes
  ended number.0 number.1

abbrev pub mode_of : ℕ → Mode
mode_of n = if n == 0 then Mode.Discard else Mode.Universal

unfoldable pub config_of : List ℕ → Result Record ℕ
config_of bytes = do
  format ← number_at w8 1 1 bytes
  mode ← number_at w8 0 1 format.1
  depth ← number_at w64 0 (2 ^ 62) mode.1
  threshold ← number_at w64 1 (2 ^ 62) depth.1
  batch ← number_at w32 1 4096 threshold.1
  rows ← number_at w32 1 (2 ^ 32 - 1) batch.1
  limit ← number_at w64 65536 (2 ^ 40) rows.1
  ended (Record.Config (record { mode = mode_of mode.0; depth = depth.0; threshold = threshold.0; batch = batch.0; rows = rows.0; limit = limit.0 })) limit.1

unfoldable pub head_of : List ℕ → Result Record ℕ
head_of bytes = do
  count ← number_at w8 1 64 bytes
  height ← number_at w64 0 (2 ^ 63 - 1) count.1
  cids ← items_of cid_at count.0 height.1
  Ok (Record.Head height.0 cids)

unfoldable pub base_of : List ℕ → Result Record ℕ
base_of bytes = do
  base ← number_at w64 0 (2 ^ 63 - 1) bytes
  ended ← number_of 0 base.1
  Ok (Record.Base base.0 ended)

unfoldable pub start_of : List ℕ → Result Record ℕ
start_of bytes = do
  edge ← number_at w64 0 (2 ^ 64 - 1) bytes
  cids ← list_of w8 64 cid_at edge.1
  Ok (Record.Start edge.0 cids)

-- a record of what its fields hold
abbrev pub as_record : {X : Type 0} → (X → Record) → Result X ℕ → Result Record ℕ
as_record make fields = do
  held ← fields
  Ok (make held)

-- the record that a body spells
unfoldable pub record_of : List ℕ → Result Record ℕ
record_of [] = Err 0
record_of (kind ∷ fields) =
    if kind == 0x01 then config_of fields
    else if kind == 0x02 then as_record Record.Generation (number_of 1 fields)
    else if kind == 0x03 then as_record Record.Put (list_of w16 4096 block_at fields)
    else if kind == 0x04 then as_record Record.Dropped (list_of w16 4096 stored_cid_at fields)
    else if kind == 0x05 then head_of fields
    else if kind == 0x06 then base_of fields
    else if kind == 0x11 then start_of fields
    else if kind == 0x12 then as_record Record.Cold (list_of w16 4096 stored_cid_at fields)
    else if kind == 0x13 then as_record Record.Sealed (number_of 0 fields)
    else if kind == 0x14 then as_record Record.Copied (number_of 0 fields)
    else if kind == 0x15 then as_record Record.Purged (number_of 0 fields)
    else Err (suc (length fields))

-- the fault's offset in a body of so many bytes
abbrev pub placed : {X : Type 0} → ℕ → Result X ℕ → Result X ℕ
placed len (Ok x) = Ok x
placed len (Err left) = Err (len - left)

-- the record that a body spells, or the offset of its first fault
unfoldable pub read_record : List ℕ → Result Record ℕ
read_record body = placed (length body) (record_of body)
