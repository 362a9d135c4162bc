-- Where the blocks of a Put lie in its body.
use Rattle.std.specs.Prelude.{◌≡◌, ℕ, zero, suc, ◌+◌, ◌-◌, List, [], ◌∷◌, ◌++◌, length, map, take, drop, Result, Ok, Err}
use Rattle.ss_records.specs.{declared.fault.RecordFault.RecordFault, declared.places.{BlockPlace.BlockPlace, PutBlocks.PutBlocks}, declared.record.Record.Record, Record.block, Fields.block_at}

-- the places of blocks in a row, the first of which begins here in the body: a block stands after its CID and four bytes of length
abbrev pub places : ℕ → List (List ℕ × List ℕ) → List BlockPlace
places at [] = []
places at (b ∷ bs) = record { cid = b.0; at = at + length b.0 + 4; len = length b.1 } ∷ places (at + length (block b)) bs

-- the places of a record's blocks: a Put has them after its kind and their count
abbrev pub places_of : Record → List BlockPlace
places_of (Record.Put blocks) = places 3 blocks
places_of _ = []

-- the body is of the kind of a Put
abbrev pub IsPut : List ℕ → Type 0
IsPut body = take 1 body ≡ 0x03 ∷ []

-- the place of a block that so many bytes of a body of `end` bytes begin with, and then the others; or its fault
abbrev pub block_then : ℕ → ℕ → (List ℕ → List (Result BlockPlace RecordFault)) → Result ((List ℕ × List ℕ) × List ℕ) ℕ → List (Result BlockPlace RecordFault)
block_then end len others (Ok found) =
    Ok (record { cid = found.0.0; at = end - len + length found.0.0 + 4; len = length found.0.1 }) ∷ others found.1
block_then end len others (Err left) = Err (RecordFault.BadRecord (end - left)) ∷ []

-- what is read of the places of so many blocks, and of nothing after them, in a body of `end` bytes
unfoldable pub blocks_from : ℕ → ℕ → List ℕ → List (Result BlockPlace RecordFault)
blocks_from end zero [] = []
blocks_from end zero (b ∷ bytes) = Err (RecordFault.BadRecord end) ∷ []
blocks_from end (suc n) bytes = block_then end (length bytes) (blocks_from end n) (block_at bytes)

-- what an iterator has left
abbrev pub places_left : PutBlocks → List (Result BlockPlace RecordFault)
places_left blocks = blocks_from blocks.end blocks.due blocks.rest.now

-- the items are the places of the blocks of the record that is read; or some places, and then its fault
abbrev pub ArePlaces : Result Record ℕ → List (Result BlockPlace RecordFault) → Type 0
ArePlaces (Ok r) items = items ≡ map Ok (places_of r)
ArePlaces (Err at) items = (front : List BlockPlace) × (items ≡ map Ok front ++ Err (RecordFault.BadRecord at) ∷ [])

-- a refusal carries the offset of the body's fault
abbrev pub IsFaultOf : Result Record ℕ → RecordFault → Type 0
IsFaultOf read (RecordFault.BadRecord at) = read ≡ Err at
IsFaultOf read RecordFault.NoMemory = ⊥

-- the bytes of a body at a place
abbrev pub bytes_in : List ℕ → BlockPlace → List ℕ
bytes_in body place = take place.len (drop place.at body)
