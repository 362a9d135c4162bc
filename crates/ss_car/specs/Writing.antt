-- What a writer of CARs makes, and how a write ends.
use Rattle.std.specs.{Prelude.{ℕ, ◌+◌, ◌≤◌, List, [], ◌∷◌, ◌++◌, length, codes, Option, Result, Ok, Err}, List.flat_map, Io.KnownBytes.{Keeps, Appends}}
use Rattle.ss_cbor.specs.Item.{head}
use Rattle.ss_cid.specs.Cid.{IsCid}
use Rattle.ss_io.specs.Streams.{AppendsFront}
use Rattle.ss_car.specs.{Car.{framed, Section}, declared.fault.CarWriteFault.CarWriteFault}

-- ---- the bytes

-- a text and a link as DAG-CBOR has them
abbrev pub text_bytes : List ℕ → List ℕ
text_bytes text = head 3 (length text) ++ text

abbrev pub link_bytes : List ℕ → List ℕ
link_bytes cid = head 6 42 ++ (head 2 (length (0 ∷ cid)) ++ 0 ∷ cid)

-- The header of version 1 with these roots. The shorter key comes first, as the strict form of DAG-CBOR has it.
unfoldable pub header_bytes : List (List ℕ) → List ℕ
header_bytes roots =
    head 5 2 ++ (text_bytes (codes "roots") ++ (head 4 (length roots) ++ (flat_map link_bytes roots ++ (text_bytes (codes "version") ++ head 0 1))))

-- a section with this CID and these data
abbrev pub section_bytes : List ℕ × List ℕ → List ℕ
section_bytes (cid, block) = framed (cid ++ block)

-- a CID and data that a section has room for
abbrev pub SectionFits : List ℕ × List ℕ → Type 0
SectionFits (cid, block) = IsCid cid × (length (cid ++ block) ≤ 8388608)

-- the sections of such pairs, of which the first begins at this offset
abbrev pub sections_from : ℕ → List (List ℕ × List ℕ) → List Section
sections_from at [] = []
sections_from at ((cid, block) ∷ blocks) =
    record { offset = at; cid = cid; block = block } ∷ sections_from (at + length (framed (cid ++ block))) blocks

-- ---- how a write ends

-- all of the bytes were written; or a prefix of them, where the sink failed; or none, out of memory
abbrev pub Writes : Option (List ℕ) → Option (List ℕ) → List ℕ → Result (Unit {0}) CarWriteFault → Type 0
Writes old new bytes (Ok _) = Appends old new bytes
Writes old new bytes (Err CarWriteFault.WriteFault) = AppendsFront old new bytes
Writes old new bytes (Err CarWriteFault.NoMemory) = Keeps old new
