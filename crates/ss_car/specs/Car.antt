-- CARs of version 1, by the IPLD specification CARv1: a length and a header, and then sections up to the end, each a length
-- and then a CID and the data of a block. A length is an unsigned varint of what follows it. The header is one item of
-- DAG-CBOR, a map with exactly the keys `roots` and `version`. That there may be no root, that the keys come in either
-- order and the limits on the lengths are this project's own.
use Rattle.std.specs.Prelude.{◌≡◌, ◌⊎◌, ℕ, ◌+◌, ◌<◌, ◌≤◌, ◌^◌, List, [], ◌∷◌, ◌++◌, map, length, codes, Option, Some, None, Err}
use Rattle.ss_cid.specs.{Cid.{IsCid, cid_at}, Varint.{varint, varint_at}, declared.fault.CidFault.CidFault}
use Rattle.ss_cbor.specs.Item.{AreParts}
use Rattle.ss_car.specs.{declared.fault.CarFault.CarFault, declared.fault.CarRefusal.CarRefusal}
use Rattle.ss_cbor.specs.Item as item

-- ---- the forms

-- the two pairs of the header's map, each a key and its value
abbrev pub roots_pair : List (List ℕ) → List item.Part
roots_pair roots = item.text (codes "roots") ∷ (item.array (length roots) ∷ map item.link roots)

abbrev pub version_pair : ℕ → List item.Part
version_pair version = item.text (codes "version") ∷ (item.uint version ∷ [])

-- the bytes are a header with these roots and this version
abbrev pub IsHeader : List ℕ → List (List ℕ) → ℕ → Type 0
IsHeader bytes roots version =
    AreParts bytes (item.map 2 ∷ (roots_pair roots ++ version_pair version))
    ⊎ AreParts bytes (item.map 2 ∷ (version_pair version ++ roots_pair roots))

-- a length, and then as many bytes
abbrev pub framed : List ℕ → List ℕ
framed body = varint (length body) ++ body

-- the bytes are the beginning of a CAR with these roots
pub record IsStart (bytes : List ℕ) (roots : List (List ℕ)) : Type 0 where
  pub header : List ℕ
  pub is_header : IsHeader header roots 1
  pub fits : length header ≤ 1048576
  pub spelled : bytes ≡ framed header

-- the bytes are a section with this CID and these data
pub record IsSection (bytes cid block : List ℕ) : Type 0 where
  pub is_cid : IsCid cid
  pub fits : length (cid ++ block) ≤ 8388608
  pub spelled : bytes ≡ framed (cid ++ block)

-- ---- the refusals

-- the bytes begin with no varint
pub data LengthFault (bytes : List ℕ) : CarFault → Type 0 where
  cut : varint_at bytes 0 ≡ Err (CidFault.Short (length bytes)) → LengthFault bytes CarFault.Truncated
  long : varint_at bytes 0 ≡ Err (CidFault.LongVarint 0) → LengthFault bytes CarFault.BadLength

-- the bytes do not begin with a length within a limit and as many bytes
pub data UnframedFault (limit : ℕ) (bytes : List ℕ) : CarFault → Type 0 where
  no_length : {fault : CarFault} → LengthFault bytes fault → UnframedFault limit bytes fault
  too_large : (len : ℕ) (rest : List ℕ) → bytes ≡ varint len ++ rest → len < 2 ^ 63 → limit < len → UnframedFault limit bytes CarFault.TooLarge
  body_cut : (len : ℕ) (rest : List ℕ) → bytes ≡ varint len ++ rest → len ≤ limit → length rest < len → UnframedFault limit bytes CarFault.Truncated

-- the bytes begin with no header of version 1
pub data StartFault (bytes : List ℕ) : CarFault → Type 0 where
  unframed : {fault : CarFault} → UnframedFault 1048576 bytes fault → StartFault bytes fault
  no_header : (body rest : List ℕ) → bytes ≡ framed body ++ rest → length body ≤ 1048576 →
      ((roots : List (List ℕ)) (version : ℕ) → IsHeader body roots version → ⊥) → StartFault bytes CarFault.BadHeader
  other_version : (body rest : List ℕ) (roots : List (List ℕ)) (version : ℕ) → bytes ≡ framed body ++ rest →
      length body ≤ 1048576 → IsHeader body roots version → (version ≡ 1 → ⊥) → StartFault bytes (CarFault.BadVersion version)

-- the bytes, of which there are some, begin with no section
pub data SectionFault (bytes : List ℕ) : CarFault → Type 0 where
  unframed : {fault : CarFault} → UnframedFault 8388608 bytes fault → SectionFault bytes fault
  zero_length : (rest : List ℕ) → bytes ≡ varint 0 ++ rest → SectionFault bytes CarFault.ZeroSection
  no_cid : (body rest : List ℕ) (fault : CidFault) → bytes ≡ framed body ++ rest → 0 < length body →
      length body ≤ 8388608 → cid_at body ≡ Err fault → SectionFault bytes CarFault.BadCid

-- ---- what a CAR says

-- a section, with the offset of its length
pub record Section : Type 0 where
  pub offset : ℕ
  pub cid : List ℕ
  pub block : List ℕ

-- The longest run of sections of bytes that begin at this offset, and why it ends: the first refusal, or none at the end of the bytes.
pub data AreSections : ℕ → List ℕ → List Section → Option CarRefusal → Type 0 where
  end : {at : ℕ} → AreSections at [] [] None
  refused : {at : ℕ} {bytes : List ℕ} {fault : CarFault} → 0 < length bytes → SectionFault bytes fault →
      AreSections at bytes [] (Some (record { fault = fault; offset = at }))
  more : {at : ℕ} {bytes : List ℕ} {sections : List Section} {ending : Option CarRefusal} (front rest cid block : List ℕ) →
      bytes ≡ front ++ rest → IsSection front cid block → AreSections (at + length front) rest sections ending →
      AreSections at bytes (record { offset = at; cid = cid; block = block } ∷ sections) ending

-- what the CAR says: its roots, its sections, and why they do not go on
pub record IsCar (bytes : List ℕ) (roots : List (List ℕ)) (sections : List Section) (ending : Option CarRefusal) : Type 0 where
  pub start : List ℕ
  pub rest : List ℕ
  pub spelled : bytes ≡ start ++ rest
  pub is_start : IsStart start roots
  pub are_sections : AreSections (length start) rest sections ending

-- the number of each fault, from 1, in the order of the variants, which the program prints; it is this project's own
abbrev pub number_of : CarFault → ℕ
number_of CarFault.ReadFault = 1
number_of CarFault.Truncated = 2
number_of CarFault.BadHeader = 3
number_of (CarFault.BadVersion version) = 4
number_of CarFault.ZeroSection = 5
number_of CarFault.TooLarge = 6
number_of CarFault.BadCid = 7
number_of CarFault.NoMemory = 8
number_of CarFault.BadLength = 9
