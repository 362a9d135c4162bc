-- One item of DAG-CBOR, and its links. A head is that of CBOR (RFC 8949, section 3) in its shortest form, and a
-- link is tag 42 over the byte 00 and a CID in binary (the IPLD specification of DAG-CBOR). The leniency is
-- this project's own: the bytes of a text are not checked, a key is any item, keys come in any order and
-- may repeat, and the eight bytes of a float are passed over.
use Rattle.std.specs.{Prelude.{◌≡◌, ℕ, zero, suc, ◌+◌, ◌*◌, ◌<◌, ◌^◌, nat_lt, if◌then◌else◌, Bool, List, [], ◌∷◌, ◌++◌, length}, Int.{w8, w16, w32, w64, to_be_bytes}}
use Rattle.ss_cid.specs.Cid.{IsCid}

-- the one head of a major type and an argument: three bits of type, then in five the argument, or that 1, 2, 4 or 8 bytes of it follow
unfoldable pub head : ℕ → ℕ → List ℕ
head major n =
    if nat_lt n 24 then (32 * major + n) ∷ []
    else if nat_lt n (2 ^ 8) then (32 * major + 24) ∷ to_be_bytes w8 n
    else if nat_lt n (2 ^ 16) then (32 * major + 25) ∷ to_be_bytes w16 n
    else if nat_lt n (2 ^ 32) then (32 * major + 26) ∷ to_be_bytes w32 n
    else (32 * major + 27) ∷ to_be_bytes w64 n

-- an item without those that it holds: a link is one part
pub data Part : Type 0 where
  uint : ℕ → Part
  nint : ℕ → Part
  blob : List ℕ → Part
  text : List ℕ → Part
  array : ℕ → Part
  map : ℕ → Part
  link : List ℕ → Part
  float : Part
  bool : Bool → Part
  null : Part

-- how many items a part holds: a map has a key and a value for each pair
abbrev pub items_in : Part → ℕ
items_in (array n) = n
items_in (map n) = 2 * n
items_in _ = 0

-- the link that a part is
abbrev pub links_of : Part → List (List ℕ)
links_of (link cid) = cid ∷ []
links_of _ = []

-- the bytes spell the part
abbrev pub IsPart : List ℕ → Part → Type 0
IsPart bytes (uint n) = (n < 2 ^ 64) × (bytes ≡ head 0 n)
IsPart bytes (nint n) = (n < 2 ^ 64) × (bytes ≡ head 1 n)
IsPart bytes (blob b) = (length b < 2 ^ 64) × (bytes ≡ head 2 (length b) ++ b)
IsPart bytes (text b) = (length b < 2 ^ 64) × (bytes ≡ head 3 (length b) ++ b)
IsPart bytes (array n) = (n < 2 ^ 64) × (bytes ≡ head 4 n)
IsPart bytes (map n) = (n < 2 ^ 64) × (bytes ≡ head 5 n)
IsPart bytes (link cid) = IsCid cid × (bytes ≡ head 6 42 ++ (head 2 (length (0 ∷ cid)) ++ 0 ∷ cid))
IsPart bytes float = (value : List ℕ) × (length value ≡ 8) × (bytes ≡ 0xfb ∷ value)
IsPart bytes (bool b) = bytes ≡ (if b then 0xf5 else 0xf4) ∷ []
IsPart bytes null = bytes ≡ 0xf6 ∷ []

-- the bytes are so many items in a row, with these links in order of bytes: none, or a part, the items in it, and the others
pub data Items : ℕ → List ℕ → List (List ℕ) → Type 0 where
  none : Items zero [] []
  more : {n : ℕ} {bytes : List ℕ} {links : List (List ℕ)} (part : Part) (front inner rest : List ℕ) (below after : List (List ℕ)) →
      IsPart front part → Items (items_in part) inner below → Items n rest after →
      bytes ≡ front ++ (inner ++ rest) → links ≡ links_of part ++ (below ++ after) →
      Items (suc n) bytes links

-- the bytes are exactly one item, which has these links
abbrev pub IsItem : List ℕ → List (List ℕ) → Type 0
IsItem bytes links = Items 1 bytes links

-- the bytes spell these parts, one after another
abbrev pub AreParts : List ℕ → List Part → Type 0
AreParts bytes [] = bytes ≡ []
AreParts bytes (part ∷ parts) =
    (front : List ℕ) × (rest : List ℕ) × IsPart front part × AreParts rest parts × (bytes ≡ front ++ rest)

-- the parts are so many items: each that is due comes, and none besides
abbrev pub Closes : ℕ → List Part → Type 0
Closes zero [] = Unit {0}
Closes zero (part ∷ parts) = ⊥
Closes (suc due) [] = ⊥
Closes (suc due) (part ∷ parts) = Closes (items_in part + due) parts
