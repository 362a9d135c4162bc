-- The records of the logs and the one spelling of each in bytes (format 1, this project's own), with big-endian numbers.
use Rattle.std.specs.{Prelude.{◌≢◌, ℕ, ◌+◌, ◌^◌, ◌<◌, ◌≤◌, List, [], ◌∷◌, ◌++◌, length, All}, List.flat_map, Int.{Width, w8, w16, w32, w64, to_be_bytes}}
use Rattle.ss_cid.specs.Cid.{IsCid, hash_of}
use Rattle.ss_records.specs.declared.record.{Mode.Mode, Config.Config as Settings, Record.Record}

-- a number in the bytes of its width, the highest first
unfoldable pub number : Width → ℕ → List ℕ
number w n = to_be_bytes w n

-- the bytes of CIDs, one after another
abbrev pub row : List (List ℕ) → List ℕ
row cids = flat_map (λ cid. cid) cids

-- a block: its CID, and its bytes after their length
abbrev pub block : List ℕ × List ℕ → List ℕ
block b = b.0 ++ (number w32 (length b.1) ++ b.1)

abbrev pub mode_number : Mode → ℕ
mode_number Mode.Discard = 0
mode_number Mode.Universal = 1

-- the settings after the format, which is 1
abbrev pub settings : Settings → List ℕ
settings c =
    number w8 1 ++ (number w8 (mode_number c.mode) ++ (number w64 c.depth ++ (number w64 c.threshold
    ++ (number w32 c.batch ++ (number w32 c.rows ++ number w64 c.limit)))))

-- the body of a record: its kind, and its fields
unfoldable pub spelling : Record → List ℕ
spelling (Record.Config c) = 0x01 ∷ settings c
spelling (Record.Generation n) = 0x02 ∷ number w64 n
spelling (Record.Put blocks) = 0x03 ∷ (number w16 (length blocks) ++ flat_map block blocks)
spelling (Record.Dropped cids) = 0x04 ∷ (number w16 (length cids) ++ row cids)
spelling (Record.Head height cids) = 0x05 ∷ (number w8 (length cids) ++ (number w64 height ++ row cids))
spelling (Record.Base base ended) = 0x06 ∷ (number w64 base ++ number w64 ended)
spelling (Record.Start edge cids) = 0x11 ∷ (number w64 edge ++ (number w8 (length cids) ++ row cids))
spelling (Record.Cold cids) = 0x12 ∷ (number w16 (length cids) ++ row cids)
spelling (Record.Sealed total) = 0x13 ∷ number w64 total
spelling (Record.Copied up_to) = 0x14 ∷ number w64 up_to
spelling (Record.Purged up_to) = 0x15 ∷ number w64 up_to

-- the settings are within their limits
pub record SettingsFit (c : Settings) : Type 0 where
  pub depth : c.depth ≤ 2 ^ 62
  pub threshold : (1 ≤ c.threshold) × (c.threshold ≤ 2 ^ 62)
  pub batch : (1 ≤ c.batch) × (c.batch ≤ 4096)
  pub rows : (1 ≤ c.rows) × (c.rows < 2 ^ 32)
  pub limit : (65536 ≤ c.limit) × (c.limit ≤ 2 ^ 40)

-- a list of records' CIDs or blocks is not empty and not too long
abbrev pub IsCount : ℕ → ℕ → Type 0
IsCount most n = (1 ≤ n) × (n ≤ most)

-- a CID of a block that is stored: not an identity CID, which carries its block itself
abbrev pub IsStored : List ℕ → Type 0
IsStored cid = hash_of cid ≢ 0

-- a block that is stored, and its size with its CID
abbrev pub BlockFits : List ℕ × List ℕ → Type 0
BlockFits b = IsStored b.0 × (length b.0 + length b.1 ≤ 8388608)

-- the counts and bounds of a record
abbrev pub Fits : Record → Type 0
Fits (Record.Config c) = SettingsFit c
Fits (Record.Generation n) = 1 ≤ n
Fits (Record.Put blocks) = IsCount 4096 (length blocks) × All BlockFits blocks
Fits (Record.Dropped cids) = IsCount 4096 (length cids) × All IsStored cids
Fits (Record.Head height cids) = (height < 2 ^ 63) × IsCount 64 (length cids)
Fits (Record.Base base ended) = base < 2 ^ 63
Fits (Record.Start edge cids) = IsCount 64 (length cids)
Fits (Record.Cold cids) = IsCount 4096 (length cids) × All IsStored cids
Fits (Record.Sealed total) = Unit {0}
Fits (Record.Copied up_to) = Unit {0}
Fits (Record.Purged up_to) = Unit {0}

-- what holds of each value of the type: its numbers have 64 bits, and its CIDs are CIDs
abbrev pub IsValue : Record → Type 0
IsValue (Record.Config c) = Unit {0}
IsValue (Record.Generation n) = n < 2 ^ 64
IsValue (Record.Put blocks) = All (λ b. IsCid b.0) blocks
IsValue (Record.Dropped cids) = All IsCid cids
IsValue (Record.Head height cids) = All IsCid cids
IsValue (Record.Base base ended) = ended < 2 ^ 64
IsValue (Record.Start edge cids) = (edge < 2 ^ 64) × All IsCid cids
IsValue (Record.Cold cids) = All IsCid cids
IsValue (Record.Sealed total) = total < 2 ^ 64
IsValue (Record.Copied up_to) = up_to < 2 ^ 64
IsValue (Record.Purged up_to) = up_to < 2 ^ 64

-- a body with four spare bytes before it and one after, which a log writes its length and its gate into
abbrev pub frame : List ℕ → List ℕ
frame body = 0 ∷ 0 ∷ 0 ∷ 0 ∷ (body ++ 0 ∷ [])
