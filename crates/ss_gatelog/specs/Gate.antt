-- What stands at a gate of a log's file, after the records that lead up to it, and what a reader of the records has lent.
use Rattle.std.specs.Prelude.{◌≡◌, ◌≢◌, ◌+◌, ◌^◌, ◌<◌, ◌≤◌, ℕ, List, [], ◌∷◌, ◌++◌, length, slice_index, slice_range, Bool, true, Result, Ok, Err, Option, Some, None}
use Rattle.ss_gatelog.specs.{declared.gate.Gate.Gate, declared.gate.Header.Header, Log.{open_gate, longest_body, length_bytes, spelled, AreBodies, HasRecords, IsDamaged, HasList}, declared.skim.Reached.Reached, declared.fault.RecordsFault.RecordsFault}
use Rattle.ss_device.specs.{declared.disk.Disk.Ghosts, Disk.Files}

-- these records lead up to this offset of a file, of which no more than the first `limit` bytes are used
pub record LeadTo (limit : ℕ) (file : List ℕ) (records : List (List ℕ)) (at : ℕ) : Type 0 where
  pub rest : List ℕ
  pub is : file ≡ spelled records ++ rest
  pub place : at ≡ length (spelled records)
  pub bodies : AreBodies records
  pub within : at < limit

-- the file has these bytes at this offset
abbrev pub IsPiece : List ℕ → ℕ → List ℕ → Type 0
IsPiece file at bytes = bytes ≡ slice_range file at (at + length bytes)

-- what stands at a gate that these records lead up to
abbrev pub IsGate : ℕ → List ℕ → List (List ℕ) → ℕ → Gate → Type 0
IsGate limit file records at Gate.Closed = HasRecords limit file records
IsGate limit file records at Gate.Unfit = IsDamaged limit file at
IsGate limit file records at (Gate.Record next) = LeadTo limit file (records ++ slice_range file (at + 5) next ∷ []) next
IsGate limit file records at Gate.Cut = Unit {0}

-- A record ends in the file and in its first `limit` bytes. A header is cut only where it is whole in the file, and was not read whole.
abbrev pub IsGateWithin : ℕ → ℕ → ℕ → ℕ → Gate → Type 0
IsGateWithin at size limit read Gate.Closed = Unit {0}
IsGateWithin at size limit read Gate.Unfit = Unit {0}
IsGateWithin at size limit read (Gate.Record next) = (at + 5 ≤ next) × (next ≤ at + 5 + longest_body) × (next < size) × (next < limit)
IsGateWithin at size limit read Gate.Cut = (read < 5) × (at + 5 ≤ size)

-- what the first of some bytes are: a closed gate; an open one with this length after it, or with no whole length
abbrev pub IsHeader : List ℕ → Header → Type 0
IsHeader bytes Header.Closed = slice_index bytes 0 ≢ open_gate
IsHeader bytes (Header.Open n) = (slice_index bytes 0 ≡ open_gate) × (n < 2 ^ 32) × (5 ≤ length bytes) × (length_bytes n ≡ slice_range bytes 1 5)
IsHeader bytes Header.Cut = (slice_index bytes 0 ≡ open_gate) × (length bytes < 5)

-- ---- how far a walk over the records of a file came

-- some records lead up to this offset of a file
abbrev pub Walked : ℕ → List ℕ → ℕ → Type 0
Walked limit file at = (records : List (List ℕ)) × LeadTo limit file records at

-- what stands at the offset that was reached
abbrev pub Reaches : ℕ → List ℕ → Reached → Type 0
Reaches limit file (Reached.Closed at) = (records : List (List ℕ)) × HasRecords limit file records × (at ≡ length (spelled records))
Reaches limit file (Reached.Unfit at) = IsDamaged limit file at
Reaches limit file (Reached.Further at) = Walked limit file at

-- the offset is in the file and in its first `limit` bytes, and a walk that goes on has passed a record
abbrev pub ReachesWithin : ℕ → ℕ → ℕ → Reached → Type 0
ReachesWithin from size limit (Reached.Closed at) = (at < size) × (at < limit)
ReachesWithin from size limit (Reached.Unfit at) = (at < size) × (at < limit)
ReachesWithin from size limit (Reached.Further at) = (from < at) × (at < size) × (at < limit)

-- a reader: its file and the file's size, how many bytes of the file may be used, the offset of the next gate, the body that
-- it lends, the bytes that it has read from that gate on, and whether that gate is known to be closed
pub record Reader : Type 0 where
  pub file : ℕ
  pub size : ℕ
  pub limit : ℕ
  pub at : ℕ
  pub body : List ℕ
  pub ahead : List ℕ
  pub ended : Bool

-- The reader has lent the bodies of these records, in order. They lead up to its gate; where that is known to be closed they
-- are the list of the file. Each image now has the file as a read gives it.
pub record HasLent {D : Type 0} (disk : Ghosts D) (now : D) (reader : Reader) (records : List (List ℕ)) : Type 0 where
  pub leads : LeadTo reader.limit (disk.files now reader.file) records reader.at
  pub all : reader.ended ≡ true → HasList reader.limit (disk.files now reader.file) records
  pub ahead : IsPiece (disk.files now reader.file) reader.at reader.ahead
  pub size : length (disk.files now reader.file) ≡ reader.size
  pub synced : (left : Files) → disk.image now (disk.moment now) left → left reader.file ≡ disk.files now reader.file

-- What is lent after `next`, where these records were lent before: one body more, or the same. The file is damaged where `Damaged` tells.
abbrev pub Lends : {D : Type 0} → Ghosts D → D → Reader → Reader → List (List ℕ) → Result (Option ℕ) RecordsFault → Type 0
Lends disk now old new records (Ok (Some at)) = HasLent disk now new (records ++ new.body ∷ [])
Lends disk now old new records (Ok None) = HasLent disk now new records
Lends disk now old new records (Err (RecordsFault.Damaged at)) = HasLent disk now new records × IsDamaged old.limit (disk.files now old.file) at
Lends disk now old new records (Err _) = HasLent disk now new records

-- how far the reader came, over any disk: an answer is about the gate at which it was
abbrev pub ReadsOn : Reader → Reader → Result (Option ℕ) RecordsFault → Type 0
ReadsOn old new (Ok (Some at)) = (at ≡ old.at) × (new.at ≡ old.at + 5 + length new.body) × (length new.body ≤ longest_body) × (new.at < new.size) × (new.at < new.limit)
ReadsOn old new (Ok None) = (new.at ≡ old.at) × (new.ended ≡ true)
ReadsOn old new (Err (RecordsFault.Damaged at)) = (new.at ≡ old.at) × (at ≡ old.at)
ReadsOn old new (Err _) = new.at ≡ old.at

-- both read the same file
pub record ReadsSame (old new : Reader) : Type 0 where
  pub file : new.file ≡ old.file
  pub size : new.size ≡ old.size
  pub limit : new.limit ≡ old.limit
