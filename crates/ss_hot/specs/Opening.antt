-- How far the opening of a file came, and what its walk over the records has gathered.
use Rattle.std.specs.Prelude.{◌≡◌, ◌+◌, ◌^◌, ◌<◌, ◌≤◌, List, IsTrue, length, ℕ, [], ◌∷◌, Some, Ok}
use Rattle.ss_device.specs.declared.disk.Disk.{Ghosts}
use Rattle.ss_gatelog.specs.{Log.longest_body, Gate.{HasLent, ReadsSame}}
use Rattle.ss_records.specs.{declared.record.Record.Record, Record.spelling, Fields.read_record}
use Rattle.ss_store.specs.{Append.bodies, declared.place.Place.Place, Places.{CidMap, LiesBefore}}
use Rattle.ss_hot.specs.{declared.store.opening.Opening.Opening, declared.store.walk.Walk.Walk, Half.{MayStand, IsInPlace, AreInPlace, settings_from, places_after, hot_places, head_from, head_of, base_from, base_of}}
use Rattle.std.specs.FinMap as finite_map

-- each block lies in this file, ends at this offset or before, and is no longer than a record allows
abbrev pub AreBefore : ℕ → CidMap Place → ℕ → Type 0
AreBefore file places end = (c : List ℕ) (p : Place) → finite_map.get places c ≡ Some p → LiesBefore file end c p

-- the walk has read these records of a file, and holds what they tell
pub record Gathers (file : ℕ) (walk : Walk) (records : List Record) : Type 0 where
  pub in_place : AreInPlace 0 records
  pub count : walk.count ≡ length records
  pub places : walk.index ≡ hot_places file records
  pub head : walk.head ≡ head_of records
  pub base : walk.base ≡ base_of records

-- what the walk holds is as it was, but for what this record changes, whose gate is at `at` in the file
pub record Enters (file at : ℕ) (old : Walk) (r : Record) (new : Walk) : Type 0 where
  pub config : new.config ≡ settings_from old.config (r ∷ [])
  pub places : new.index ≡ places_after file old.index at r
  pub head : new.head ≡ head_from old.head (r ∷ [])
  pub base : new.base ≡ base_from old.base (r ∷ [])

-- the walk read a record of this body, and entered it
pub record IsRead (file at : ℕ) (old : Walk) (body : List ℕ) (new : Walk) : Type 0 where
  pub is : Record
  pub spells : body ≡ spelling is
  pub in_place : IsInPlace old.count is
  pub enters : Enters file at old is new

-- these bytes spell no record that may stand as the n-th
abbrev pub IsMisfit : ℕ → List ℕ → Type 0
IsMisfit n body = (r : Record) → read_record body ≡ Ok r → MayStand n r → ⊥

-- ---- how far the opening came

-- over any disk: the reader is in the opening's file, and may go on
pub record IsUnderWay {D : Type 0} (disk : Ghosts D) (now : D) (opening : Opening) : Type 0 where
  pub file : opening.records.file ≡ opening.file
  pub known : opening.records.size ≤ disk.known now opening.file
  pub within : opening.records.at < opening.records.limit
  pub limit : opening.records.limit ≤ 2 ^ 40
  pub count : opening.walk.count ≤ opening.records.at

-- where the disk exposes its files: the reader has lent these records, and the walk holds what they tell
pub record HasRead {D : Type 0} (disk : Ghosts D) (now : D) (opening : Opening) (records : List Record) : Type 0 where
  pub lent : HasLent disk now opening.records (bodies records)
  pub gathers : Gathers opening.file opening.walk records

-- both are of the same file
pub record OpensSame (old new : Opening) : Type 0 where
  pub file : new.file ≡ old.file
  pub records : ReadsSame old.records new.records

-- one record more was read, with a gate after it
pub record Passes {D : Type 0} (disk : Ghosts D) (now : D) (old new : Opening) : Type 0 where
  pub under_way : IsUnderWay disk now new
  pub same : OpensSame old new
  pub at : new.records.at ≡ old.records.at + 5 + length new.records.body
  pub short : length new.records.body ≤ longest_body
  pub inside : new.records.at < new.records.size
  pub within : new.records.at < new.records.limit
  pub count : new.walk.count ≡ old.walk.count + 1

-- no record of the file was read
pub record IsAtStart {D : Type 0} (disk : Ghosts D) (now : D) (number : ℕ) (opening : Opening) : Type 0 where
  pub file : opening.file ≡ number
  pub at : opening.records.at ≡ 0
  pub count : opening.walk.count ≡ 0
  pub limit : opening.records.limit ≡ 2 ^ 40
  pub under_way : IsUnderWay disk now opening
  pub before : AreBefore number opening.walk.index 0
  pub read : IsTrue disk.told → HasRead disk now opening []

-- a generation and settings of the file were read
pub record HasBegun {D : Type 0} (disk : Ghosts D) (now : D) (number : ℕ) (opening : Opening) : Type 0 where
  pub file : opening.file ≡ number
  pub at : opening.records.at ≡ 54
  pub inside : 54 < opening.records.size
  pub under_way : IsUnderWay disk now opening
  pub before : AreBefore opening.file opening.walk.index 54
  pub read : IsTrue disk.told → (records : List Record) × HasRead disk now opening records
