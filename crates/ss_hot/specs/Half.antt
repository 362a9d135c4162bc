-- What a half of the hot log stands for, a form of this project's own: which record may stand where, what records leave, what a file is.
use Rattle.std.specs.Prelude.{ℕ, zero, suc, ◌+◌, List, [], ◌∷◌, map, length, Option, None, Some, ◌≡◌, ◌⊎◌, ◌<◌, ◌++◌, Ok}
use Rattle.ss_records.specs.{declared.record.{Config.Config as Settings, Record.Record}, Record.{spelling, Fits, IsValue}, Places.places_of, Fields.read_record}
use Rattle.ss_store.specs.{declared.place.Place.Place, Places.{CidMap, with_pairs, without_cids, placed}, Append.bodies}
use Rattle.ss_gatelog.specs.Log.{open_gate, length_bytes, spelled, AreBodies, HasList, Fits as FitsGate}
use Rattle.std.specs.FinMap as finite_map

-- The record may be the one of this index in a half, from 0: its generation, then its settings, and then what happened.
abbrev pub MayStand : ℕ → Record → Type 0
MayStand zero (Record.Generation n) = Unit {0}
MayStand (suc zero) (Record.Config c) = Unit {0}
MayStand (suc (suc n)) (Record.Put blocks) = Unit {0}
MayStand (suc (suc n)) (Record.Dropped cids) = Unit {0}
MayStand (suc (suc n)) (Record.Head height cids) = Unit {0}
MayStand (suc (suc n)) (Record.Base base ended) = Unit {0}
MayStand n _ = ⊥

-- a record that may be read at this index
pub record IsInPlace (n : ℕ) (r : Record) : Type 0 where
  pub fits : Fits r
  pub value : IsValue r
  pub may_stand : MayStand n r

-- records that may be read one after another from this index on
abbrev pub AreInPlace : ℕ → List Record → Type 0
AreInPlace n [] = Unit {0}
AreInPlace n (r ∷ rs) = IsInPlace n r × AreInPlace (suc n) rs

-- the hot blocks after a record
abbrev pub hot_after : CidMap (List ℕ) → Record → CidMap (List ℕ)
hot_after hot (Record.Put blocks) = with_pairs hot blocks
hot_after hot (Record.Dropped cids) = without_cids hot cids
hot_after hot _ = hot

-- the hot blocks after records
abbrev pub hot_from : CidMap (List ℕ) → List Record → CidMap (List ℕ)
hot_from hot [] = hot
hot_from hot (r ∷ rs) = hot_from (hot_after hot r) rs

abbrev pub hot_blocks : List Record → CidMap (List ℕ)
hot_blocks records = hot_from finite_map.empty records

-- the settings that the records tell, if they do
abbrev pub settings_from : Option Settings → List Record → Option Settings
settings_from told [] = told
settings_from told (Record.Config c ∷ rs) = settings_from (Some c) rs
settings_from told (_ ∷ rs) = settings_from told rs

abbrev pub settings_of : List Record → Option Settings
settings_of records = settings_from None records

-- the last head: its height and its CIDs
abbrev pub head_from : Option (ℕ × List (List ℕ)) → List Record → Option (ℕ × List (List ℕ))
head_from head [] = head
head_from head (Record.Head height cids ∷ rs) = head_from (Some (height, cids)) rs
head_from head (_ ∷ rs) = head_from head rs

abbrev pub head_of : List Record → Option (ℕ × List (List ℕ))
head_of records = head_from None records

-- the last base, and how many compactions have ended
abbrev pub base_from : ℕ × ℕ → List Record → ℕ × ℕ
base_from base [] = base
base_from base (Record.Base edge ended ∷ rs) = base_from (edge, ended) rs
base_from base (_ ∷ rs) = base_from base rs

abbrev pub base_of : List Record → ℕ × ℕ
base_of records = base_from (0, 0) records

-- where the hot blocks lie after a record whose gate is at an offset of this file
abbrev pub places_after : ℕ → CidMap Place → ℕ → Record → CidMap Place
places_after file held at (Record.Put blocks) = with_pairs held (map (placed file (at + 5)) (places_of (Record.Put blocks)))
places_after file held at (Record.Dropped cids) = without_cids held cids
places_after file held at _ = held

-- where they lie after records of which the first one's gate is at an offset of the file
abbrev pub places_from : ℕ → CidMap Place → ℕ → List Record → CidMap Place
places_from file held at [] = held
places_from file held at (r ∷ rs) = places_from file (places_after file held at r) (at + 5 + length (spelling r)) rs

abbrev pub hot_places : ℕ → List Record → CidMap Place
hot_places file records = places_from file finite_map.empty 0 records

-- Settings are committed: the first two gates are open, two records and a gate after them are in the file, and the second is these.
pub record HasSettings (file : List ℕ) (settings : Settings) : Type 0 where
  pub first : List ℕ
  pub second : List ℕ
  pub gate : ℕ
  pub rest : List ℕ
  pub is : file ≡ spelled (first ∷ second ∷ []) ++ gate ∷ rest
  pub bodies : AreBodies (first ∷ second ∷ [])
  pub reads : read_record second ≡ Ok (Record.Config settings)

-- the file is a half that has these records
pub record IsHalf (file : List ℕ) (settings : Settings) (records : List Record) : Type 0 where
  pub committed : HasSettings file settings
  pub list : HasList settings.limit file (bodies records)
  pub in_place : AreInPlace 0 records

-- a record is whole after a gate, and is none that may be read as the n-th
pub record IsBad (limit n at : ℕ) (rest : List ℕ) : Type 0 where
  pub body : List ℕ
  pub more : List ℕ
  pub is : rest ≡ length_bytes (length body) ++ (body ++ more)
  pub fits : FitsGate limit at rest (length body)
  pub bad : (r : Record) → read_record body ≡ Ok r → MayStand n r → ⊥

-- The first invalid record: valid ones lead up to an open gate here, after which none fits, or one that may not stand there.
pub record IsFaulty (limit : ℕ) (file : List ℕ) (at : ℕ) : Type 0 where
  pub front : List Record
  pub rest : List ℕ
  pub is : file ≡ spelled (bodies front) ++ open_gate ∷ rest
  pub place : at ≡ length (spelled (bodies front))
  pub bodies : AreBodies (bodies front)
  pub in_place : AreInPlace 0 front
  pub within : at < limit
  pub fault : ((n : ℕ) → FitsGate limit at rest n → ⊥) ⊎ IsBad limit (length front) at rest

-- The file is of a store, and is damaged at this offset, where its first invalid record begins.
pub record IsDamagedHalf (file : List ℕ) (at : ℕ) : Type 0 where
  pub settings : Settings
  pub committed : HasSettings file settings
  pub damage : IsFaulty settings.limit file at
