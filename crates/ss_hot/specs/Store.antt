-- What a hot store has in memory, what it represents over a disk, and what a call that writes one record does to both.
use Rattle.std.specs.{Prelude.{◌≡◌, ℕ, ◌+◌, ◌-◌, ◌<◌, ◌≤◌, List, All, Option, Some, None, ◌⊎◌, IsTrue, false, [], ◌∷◌, ◌++◌, length, Result, Err, OnOk, OnErr, Bool, refl}, Coded.{Coded, code_by, coded×, coded_ℕ, coded_bool, coded_list, coded_option}}
use Rattle.ss_device.specs.{declared.disk.Disk.Ghosts, Disk.Same, Calls.{Goes, Leaves}}
use Rattle.ss_gatelog.specs.GateLog.{Log, Stands, CountsFault, HasEither, Settled}
use Rattle.ss_records.specs.{declared.record.Config.Config as Settings, declared.record.Record.Record, Record.{spelling, SettingsFit}}
use Rattle.ss_store.specs.{declared.place.Place.Place, Places.{CidMap, LiesBefore, places_code}, Append.{bodies, HasOneOf, Appends}, declared.fault.StoreFault.StoreFault}
use Rattle.ss_hot.specs.Half.{AreInPlace, IsHalf, settings_of, head_of, base_of, hot_places}
use Rattle.std.specs.FinMap as finite_map
use Rattle.ss_records.specs.contracts.record.Config as settings

-- a hot store: its settings, its log, where its blocks lie, its head, and its base with the count of ended compactions
pub record Hot : Type 0 where
  pub settings : Settings
  pub log : Log
  pub places : CidMap Place
  pub head : Option (ℕ × List (List ℕ))
  pub base : ℕ × ℕ

-- the store has in memory what these records leave
pub record Tells (store : Hot) (records : List Record) : Type 0 where
  pub in_place : AreInPlace 0 records
  pub settings : settings_of records ≡ Some store.settings
  pub places : store.places ≡ hot_places store.log.file records
  pub head : store.head ≡ head_of records
  pub base : store.base ≡ base_of records

-- the log has the settings' limit, and ends below it
abbrev pub IsPlaced : Hot → Type 0
IsPlaced store = (store.log.limit ≡ store.settings.limit) × (store.log.end < store.settings.limit)

-- The store stands for these records: each image now has them in its file or, if its log is in doubt, them or the others, by one gate.
pub record Keeps {D : Type 0} (disk : Ghosts D) (now : D) (store : Hot) (records others : List Record) : Type 0 where
  pub tells : Tells store records
  pub placed : IsPlaced store
  pub stands : Stands disk now store.log (bodies records) (bodies others)

-- the log's end, and the gate there, lie within the known length of its file
abbrev pub IsKnown : {D : Type 0} → Ghosts D → D → Hot → Type 0
IsKnown disk now store = store.log.end + 1 ≤ disk.known now store.log.file

-- all is as before, but perhaps whether the log is sure
abbrev pub SameButDoubt : Hot → Hot → Type 0
SameButDoubt old new = new ≡ record old { log = record old.log { unsure = new.log.unsure } }

-- the bytes of a block end before the log does
abbrev pub LiesIn : Log → Place → Type 0
LiesIn log p = p.at + p.len ≤ log.end

-- the log has the settings' limit, and each block lies in its file before its end, and is no longer than a record allows
pub record IsWithin (settings : Settings) (log : Log) (places : CidMap Place) : Type 0 where
  pub limit : log.limit ≡ settings.limit
  pub each : (c : List ℕ) (p : Place) → finite_map.get places c ≡ Some p → LiesBefore log.file log.end c p

-- none of these blocks is hot
abbrev pub AreNotHot : Hot → List (List ℕ × List ℕ) → Type 0
AreNotHot store pairs = All (λ p. finite_map.get store.places p.0 ≡ None) pairs

-- the bytes that the next record may take of the log
abbrev pub room_of : Hot → ℕ
room_of store = store.log.limit - 1 - store.log.end

-- Over any disk: the log was settled, and all else stays.
pub record Settles {D : Type 0} (disk : Ghosts D) (was now : D) (old new : Hot) (result : Result (Unit {0}) StoreFault) : Type 0 where
  pub log : Settled disk was now old.log new.log StoreFault.DiskFault result
  pub same : SameButDoubt old new

-- Where the disk exposes its files, of a store that stood for these records, perhaps in doubt with others: it still does, and each
-- image since has the one list or the other.
pub record StillKeeps {D : Type 0} (disk : Ghosts D) (was now : D) (old new : Hot) (records others : List Record) : Type 0 where
  pub kept : Keeps disk now new records others
  pub stops : Leaves disk old.log.file (HasEither old.settings.limit (bodies records) (bodies others)) was now

-- Over any disk: the record was appended to the log, or was not. The settings stay, and after an error all else but the log's doubt.
pub record Writes {D : Type 0} (disk : Ghosts D) (was now : D) (old new : Hot) (r : Record) (result : Result (Unit {0}) StoreFault) : Type 0 where
  pub appends : Appends disk was now old.log new.log (5 + length (spelling r)) result
  pub settings : new.settings ≡ old.settings
  pub err : OnErr result (SameButDoubt old new)
  pub untouched : (e : StoreFault) → result ≡ Err e → (e ≡ StoreFault.DiskFault) ⊎ ((new ≡ old) × (now ≡ was))

-- Where the disk exposes its files, of a store that stood for these records, perhaps in doubt with others: it stands for one more
-- after `Ok`; after a fault for what it did, or for these records, perhaps in doubt with one more; each image since has one of the lists.
pub record KeepsWritten {D : Type 0} (disk : Ghosts D) (was now : D) (old new : Hot) (records others : List Record) (r : Record) (result : Result (Unit {0}) StoreFault) : Type 0 where
  pub kept : OnOk result (Keeps disk now new (records ++ r ∷ []) [])
  pub failed : OnErr result (Keeps disk now new records others ⊎ Keeps disk now new records (records ++ r ∷ []))
  pub stops : Leaves disk old.log.file (HasOneOf old.settings.limit records others (records ++ r ∷ [])) was now

-- the records of a store in which nothing is kept
abbrev pub first_records : Settings → List Record
first_records settings = Record.Generation 1 ∷ Record.Config settings ∷ []

-- The log is sure, in this file, with the settings' limit, and its end lies within the known length.
pub record IsSettled {D : Type 0} (disk : Ghosts D) (now : D) (file : ℕ) (store : Hot) : Type 0 where
  pub sure : store.log.unsure ≡ false
  pub log : (store.log.file ≡ file) × (store.log.limit ≡ store.settings.limit)
  pub known : IsKnown disk now store

-- A store that was opened. Where the disk exposes its files, it stands for the records that the file had.
pub record IsOpened {D : Type 0} (disk : Ghosts D) (was now : D) (file : ℕ) (store : Hot) : Type 0 where
  pub keeps : IsTrue disk.told → (records : List Record) × IsHalf (disk.files was file) store.settings records × Keeps disk now store records []
  pub fits : SettingsFit store.settings
  pub settled : IsSettled disk now file store

-- A store with these settings in which nothing is kept. Where the disk exposes its files, it stands for its first records.
pub record IsNew {D : Type 0} (disk : Ghosts D) (now : D) (config : Settings) (store : Hot) : Type 0 where
  pub keeps : IsTrue disk.told → Keeps disk now store (first_records config) []
  pub settings : store.settings ≡ config
  pub places : store.places ≡ finite_map.empty
  pub settled : IsSettled disk now 0 store

-- a fault where nothing is to be written
abbrev pub IsOpeningFault : StoreFault → Type 0
IsOpeningFault fault = (file need room : ℕ) → fault ≡ StoreFault.LogFull file need room → ⊥

-- what may stop any call: out of memory, or a fault of the disk
abbrev pub IsStop : StoreFault → Type 0
IsStop fault = (fault ≡ StoreFault.NoMemory) ⊎ (fault ≡ StoreFault.DiskFault)

-- Over any disk: no file changes, the count of faults rises exactly where the answer is the disk's fault, and a fault is one of these.
pub record Reads {D T : Type 0} (disk : Ghosts D) (was now : D) (faults : StoreFault → Type 0) (result : Result T StoreFault) : Type 0 where
  pub errors : (fault : StoreFault) → result ≡ Err fault → faults fault
  pub goes : Goes disk Same was now
  pub counts : CountsFault StoreFault.DiskFault (disk.faults was) (disk.faults now) result

-- how logs and stores are told apart
abbrev pub log_code : Coded Log
log_code =
    code_by (ℕ × (ℕ × (ℕ × Bool))) (coded× coded_ℕ (coded× coded_ℕ (coded× coded_ℕ coded_bool)))
    (λ l. (l.file, (l.limit, (l.end, l.unsure)))) (λ t. record { file = t.0; limit = t.1.0; end = t.1.1.0; unsure = t.1.1.1 }) (λ _. refl)

abbrev pub hot_code : Coded Hot
hot_code =
    code_by (Settings × (Log × (CidMap Place × (Option (ℕ × List (List ℕ)) × (ℕ × ℕ)))))
    (coded× settings.the_row.coded (coded× log_code (coded× places_code (coded× (coded_option (coded× coded_ℕ (coded_list (coded_list coded_ℕ)))) (coded× coded_ℕ coded_ℕ)))))
    (λ s. (s.settings, (s.log, (s.places, (s.head, s.base)))))
    (λ t. record { settings = t.0; log = t.1.0; places = t.1.1.0; head = t.1.1.1.0; base = t.1.1.1.1 })
    (λ _. refl)
