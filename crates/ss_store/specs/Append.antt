-- What the append of a record does to a log and its disk, and the fault of a store by that of its log.
use Rattle.std.specs.Prelude.{◌≡◌, ◌⊎◌, ℕ, ◌+◌, ◌-◌, ◌<◌, ◌≤◌, false, List, [], ◌∷◌, ◌++◌, map, Result, Err, IsOk, OnOk, OnErr}
use Rattle.ss_device.specs.{declared.disk.Disk.Ghosts, Calls.{Touches, Leaves}}
use Rattle.ss_gatelog.specs.{GateLog.{CountsFault, Log, IsSure, Stands}, Log.HasList, declared.fault.LogFault.LogFault, declared.fault.RecordsFault.RecordsFault}
use Rattle.ss_records.specs.{declared.record.Record.Record, Record.spelling}
use Rattle.ss_store.specs.declared.fault.StoreFault.{StoreFault}

-- the fault of a store, by that of its log or of the reader of its records, and by the number of the file
abbrev pub of_log : ℕ → LogFault → StoreFault
of_log file LogFault.DiskFault = StoreFault.DiskFault
of_log file (LogFault.LogFull need room) = StoreFault.LogFull file need room
of_log file (LogFault.Damaged at) = StoreFault.Damaged file at

abbrev pub of_records : ℕ → RecordsFault → StoreFault
of_records file RecordsFault.NoMemory = StoreFault.NoMemory
of_records file RecordsFault.DiskFault = StoreFault.DiskFault
of_records file (RecordsFault.Damaged at) = StoreFault.Damaged file at

-- the bodies that spell these records
abbrev pub bodies : List Record → List (List ℕ)
bodies records = map spelling records

-- one of three lists of records
abbrev pub HasOneOf : ℕ → List Record → List Record → List Record → List ℕ → Type 0
HasOneOf limit first second third file = HasList limit file (bodies first) ⊎ (HasList limit file (bodies second) ⊎ HasList limit file (bodies third))

-- Where the disk exposes its files, of a log that stood for these records, perhaps in doubt with others: it has one more after `Ok`;
-- after a fault it stands for what it did, or for these records, perhaps in doubt with one more; images since have one of the lists.
pub record KeepsAppended {D : Type 0} (disk : Ghosts D) (was now : D) (old new : Log) (records others : List Record) (r : Record) (result : Result (Unit {0}) StoreFault) : Type 0 where
  pub appended : OnOk result (IsSure disk now new (bodies (records ++ r ∷ [])))
  pub failed : OnErr result (Stands disk now new (bodies records) (bodies others) ⊎ Stands disk now new (bodies records) (bodies (records ++ r ∷ [])))
  pub stops : Leaves disk old.file (HasOneOf old.limit records others (records ++ r ∷ [])) was now

-- Over any disk, of a record that takes `need`: it was appended, and the log is sure; or there was no room, or a store had no
-- memory, and all stays; or the count of faults rose, and the log may be in doubt.
pub record Appends {D : Type 0} (disk : Ghosts D) (was now : D) (old new : Log) (need : ℕ) (result : Result (Unit {0}) StoreFault) : Type 0 where
  pub ok : OnOk result (new ≡ record old { end = old.end + need; unsure = false })
  pub err : OnErr result (new ≡ record old { unsure = new.unsure })
  pub untouched : (e : StoreFault) → result ≡ Err e → (e ≡ StoreFault.DiskFault) ⊎ ((new ≡ old) × (now ≡ was))
  pub full : (file wants room : ℕ) → result ≡ Err (StoreFault.LogFull file wants room) → (file ≡ old.file) × (wants ≡ need) × (room ≡ old.limit - 1 - old.end) × (room < need)
  pub roomy : IsOk result ⊎ (result ≡ Err StoreFault.DiskFault) → need ≤ old.limit - 1 - old.end
  pub not_damaged : (file at : ℕ) → result ≡ Err (StoreFault.Damaged file at) → ⊥
  pub counts : CountsFault StoreFault.DiskFault (disk.faults was) (disk.faults now) result
  pub known : new.end + 1 ≤ disk.known now new.file
  pub touches : Touches disk old.file was now
