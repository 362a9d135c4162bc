-- What the log of a plan has in memory, what it represents over a disk, and what a call that writes one record does to both.
use Rattle.std.specs.{Prelude.{◌≡◌, ◌⊎◌, ℕ, ◌+◌, ◌<◌, ◌≤◌, List, [], ◌∷◌, ◌++◌, length, Option, None, IsTrue, false, Bool, Result, Err, OnOk, OnErr, refl}, Coded.{Coded, code_by, coded×, coded_ℕ, coded_bool, coded_list, coded_option}}
use Rattle.ss_device.specs.{declared.disk.Disk.Ghosts, Disk.{Files, Changes}, Calls.{Goes, Touches, Leaves}}
use Rattle.ss_gatelog.specs.{GateLog.{Log, Stands, CountsFault, HasEither, Settled, Opens}, Log.HasList}
use Rattle.ss_records.specs.{declared.record.Record.Record, Record.spelling}
use Rattle.ss_store.specs.{Append.{bodies, HasOneOf, Appends}, declared.fault.StoreFault.StoreFault}
use Rattle.ss_meta.specs.{declared.plan.Plan.Plan, Plan.{IsPlan, plan_of, plan_after, IsMeta}}

-- the log of a plan, and the plan of its records, if it has any
pub record Meta : Type 0 where
  pub log : Log
  pub plan : Option Plan

-- The store stands for these records: it has their plan in memory, and each image now has them in its file or, if its log is in
-- doubt, them or the others, by one gate.
pub record Keeps {D : Type 0} (disk : Ghosts D) (now : D) (store : Meta) (records others : List Record) : Type 0 where
  pub are : IsPlan records
  pub plan : store.plan ≡ plan_of records
  pub within : store.log.end < store.log.limit
  pub stands : Stands disk now store.log (bodies records) (bodies others)

-- the log's end, and the gate there, lie within the known length of its file
abbrev pub IsKnown : {D : Type 0} → Ghosts D → D → Meta → Type 0
IsKnown disk now store = store.log.end + 1 ≤ disk.known now store.log.file

-- Over any disk: the log was settled, and the plan stays.
pub record Settles {D : Type 0} (disk : Ghosts D) (was now : D) (old new : Meta) (result : Result (Unit {0}) StoreFault) : Type 0 where
  pub log : Settled disk was now old.log new.log StoreFault.DiskFault result
  pub plan : new.plan ≡ old.plan

-- Where the disk exposes its files, of a store that stood for these records, perhaps in doubt with others: it still does, and each
-- image since has the one list or the other.
pub record StillKeeps {D : Type 0} (disk : Ghosts D) (was now : D) (old new : Meta) (records others : List Record) : Type 0 where
  pub kept : Keeps disk now new records others
  pub stops : Leaves disk old.log.file (HasEither old.log.limit (bodies records) (bodies others)) was now

-- Over any disk: the record was appended to the log and entered in the plan; or it was not, and the plan stays.
pub record Writes {D : Type 0} (disk : Ghosts D) (was now : D) (old new : Meta) (r : Record) (result : Result (Unit {0}) StoreFault) : Type 0 where
  pub appends : Appends disk was now old.log new.log (5 + length (spelling r)) result
  pub ok : OnOk result (new.plan ≡ plan_after old.plan r)
  pub err : OnErr result (new.plan ≡ old.plan)

-- Where the disk exposes its files, of a store that stood for these records, perhaps in doubt with others: it stands for one more
-- after `Ok`; after a fault for what it did, or for these records, perhaps in doubt with one more; each image since has one of the lists.
pub record KeepsWritten {D : Type 0} (disk : Ghosts D) (was now : D) (old new : Meta) (records others : List Record) (r : Record) (result : Result (Unit {0}) StoreFault) : Type 0 where
  pub kept : OnOk result (Keeps disk now new (records ++ r ∷ []) [])
  pub failed : OnErr result (Keeps disk now new records others ⊎ Keeps disk now new records (records ++ r ∷ []))
  pub stops : Leaves disk old.log.file (HasOneOf old.log.limit records others (records ++ r ∷ [])) was now

-- ---- the start of a plan, which empties the log and appends one record

-- all is as before, but perhaps whether the log is sure
abbrev pub SameButDoubt : Meta → Meta → Type 0
SameButDoubt old new = new ≡ record old { log = record old.log { unsure = new.log.unsure } }

-- the log is empty, perhaps in doubt, and there is no plan
abbrev pub IsEmptied : Meta → Meta → Type 0
IsEmptied old new = new ≡ record { log = record old.log { end = 0; unsure = new.log.unsure }; plan = None }

-- what may stop any call: out of memory, or a fault of the disk
abbrev pub IsStop : StoreFault → Type 0
IsStop fault = (fault ≡ StoreFault.NoMemory) ⊎ (fault ≡ StoreFault.DiskFault)

-- Over any disk: a sure log was emptied, or the count of faults rose and it is in doubt. There is no plan.
pub record Empties {D : Type 0} (disk : Ghosts D) (was now : D) (old new : Meta) (result : Result (Unit {0}) StoreFault) : Type 0 where
  pub emptied : IsEmptied old new
  pub ok : OnOk result (new.log.unsure ≡ false)
  pub errors : (e : StoreFault) → result ≡ Err e → e ≡ StoreFault.DiskFault
  pub counts : CountsFault StoreFault.DiskFault (disk.faults was) (disk.faults now) result
  pub known : IsKnown disk now new
  pub touches : Touches disk old.log.file was now

-- Where the disk exposes its files, of a store that stood for these records: it stands for none, after a fault perhaps in doubt with
-- them; each image since has them or none.
pub record KeepsEmptied {D : Type 0} (disk : Ghosts D) (was now : D) (old new : Meta) (records : List Record) (result : Result (Unit {0}) StoreFault) : Type 0 where
  pub kept : OnOk result (Keeps disk now new [] [])
  pub failed : OnErr result (Keeps disk now new [] records)
  pub stops : Leaves disk old.log.file (HasEither old.log.limit (bodies []) (bodies records)) was now

-- Over any disk: the record is the only one of the log, and the log is sure; or memory was not enough, and all stays; or the count of
-- faults rose, and the log may be in doubt, with all else as before or with no record and no plan.
pub record Starts {D : Type 0} (disk : Ghosts D) (was now : D) (old new : Meta) (r : Record) (result : Result (Unit {0}) StoreFault) : Type 0 where
  pub ok : OnOk result (new ≡ record { log = record old.log { end = 5 + length (spelling r); unsure = false }; plan = plan_after None r })
  pub err : OnErr result (SameButDoubt old new ⊎ IsEmptied old new)
  pub errors : (e : StoreFault) → result ≡ Err e → IsStop e
  pub untouched : result ≡ Err StoreFault.NoMemory → (new ≡ old) × (now ≡ was)
  pub counts : CountsFault StoreFault.DiskFault (disk.faults was) (disk.faults now) result
  pub known : IsKnown disk now new
  pub touches : Touches disk old.log.file was now

-- one of the lists that a start may leave: the old ones, none, or its record
abbrev pub HasOldOrNew : ℕ → List Record → List Record → Record → List ℕ → Type 0
HasOldOrNew limit records others r file = HasOneOf limit records others [] file ⊎ HasList limit file (bodies (r ∷ []))

-- Where the disk exposes its files, of a store that stood for these records, perhaps in doubt with others: it stands for the start's
-- record after `Ok`; after a fault for what it did, or for none, perhaps in doubt with these records or with the start's.
pub record KeepsStarted {D : Type 0} (disk : Ghosts D) (was now : D) (old new : Meta) (records others : List Record) (r : Record) (result : Result (Unit {0}) StoreFault) : Type 0 where
  pub kept : OnOk result (Keeps disk now new (r ∷ []) [])
  pub failed : OnErr result (Keeps disk now new records others ⊎ (Keeps disk now new [] records ⊎ Keeps disk now new [] (r ∷ [])))
  pub stops : Leaves disk old.log.file (HasOldOrNew old.log.limit records others r) was now

-- ---- opening

-- The log is sure, in this file, with this limit, and its end lies within the known length.
pub record IsSettled {D : Type 0} (disk : Ghosts D) (now : D) (file limit : ℕ) (store : Meta) : Type 0 where
  pub sure : store.log.unsure ≡ false
  pub log : (store.log.file ≡ file) × (store.log.limit ≡ limit)
  pub known : IsKnown disk now store

-- A store that was opened. Where the disk exposes its files, it stands for the records that the file had.
pub record IsOpened {D : Type 0} (disk : Ghosts D) (was now : D) (file limit : ℕ) (store : Meta) : Type 0 where
  pub keeps : IsTrue disk.told → (records : List Record) × IsMeta limit (disk.files was file) records × Keeps disk now store records []
  pub settled : IsSettled disk now file limit store

-- a fault where no record is to be written
abbrev pub IsOpeningFault : StoreFault → Type 0
IsOpeningFault fault = (file need room : ℕ) → fault ≡ StoreFault.LogFull file need room → ⊥

-- Over any disk: the files went by this step, the count of faults rises exactly where the answer is the disk's fault, and a fault is
-- one of these.
pub record Reads {D T : Type 0} (disk : Ghosts D) (step : Files → Files → Type 0) (was now : D) (faults : StoreFault → Type 0) (result : Result T StoreFault) : Type 0 where
  pub errors : (fault : StoreFault) → result ≡ Err fault → faults fault
  pub goes : Goes disk step was now
  pub counts : CountsFault StoreFault.DiskFault (disk.faults was) (disk.faults now) result

-- no file changes, unless this one had no more than a byte: it may become an empty log
abbrev pub MakesEmpty : {D : Type 0} → Ghosts D → D → ℕ → Files → Files → Type 0
MakesEmpty disk was file = Changes file (Opens (disk.files was file))

-- how plans and stores are told apart
abbrev pub log_code : Coded Log
log_code =
    code_by (ℕ × (ℕ × (ℕ × Bool))) (coded× coded_ℕ (coded× coded_ℕ (coded× coded_ℕ coded_bool)))
    (λ l. (l.file, (l.limit, (l.end, l.unsure)))) (λ t. record { file = t.0; limit = t.1.0; end = t.1.1.0; unsure = t.1.1.1 }) (λ _. refl)

abbrev pub plan_code : Coded Plan
plan_code =
    code_by (ℕ × (List (List ℕ) × (List (List ℕ) × (Bool × (ℕ × ℕ)))))
    (coded× coded_ℕ (coded× (coded_list (coded_list coded_ℕ)) (coded× (coded_list (coded_list coded_ℕ)) (coded× coded_bool (coded× coded_ℕ coded_ℕ)))))
    (λ p. (p.edge, (p.roots, (p.cold, (p.sealed, (p.copied, p.purged))))))
    (λ t. record { edge = t.0; roots = t.1.0; cold = t.1.1.0; sealed = t.1.1.1.0; copied = t.1.1.1.1.0; purged = t.1.1.1.1.1 }) (λ _. refl)

abbrev pub meta_code : Coded Meta
meta_code =
    code_by (Log × Option Plan) (coded× log_code (coded_option plan_code))
    (λ s. (s.log, s.plan)) (λ t. record { log = t.0; plan = t.1 }) (λ _. refl)
