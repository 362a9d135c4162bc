-- Which statuses a run comes to, where the script is good: what is wrong with the store, or nothing.
use Rattle.std.proofs.Common.{◌≡◌, ◌⊎◌, inl, inr, ⊎_elim, ℕ, min, ◌+◌, ◌-◌, ◌^◌, ◌<◌, ◌≤◌, Bool, List, [], Some, Result, Ok, Err, refl, sym, ap, ◌∙◌, subst, arith}
use Rattle.std.specs.Prelude.{IsTrue}
use Rattle.ss_device.specs.Disk.{Rose}
use Rattle.ss_device.specs.Faults.{CountsFault}
use Rattle.ss_device.specs.declared.disk.Disk.{Ghosts}
use Rattle.ss_records.specs.declared.record.Config.{Config as Settings}
use Rattle.ss_device.specs.Disk.{Files}
use Rattle.ss_model.specs.declared.call.Entry.{Entry}
use Rattle.ss_app.specs.declared.TheConstants.{SCRIPT_BYTES}
use Rattle.ss_script.specs.declared.line.Line.{Line}
use Rattle.ss_app.specs.declared.ending.Ending.{Ending}
use Rattle.ss_app.specs.declared.ending.Ending.TheVariants as ends
use Rattle.ss_app.specs.Ending.{status_of, ending_of_open, ending_of_outcome}
use Rattle.ss_open.specs.Opening.{IsCommitted, HasNoStore, IsDamagedStore, Opens}
use Rattle.ss_open.specs.declared.fault.OpenFault.{OpenFault}
use Rattle.ss_open.specs.declared.fault.OpenFault.TheVariants as opening
use Rattle.ss_import.proofs.Counted.{quiet_import}
use Rattle.ss_import.specs.declared.importer.Imported.{Imported}
use Rattle.ss_import.specs.declared.fault.ImportFault.{ImportFault}
use Rattle.ss_import.specs.declared.fault.ImportFault.TheVariants as import
use Rattle.ss_app.specs.Outcome.{IsNotOpened, IsImported, IsInformed}
use Rattle.ss_app.proofs.ImportFaults.{faults_of, import_faults}
use Rattle.ss_app.specs.Outcome.{Traced, Inited, Writes, Ran, HasReason, HasInitReason, CountsSource, CountsDisk, AsksFor, RefusesStore, RefusesInit, IsFreeOfDisk, IsValidInit, TellsFaults}
use Rattle.ss_app.specs.World.{Says}
use Rattle.ss_app.specs.World.{Output, World}
use Rattle.ss_history.specs.Story.{AreCounted, faults_in}
use Rattle.ss_app.specs.declared.words.Command.{Command}
use Rattle.ss_app.specs.declared.words.Command.TheVariants.{Init, Trace, Import, Info, Help, Version}
use Rattle.ss_open.proofs.Openings.{stands_apart}
use Rattle.ss_history.proofs.Fulfilled.{err_or_ok}

-- what is said of an ending, or of a sink that failed
pub own_or_five : (old new : Output) (bytes : List ℕ) (own status : ℕ) → Says old new bytes own status → ((status ≡ own) × (new.faults ≡ old.faults)) ⊎ ((status ≡ 5) × Rose old.faults new.faults)
own_or_five old new bytes own status (inl said) = inl (said.0, said.2)
own_or_five old new bytes own status (inr said) = inr (said.0, said.2)

too_many : (n most : ℕ) → most < n → n ≤ most → ⊥
too_many n most more few = omega (arith, more, few)

-- a damaged store has settings
pub committed_of : (files : Files) (file at : ℕ) → IsDamagedStore files file at → (settings : Settings) × IsCommitted files settings
committed_of files file at (is, inl half) = (half.settings, half.committed)
committed_of files file at (is, inr many) = (many.0.0, many.0.2.committed)

module _ {D : Type 0} (disk : Ghosts D) (old new : World D) (h : List Entry) (told : IsTrue disk.told) where
  seven : (e : Ending) → status_of e ≡ 7 → HasReason disk old new h e → HasNoStore (disk.files old.disk)
  seven ends.Done is7 reason = absurd (cc)
  seven (ends.Usage word) is7 reason = absurd (cc)
  seven ends.NoMemory is7 reason = absurd (cc)
  seven ends.ReadFault is7 reason = absurd (cc)
  seven ends.DiskFault is7 reason = absurd (cc)
  seven ends.NoStore is7 reason = reason.2 told
  seven ends.StoreExists is7 reason = absurd reason
  seven (ends.Damaged file at) is7 reason = absurd (cc)
  seven (ends.BadScript line kind) is7 reason = absurd (cc)
  seven ends.TooLong is7 reason = absurd (cc)
  seven (ends.NotImported fault) is7 reason = absurd reason
  seven (ends.Imported imported) is7 reason = absurd reason
  seven (ends.Informed info) is7 reason = absurd reason

  eight : (e : Ending) → status_of e ≡ 8 → HasReason disk old new h e → (file at : ℕ) × IsDamagedStore (disk.files old.disk) file at
  eight ends.Done is8 reason = absurd (cc)
  eight (ends.Usage word) is8 reason = absurd (cc)
  eight ends.NoMemory is8 reason = absurd (cc)
  eight ends.ReadFault is8 reason = absurd (cc)
  eight ends.DiskFault is8 reason = absurd (cc)
  eight ends.NoStore is8 reason = absurd (cc)
  eight ends.StoreExists is8 reason = absurd reason
  eight (ends.Damaged file at) is8 reason = (file, at, reason.3 told)
  eight (ends.BadScript line kind) is8 reason = absurd (cc)
  eight ends.TooLong is8 reason = absurd (cc)
  eight (ends.NotImported fault) is8 reason = absurd reason
  eight (ends.Imported imported) is8 reason = absurd reason
  eight (ends.Informed info) is8 reason = absurd reason

  from_none : (script : List ℕ) (lines : List Line) (e : Ending) → old.source.left ≡ Some script → AsksFor script lines → HasReason disk old new h e → HasNoStore (disk.files old.disk) → (status_of e ≡ 7) ⊎ IsFreeOfDisk (status_of e)
  from_none script lines ends.Done known asks reason none = let stands = (reason.1 told).1 in absurd (none stands.settings stands.half.committed)
  from_none script lines (ends.Usage word) known asks reason none = absurd reason
  from_none script lines ends.NoMemory known asks reason none = inr (inl (inl refl))
  from_none script lines ends.ReadFault known asks reason none = inr (inl (inr (inl refl)))
  from_none script lines ends.DiskFault known asks reason none = inr (inr refl)
  from_none script lines ends.NoStore known asks reason none = inl refl
  from_none script lines ends.StoreExists known asks reason none = absurd reason
  from_none script lines (ends.Damaged file at) known asks reason none = let found = committed_of (disk.files old.disk) file at (reason.3 told) in absurd (none found.0 found.1)
  from_none script lines (ends.BadScript line kind) known asks reason none = absurd (err_or_ok _ _ _ (reason.1 script known).1 asks.1)
  from_none script lines ends.TooLong known asks reason none = absurd (too_many _ SCRIPT_BYTES (reason.1 script known) asks.0)
  from_none script lines (ends.NotImported fault) known asks reason none = absurd reason
  from_none script lines (ends.Imported imported) known asks reason none = absurd reason
  from_none script lines (ends.Informed info) known asks reason none = absurd reason

  from_damaged : (script : List ℕ) (lines : List Line) (file at : ℕ) (e : Ending) → old.source.left ≡ Some script → AsksFor script lines → HasReason disk old new h e → IsDamagedStore (disk.files old.disk) file at → (status_of e ≡ 8) ⊎ IsFreeOfDisk (status_of e)
  from_damaged script lines file at ends.Done known asks reason damaged = let stands = (reason.1 told).1 in absurd (stands_apart (disk.files old.disk) file at _ damaged stands)
  from_damaged script lines file at (ends.Usage word) known asks reason damaged = absurd reason
  from_damaged script lines file at ends.NoMemory known asks reason damaged = inr (inl (inl refl))
  from_damaged script lines file at ends.ReadFault known asks reason damaged = inr (inl (inr (inl refl)))
  from_damaged script lines file at ends.DiskFault known asks reason damaged = inr (inr refl)
  from_damaged script lines file at ends.NoStore known asks reason damaged = let found = committed_of (disk.files old.disk) file at damaged in absurd (reason.2 told found.0 found.1)
  from_damaged script lines file at ends.StoreExists known asks reason damaged = absurd reason
  from_damaged script lines file at (ends.Damaged other place) known asks reason damaged = inl refl
  from_damaged script lines file at (ends.BadScript line kind) known asks reason damaged = absurd (err_or_ok _ _ _ (reason.1 script known).1 asks.1)
  from_damaged script lines file at ends.TooLong known asks reason damaged = absurd (too_many _ SCRIPT_BYTES (reason.1 script known) asks.0)
  from_damaged script lines file at (ends.NotImported fault) known asks reason damaged = absurd reason
  from_damaged script lines file at (ends.Imported imported) known asks reason damaged = absurd reason
  from_damaged script lines file at (ends.Informed info) known asks reason damaged = absurd reason

-- a status that is five is neither of the others
pub not_five : (status n : ℕ) → (n ≡ 7) ⊎ (n ≡ 8) → status ≡ 5 → status ≡ n → ⊥
not_five status n (inl seven) five is = absurd (let no_five : 5 ≡ 7 = sym five ∙ is ∙ seven in cc)
not_five status n (inr eight) five is = absurd (let no_five : 5 ≡ 8 = sym five ∙ is ∙ eight in cc)

pub free_five : (status : ℕ) → status ≡ 5 → IsFreeOfDisk status
free_five status five = inl (inr (inr five))

pub refuses_store : {D : Type 0} (disk : Ghosts D) (old new : World D) (status : ℕ) (script : List ℕ) (lines : List Line)
    → Traced disk old new status → old.source.left ≡ Some script → AsksFor script lines → IsTrue disk.told → RefusesStore (disk.files old.disk) status
refuses_store disk old new status script lines t known asks told =
    let said = own_or_five _ _ _ _ _ t.said in
    record {
      no_store = λ e. ⊎_elim (λ own. seven disk old new t.history told t.ending (sym own.0 ∙ e) t.reason) (λ five. absurd (not_five status 7 (inl refl) five.0 e)) said;
      damaged = λ e. ⊎_elim (λ own. eight disk old new t.history told t.ending (sym own.0 ∙ e) t.reason) (λ five. absurd (not_five status 8 (inr refl) five.0 e)) said;
      from_none = λ none. ⊎_elim (λ own. subst (λ n. (n ≡ 7) ⊎ IsFreeOfDisk n) (sym own.0) (from_none disk old new t.history told script lines t.ending known asks t.reason none)) (λ five. inr (free_five status five.0)) said;
      from_damaged = λ file at damaged. ⊎_elim (λ own. subst (λ n. (n ≡ 8) ⊎ IsFreeOfDisk n) (sym own.0) (from_damaged disk old new t.history told script lines file at t.ending known asks t.reason damaged)) (λ five. inr (free_five status five.0)) said;
    }

module _ {D : Type 0} (disk : Ghosts D) (old new : World D) (settings : Settings) (told : IsTrue disk.told) where
  exists_of : (e : Ending) → status_of e ≡ 7 → HasInitReason disk old.disk new.disk settings e → (committed : Settings) × IsCommitted (disk.files old.disk) committed
  exists_of ends.Done is7 reason = absurd (cc)
  exists_of (ends.Usage word) is7 reason = absurd reason
  exists_of ends.NoMemory is7 reason = absurd (cc)
  exists_of ends.ReadFault is7 reason = absurd reason
  exists_of ends.DiskFault is7 reason = absurd (cc)
  exists_of ends.NoStore is7 reason = absurd reason
  exists_of ends.StoreExists is7 reason = reason told
  exists_of (ends.Damaged file at) is7 reason = absurd reason
  exists_of (ends.BadScript line kind) is7 reason = absurd reason
  exists_of ends.TooLong is7 reason = absurd reason
  exists_of (ends.NotImported fault) is7 reason = absurd reason
  exists_of (ends.Imported imported) is7 reason = absurd reason
  exists_of (ends.Informed info) is7 reason = absurd reason

  from_store : (e : Ending) (committed : Settings) → IsCommitted (disk.files old.disk) committed → HasInitReason disk old.disk new.disk settings e → (status_of e ≡ 7) ⊎ IsFreeOfDisk (status_of e)
  from_store ends.Done committed has reason = absurd ((reason told).0 committed has)
  from_store (ends.Usage word) committed has reason = absurd reason
  from_store ends.NoMemory committed has reason = inr (inl (inl refl))
  from_store ends.ReadFault committed has reason = absurd reason
  from_store ends.DiskFault committed has reason = inr (inr refl)
  from_store ends.NoStore committed has reason = absurd reason
  from_store ends.StoreExists committed has reason = inl refl
  from_store (ends.Damaged file at) committed has reason = absurd reason
  from_store (ends.BadScript line kind) committed has reason = absurd reason
  from_store ends.TooLong committed has reason = absurd reason
  from_store (ends.NotImported fault) committed has reason = absurd reason
  from_store (ends.Imported imported) committed has reason = absurd reason
  from_store (ends.Informed info) committed has reason = absurd reason

  made_or_not : (e : Ending) → HasNoStore (disk.files old.disk) → ¬ Rose (disk.faults old.disk) (disk.faults new.disk) → CountsDisk e [] (disk.faults old.disk) (disk.faults new.disk) → HasInitReason disk old.disk new.disk settings e → (status_of e ≡ 0) ⊎ (status_of e ≡ 3)
  made_or_not ends.Done none sound counts reason = inl refl
  made_or_not (ends.Usage word) none sound counts reason = absurd reason
  made_or_not ends.NoMemory none sound counts reason = inr refl
  made_or_not ends.ReadFault none sound counts reason = absurd reason
  made_or_not ends.DiskFault none sound counts reason = absurd (sound counts)
  made_or_not ends.NoStore none sound counts reason = absurd reason
  made_or_not ends.StoreExists none sound counts reason = let found = reason told in absurd (none found.0 found.1)
  made_or_not (ends.Damaged file at) none sound counts reason = absurd reason
  made_or_not (ends.BadScript line kind) none sound counts reason = absurd reason
  made_or_not ends.TooLong none sound counts reason = absurd reason
  made_or_not (ends.NotImported fault) none sound counts reason = absurd reason
  made_or_not (ends.Imported imported) none sound counts reason = absurd reason
  made_or_not (ends.Informed info) none sound counts reason = absurd reason

pub refuses_init : {D : Type 0} (disk : Ghosts D) (old new : World D) (settings : Settings) (status : ℕ)
    → Inited disk old new settings status → IsTrue disk.told → RefusesInit (disk.files old.disk) status
refuses_init disk old new settings status i told =
    let said = own_or_five _ _ _ _ _ i.said in
    record {
      exists = λ e. ⊎_elim (λ own. exists_of disk old new settings told i.ending (sym own.0 ∙ e) i.reason) (λ five. absurd (not_five status 7 (inl refl) five.0 e)) said;
      from_store = λ committed found. ⊎_elim (λ own. subst (λ n. (n ≡ 7) ⊎ IsFreeOfDisk n) (sym own.0) (from_store disk old new settings told i.ending committed found i.reason)) (λ five. inr (free_five status five.0)) said;
    }

pub init_completes : {D : Type 0} (disk : Ghosts D) (old new : World D) (settings : Settings) (status : ℕ)
    → Inited disk old new settings status → IsValidInit disk old new → (status ≡ 0) ⊎ (status ≡ 3)
init_completes disk old new settings status i valid =
    ⊎_elim (λ own. subst (λ n. (n ≡ 0) ⊎ (n ≡ 3)) (sym own.0) (made_or_not disk old new settings valid.tells i.ending valid.none valid.faults i.faults i.reason)) (λ five. absurd (valid.sink five.1)) (own_or_five _ _ _ _ _ i.said)

-- what the counts of faults tell, by the status of how a run ended
record Blames {D : Type 0} (disk : Ghosts D) (old new : World D) (own : ℕ) : Type 0 where
  never : own ≡ 5 → ⊥
  read : own ≡ 4 → Rose old.source.faults new.source.faults
  source : (own ≡ 4) ⊎ (new.source.faults ≡ old.source.faults)
  store : own ≡ 6 → Rose (disk.faults old.disk) (disk.faults new.disk)
  sound : (own ≡ 0) ⊎ ((own ≡ 3) ⊎ ((own ≡ 6) ⊎ (disk.faults new.disk ≡ disk.faults old.disk)))

-- no count rose
blames_none : {D : Type 0} (disk : Ghosts D) (old new : World D) (own : ℕ) → (own ≡ 5 → ⊥) → (own ≡ 4 → ⊥) → (own ≡ 6 → ⊥) → new.source.faults ≡ old.source.faults → disk.faults new.disk ≡ disk.faults old.disk → Blames disk old new own
blames_none disk old new own no5 no4 no6 source sound = record { never = no5; read = λ is. absurd (no4 is); source = inr source; store = λ is. absurd (no6 is); sound = inr (inr (inr sound)) }

no_entry : (before now : ℕ) (h : List Entry) → h ≡ [] → AreCounted before now h → now ≡ before
no_entry before now h none counted = counted.none (ap faults_in none)

-- a count that stands where one fault put it has risen
one_rose : (before now met : ℕ) → met ≡ 1 → min (before + met) (2 ^ 64 - 1) ≤ now → Rose before now
one_rose before now met one enough = subst (λ n. min (before + n) (2 ^ 64 - 1) ≤ now) one enough

module _ {D : Type 0} (disk : Ghosts D) (old new : World D) where
  blames_trace : (h : List Entry) (e : Ending) → HasReason disk old new h e → CountsSource e old.source.faults new.source.faults → CountsDisk e h (disk.faults old.disk) (disk.faults new.disk) → Blames disk old new (status_of e)
  blames_trace h ends.Done reason source faults = record { never = λ is. cc; read = λ is. absurd (cc); source = inr source; store = λ is. absurd (cc); sound = inl refl }
  blames_trace h (ends.Usage word) reason source faults = absurd reason
  blames_trace h ends.NoMemory reason source faults = record { never = λ is. cc; read = λ is. absurd (cc); source = inr source; store = λ is. absurd (cc); sound = inr (inl refl) }
  blames_trace h ends.ReadFault reason source faults = record { never = λ is. cc; read = λ is. source; source = inl refl; store = λ is. absurd (cc); sound = inr (inr (inr (no_entry _ _ h reason faults))) }
  blames_trace h ends.DiskFault reason source faults = record { never = λ is. cc; read = λ is. absurd (cc); source = inr source; store = λ is. faults; sound = inr (inr (inl refl)) }
  blames_trace h ends.NoStore reason source faults = blames_none disk old new 7 (λ is. cc) (λ is. cc) (λ is. cc) source (no_entry _ _ h reason.0 faults)
  blames_trace h ends.StoreExists reason source faults = absurd reason
  blames_trace h (ends.Damaged file at) reason source faults = blames_none disk old new 8 (λ is. cc) (λ is. cc) (λ is. cc) source (no_entry _ _ h reason.0 faults)
  blames_trace h (ends.BadScript line kind) reason source faults = blames_none disk old new 9 (λ is. cc) (λ is. cc) (λ is. cc) source (no_entry _ _ h reason.0 faults)
  blames_trace h ends.TooLong reason source faults = blames_none disk old new 13 (λ is. cc) (λ is. cc) (λ is. cc) source (no_entry _ _ h reason.0 faults)
  blames_trace h (ends.NotImported fault) reason source faults = absurd reason
  blames_trace h (ends.Imported imported) reason source faults = absurd reason
  blames_trace h (ends.Informed info) reason source faults = absurd reason

  blames_init : (settings : Settings) (e : Ending) → HasInitReason disk old.disk new.disk settings e → new.source ≡ old.source → CountsDisk e [] (disk.faults old.disk) (disk.faults new.disk) → Blames disk old new (status_of e)
  blames_init settings ends.Done reason source faults = record { never = λ is. cc; read = λ is. absurd (cc); source = inr (ap (λ i. i.faults) source); store = λ is. absurd (cc); sound = inl refl }
  blames_init settings (ends.Usage word) reason source faults = absurd reason
  blames_init settings ends.NoMemory reason source faults = record { never = λ is. cc; read = λ is. absurd (cc); source = inr (ap (λ i. i.faults) source); store = λ is. absurd (cc); sound = inr (inl refl) }
  blames_init settings ends.ReadFault reason source faults = absurd reason
  blames_init settings ends.DiskFault reason source faults = record { never = λ is. cc; read = λ is. absurd (cc); source = inr (ap (λ i. i.faults) source); store = λ is. faults; sound = inr (inr (inl refl)) }
  blames_init settings ends.NoStore reason source faults = absurd reason
  blames_init settings ends.StoreExists reason source faults = blames_none disk old new 7 (λ is. cc) (λ is. cc) (λ is. cc) (ap (λ i. i.faults) source) (faults.none refl)
  blames_init settings (ends.Damaged file at) reason source faults = absurd reason
  blames_init settings (ends.BadScript line kind) reason source faults = absurd reason
  blames_init settings ends.TooLong reason source faults = absurd reason
  blames_init settings (ends.NotImported fault) reason source faults = absurd reason
  blames_init settings (ends.Imported imported) reason source faults = absurd reason
  blames_init settings (ends.Informed info) reason source faults = absurd reason

  -- the store was not opened
  blames_open : (fault : OpenFault) → new.source ≡ old.source → Opens {disk = disk} old.disk (Err (fault, new.disk)) → Blames disk old new (status_of (ending_of_open fault))
  blames_open opening.NoStore source opens = blames_none disk old new 7 (λ is. cc) (λ is. cc) (λ is. cc) (ap (λ i. i.faults) source) opens.counts
  blames_open opening.StoreExists source opens = absurd (opens.errors opening.StoreExists new.disk refl)
  blames_open (opening.Damaged file at) source opens = blames_none disk old new 8 (λ is. cc) (λ is. cc) (λ is. cc) (ap (λ i. i.faults) source) opens.counts
  blames_open opening.DiskFault source opens = record { never = λ is. cc; read = λ is. absurd (cc); source = inr (ap (λ i. i.faults) source); store = λ is. opens.counts; sound = inr (inr (inl refl)) }
  blames_open opening.NoMemory source opens = record { never = λ is. cc; read = λ is. absurd (cc); source = inr (ap (λ i. i.faults) source); store = λ is. absurd (cc); sound = inr (inl refl) }

  sound_source : (outcome : Result Imported ImportFault) → CountsFault import.ReadFault old.source.faults new.source.faults outcome → (outcome ≡ Err import.ReadFault → ⊥) → new.source.faults ≡ old.source.faults
  sound_source outcome source none = quiet_import old.source.faults new.source.faults outcome source none

  -- an import met these faults of the disk, and told them
  blames_import : (outcome : Result Imported ImportFault) (h : List Entry) → AreCounted (disk.faults old.disk) (disk.faults new.disk) h → faults_in h ≡ faults_of outcome → CountsFault import.ReadFault old.source.faults new.source.faults outcome → Blames disk old new (status_of (ending_of_outcome outcome))
  blames_import (Ok done) h counted met source = record { never = λ is. cc; read = λ is. absurd (cc); source = inr (sound_source _ source (λ failed. cc)); store = λ is. absurd (cc); sound = inl refl }
  blames_import (Err import.NoMemory) h counted met source = record { never = λ is. cc; read = λ is. absurd (cc); source = inr (sound_source _ source (λ failed. cc)); store = λ is. absurd (cc); sound = inr (inl refl) }
  blames_import (Err import.ReadFault) h counted met source = record { never = λ is. cc; read = λ is. source.rose refl; source = inl refl; store = λ is. absurd (cc); sound = inr (inr (inr (counted.none met))) }
  blames_import (Err import.DiskFault) h counted met source = record { never = λ is. cc; read = λ is. absurd (cc); source = inr (sound_source _ source (λ failed. cc)); store = λ is. one_rose _ _ (faults_in h) met counted.enough; sound = inr (inr (inl refl)) }
  blames_import (Err (import.BadCar fault offset)) h counted met source = blames_none disk old new 10 (λ is. cc) (λ is. cc) (λ is. cc) (sound_source _ source (λ failed. cc)) (counted.none met)
  blames_import (Err (import.BadBlock fault offset)) h counted met source = blames_none disk old new 10 (λ is. cc) (λ is. cc) (λ is. cc) (sound_source _ source (λ failed. cc)) (counted.none met)
  blames_import (Err (import.LogFull file need room)) h counted met source = blames_none disk old new 11 (λ is. cc) (λ is. cc) (λ is. cc) (sound_source _ source (λ failed. cc)) (counted.none met)
  blames_import (Err (import.TableFull rows)) h counted met source = blames_none disk old new 12 (λ is. cc) (λ is. cc) (λ is. cc) (sound_source _ source (λ failed. cc)) (counted.none met)
  blames_import (Err import.TooLong) h counted met source = blames_none disk old new 13 (λ is. cc) (λ is. cc) (λ is. cc) (sound_source _ source (λ failed. cc)) (counted.none met)
  blames_import (Err (import.BadHead reply)) h counted met source = blames_none disk old new 16 (λ is. cc) (λ is. cc) (λ is. cc) (sound_source _ source (λ failed. cc)) (counted.none met)

  not_opened : (ending : Ending) → IsNotOpened disk old new ending → Blames disk old new (status_of ending)
  not_opened ending n = subst (λ e. Blames disk old new (status_of e)) (sym n.ends) (blames_open n.fault n.source n.opens)

  imported : (wants : Bool) (ending : Ending) → IsImported wants disk old new ending → Blames disk old new (status_of ending)
  imported wants ending i = subst (λ e. Blames disk old new (status_of e)) (sym i.ends) (blames_import i.outcome _ i.imports.did.1 (import_faults i.imports) i.source)

  informed : (ending : Ending) → IsInformed disk old new ending → Blames disk old new (status_of ending)
  informed ending i = subst (λ e. Blames disk old new (status_of e)) (sym i.ends) (blames_none disk old new 0 (λ is. cc) (λ is. cc) (λ is. cc) (ap (λ s. s.faults) i.source) i.faults)

  -- the same of the status of the run, which is that of its ending, or 5
  tells : (bytes : List ℕ) (own status : ℕ) → Blames disk old new own → Says old.sink new.sink bytes own status → TellsFaults disk old new status
  tells bytes own status b (inl said) = record {
    write = λ is. absurd (b.never (sym said.0 ∙ is));
    sink = inr said.2;
    read = λ is. b.read (sym said.0 ∙ is);
    source = ⊎_elim (λ four. inl (said.0 ∙ four)) (λ same. inr (inr same)) b.source;
    store = λ is. b.store (sym said.0 ∙ is);
    sound = inr (subst (λ n. (n ≡ 0) ⊎ ((n ≡ 3) ⊎ ((n ≡ 6) ⊎ (disk.faults new.disk ≡ disk.faults old.disk)))) (sym said.0) b.sound);
  }
  tells bytes own status b (inr said) = record {
    write = λ is. said.2;
    sink = inl said.0;
    read = λ is. absurd (let no : 5 ≡ 4 = sym said.0 ∙ is in cc);
    source = inr (inl said.0);
    store = λ is. absurd (let no : 5 ≡ 6 = sym said.0 ∙ is in cc);
    sound = inl said.0;
  }

  tells_written : (bytes : List ℕ) (own status : ℕ) → (own ≡ 0) ⊎ (own ≡ 2) → Writes old new bytes own status → TellsFaults disk old new status
  tells_written bytes own status which w = tells bytes own status (by which) w.said
    where
      source : new.source.faults ≡ old.source.faults
      source = ap (λ i. i.faults) w.source

      by : (own ≡ 0) ⊎ (own ≡ 2) → Blames disk old new own
      by (inl is) = rw is (blames_none disk old new 0 (λ e. cc) (λ e. cc) (λ e. cc) source (ap disk.faults w.disk))
      by (inr is) = rw is (blames_none disk old new 2 (λ e. cc) (λ e. cc) (λ e. cc) source (ap disk.faults w.disk))

  pub tells_faults : (asked : Result Command ℕ) (status : ℕ) → Ran asked disk old new status → TellsFaults disk old new status
  tells_faults (Ok (Init settings)) status i = tells _ _ status (blames_init settings i.ending i.reason i.source i.faults) i.said
  tells_faults (Ok Trace) status t = tells _ _ status (blames_trace t.history t.ending t.reason t.source t.faults) t.said
  tells_faults (Ok (Import wants)) status r = tells _ _ status (⊎_elim (not_opened r.ending) (imported wants r.ending) r.reason) r.said
  tells_faults (Ok Info) status r = tells _ _ status (⊎_elim (not_opened r.ending) (informed r.ending) r.reason) r.said
  tells_faults (Ok Help) status w = tells_written _ 0 status (inl refl) w
  tells_faults (Ok Version) status w = tells_written _ 0 status (inl refl) w
  tells_faults (Err word) status w = tells_written _ 2 status (inr refl) w
