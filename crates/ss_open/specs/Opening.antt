-- What opening a store, and making one, come to.
use Rattle.std.specs.Prelude.{◌≡◌, ◌⊎◌, ℕ, ◌<◌, ◌≤◌, List, [], Result, Ok, Err, IsTrue, IfOk, IfErr}
use Rattle.ss_device.specs.{declared.disk.Disk.Ghosts, Disk.{Files, Same, Evolves, Rose}, Calls.Goes}
use Rattle.ss_gatelog.specs.{Log.HasList, GateLog.CountsFault}
use Rattle.ss_records.specs.{declared.record.Config.Config as Settings, declared.record.Record.Record, Record.SettingsFit}
use Rattle.ss_hot.specs.{Half.{hot_blocks, HasSettings, IsHalf, IsDamagedHalf}}
use Rattle.ss_model.specs.State.{State, empty_state}
use Rattle.ss_core.specs.{declared.split_core.SplitCore.SplitCore, LogFiles.hot_file, StandsFor.{no_doubt, HasState, StandsFor}}
use Rattle.ss_open.specs.declared.fault.OpenFault.{OpenFault}
use Rattle.ss_store.specs.declared.fault.StoreFault.{StoreFault}
use Rattle.std.specs.FinMap as finite_map
use Rattle.std.specs.FinSet as finite_set

-- the fault with which a store is not opened, by that of its log
abbrev pub open_fault : StoreFault → OpenFault
open_fault StoreFault.NoMemory = OpenFault.NoMemory
open_fault StoreFault.DiskFault = OpenFault.DiskFault
open_fault (StoreFault.Damaged file at) = OpenFault.Damaged file at
open_fault (StoreFault.LogFull file need room) = OpenFault.DiskFault

-- these settings are committed on the disk
abbrev pub IsCommitted : Files → Settings → Type 0
IsCommitted files settings = HasSettings (files hot_file) settings

-- no settings are
abbrev pub HasNoStore : Files → Type 0
HasNoStore files = (settings : Settings) → IsCommitted files settings → ⊥

-- more blocks are kept than the settings allow
abbrev pub HasTooMany : Files → Type 0
HasTooMany files = (settings : Settings) × (records : List Record) × IsHalf (files hot_file) settings records × (settings.rows < finite_map.len (hot_blocks records))

-- The files are of a store, and this one is damaged here: at the first record at fault, or, where only too many blocks are kept, at the settings' gate.
abbrev pub IsDamagedStore : Files → ℕ → ℕ → Type 0
IsDamagedStore files file at = (file ≡ hot_file) × (IsDamagedHalf (files hot_file) at ⊎ (HasTooMany files × (at ≡ 14)))

-- each file but that of the hot log is an empty log
abbrev pub AreEmptyBeside : ℕ → Files → Type 0
AreEmptyBeside limit files = (file : ℕ) → 1 ≤ file → file ≤ 5 → HasList limit (files file) []

-- each image now has a store with these settings in which nothing is kept, and no other file has a record
abbrev pub IsNewStore : {D : Type 0} → Ghosts D → D → Settings → Type 0
IsNewStore disk now settings =
    (left : Files) → disk.image now (disk.moment now) left → HasState left (empty_state settings) × AreEmptyBeside settings.limit left

-- the disk as it comes back, in the store or beside the fault
abbrev pub disk_of : {D : Type 0} {disk : Ghosts D} → Result (SplitCore D disk) (OpenFault × D) → D
disk_of (Ok core) = core.disk
disk_of (Err (fault, back)) = back

-- the answer without it
abbrev pub answer_of : {D : Type 0} {disk : Ghosts D} → Result (SplitCore D disk) (OpenFault × D) → Result (SplitCore D disk) OpenFault
answer_of (Ok core) = Ok core
answer_of (Err (fault, back)) = Err fault

-- A fault that the disk counted is answered as one, and nothing else is.
abbrev pub CountsOpening : {D : Type 0} {disk : Ghosts D} → ℕ → ℕ → Result (SplitCore D disk) (OpenFault × D) → Type 0
CountsOpening before now (Err (OpenFault.DiskFault, back)) = Rose before now
CountsOpening before now _ = now ≡ before

-- Where the disk exposes its files: the store stands for the state that the file had; or the file has no store, or is damaged.
abbrev pub Opened : {D : Type 0} (disk : Ghosts D) → D → Result (SplitCore D disk) (OpenFault × D) → Type 0
Opened disk was (Ok core) = (s : State) × HasState (disk.files was) s × StandsFor core s no_doubt
Opened disk was (Err (OpenFault.NoStore, back)) = HasNoStore (disk.files was)
Opened disk was (Err (OpenFault.Damaged file at, back)) = IsDamagedStore (disk.files was) file at
Opened disk was (Err (OpenFault.StoreExists, back)) = ⊥
Opened disk was (Err _) = Unit {0}

-- a fault with which a store is not opened; a damage is in a log's file
abbrev pub IsOpenFault : OpenFault → Type 0
IsOpenFault OpenFault.StoreExists = ⊥
IsOpenFault (OpenFault.Damaged file at) = file ≡ hot_file
IsOpenFault OpenFault.NoStore = Unit {0}
IsOpenFault OpenFault.DiskFault = Unit {0}
IsOpenFault OpenFault.NoMemory = Unit {0}

-- Over any disk: no file changes, and no view is open.
pub record Opens {D : Type 0} {disk : Ghosts D} (was : D) (result : Result (SplitCore D disk) (OpenFault × D)) : Type 0 where
  pub fits : IfOk result (λ core. SettingsFit core.hot.settings)
  pub views : IfOk result (λ core. core.views ≡ finite_set.empty)
  pub errors : (fault : OpenFault) (back : D) → result ≡ Err (fault, back) → IsOpenFault fault
  pub counts : CountsOpening (disk.faults was) (disk.faults (disk_of result)) result
  pub goes : Goes disk Same was (disk_of result)

-- Where the disk exposes its files: the store that was made, or the settings of the one that is there.
abbrev pub Made : {D : Type 0} (disk : Ghosts D) → D → Settings → Result (SplitCore D disk) (OpenFault × D) → Type 0
Made disk was settings (Ok core) = HasNoStore (disk.files was) × StandsFor core (empty_state settings) no_doubt × IsNewStore disk core.disk settings
Made disk was settings (Err (OpenFault.StoreExists, back)) = (committed : Settings) × IsCommitted (disk.files was) committed
Made disk was settings (Err _) = Unit {0}

-- a fault with which a store is not made
abbrev pub IsInitFault : OpenFault → Type 0
IsInitFault OpenFault.NoStore = ⊥
IsInitFault (OpenFault.Damaged file at) = ⊥
IsInitFault _ = Unit {0}

-- the hot log's file stays
abbrev pub KeepsFirst : Files → Files → Type 0
KeepsFirst old new = new hot_file ≡ old hot_file

-- each image since has the hot log's file as an image then had it, or all other files are empty logs
abbrev pub EmptiesFirst : {D : Type 0} → Ghosts D → ℕ → D → D → Type 0
EmptiesFirst disk limit old new = Evolves (disk.moment old) (disk.image old) (disk.moment new) (disk.image new) (λ a b. KeepsFirst a b ⊎ AreEmptyBeside limit b)

-- Where a store is, or memory is missing, no file changes. Each image since has the hot log's file as one then had it, or all others empty logs.
pub record Inits {D T : Type 0} (disk : Ghosts D) (was now : D) (settings : Settings) (result : Result T OpenFault) : Type 0 where
  pub errors : IfErr result IsInitFault
  pub counts : CountsFault OpenFault.DiskFault (disk.faults was) (disk.faults now) result
  pub kept : IsTrue disk.told → HasNoStore (disk.files was) ⊎ Goes disk Same was now
  pub memory : result ≡ Err OpenFault.NoMemory → Goes disk Same was now
  pub stops : IsTrue disk.told → EmptiesFirst disk settings.limit was now
