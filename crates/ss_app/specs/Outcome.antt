-- What a run comes to.
--
-- A run of `trace` has an ending, and a history of the calls that it made: legal from the state that the files had, and printed from
-- the front. What is written is what was printed of the history and then the line of the ending, and the status is the ending's.
-- Where the sink failed the status is 5, and a prefix of these bytes is written; all else stands. The other commands have an ending
-- alone.
use Rattle.std.specs.{Prelude.{◌≡◌, ◌⊎◌, ℕ, Bool, true, false, ◌<◌, ◌≤◌, List, [], ◌++◌, length, codes, Option, Some, Result, Ok, Err, IsOk, IsErr, IsTrue, OnOk}, Option.ForSome, Io.KnownBytes.{Appends, IsAtEnd}}
use Rattle.ss_device.specs.{declared.disk.Disk.Ghosts, Disk.{Files, Same, Rose}, Faults.CountsFault, Calls.Goes}
use Rattle.ss_records.specs.declared.record.Config.{Config as Settings}
use Rattle.ss_model.specs.{State.State, Lawful.{info_of}, declared.call.{Entry.Entry, Info.Info as StoreInfo}}
use Rattle.ss_core.specs.{LogFiles.hot_file, StandsFor.{HasState, KeepsState}}
use Rattle.ss_open.specs.{Opening.{IsCommitted, HasNoStore, IsDamagedStore, IsNewStore, EmptiesFirst, Opened, Opens}, declared.fault.OpenFault.OpenFault}
use Rattle.ss_script.specs.{declared.{TheConstants.CLIENTS, line.Line.Line, fault.ScriptFault.TheVariants.Bad}, Script.script_of, Text.text, Views.no_views}
use Rattle.ss_app.specs.{declared.{TheConstants.SCRIPT_BYTES, help.TheConstants.{HELP, VERSION}, words.Command.{Command, TheVariants.{Init, Trace, Import, Info, Help, Version}}, ending.Ending.{Ending, TheVariants.{Done, Usage, NoMemory, ReadFault, DiskFault, NoStore, StoreExists, Damaged, BadScript, TooLong, Informed}}}, Ending.{status_of, line_of, ending_of_open, ending_of_outcome}, World.{IsTooLong, Input, Output, World, Says}, Progress.InOrder}
use Rattle.ss_history.specs.Story.{AreCounted, HavePlace, IsFulfilled, HasStore, IsHistory}
use Rattle.ss_car.specs.Car.{Section}
use Rattle.ss_import.specs.{Import.{IsImport, entries_of, IsImportable}, declared.{importer.Imported.Imported, fault.ImportFault.ImportFault}}

-- the script is no longer than it may be, and asks for these lines
abbrev pub AsksFor : List ℕ → List Line → Type 0
AsksFor script lines = (length script ≤ SCRIPT_BYTES) × (script_of CLIENTS script ≡ Ok lines)

-- the script asks for some lines
abbrev pub Asks : Option (List ℕ) → Type 0
Asks left = (lines : List Line) × ForSome left (λ script. AsksFor script lines)

-- Why a run of `trace` that made these calls ends so.
abbrev pub HasReason : {D : Type 0} → Ghosts D → World D → World D → List Entry → Ending → Type 0
HasReason disk old new h Done = IsAtEnd new.source.left × (IsTrue disk.told → HasStore (disk.files old.disk)) × (lines : List Line) × InOrder no_views lines h × ForSome old.source.left (λ script. AsksFor script lines)
HasReason disk old new h NoMemory = (lines : List Line) × InOrder no_views lines h × ForSome old.source.left (λ script. (h ≡ []) ⊎ ((more : List Line) × AsksFor script (lines ++ more)))
HasReason disk old new h ReadFault = h ≡ []
HasReason disk old new h (BadScript line kind) = (h ≡ []) × ForSome old.source.left (λ script. (length script ≤ SCRIPT_BYTES) × (script_of CLIENTS script ≡ Err (Bad line kind)))
HasReason disk old new h TooLong = (h ≡ []) × IsTooLong old.source.left
HasReason disk old new h DiskFault = (h ≡ []) × Asks old.source.left
HasReason disk old new h NoStore = (h ≡ []) × Asks old.source.left × (IsTrue disk.told → HasNoStore (disk.files old.disk))
HasReason disk old new h (Damaged file at) = (h ≡ []) × Asks old.source.left × (file ≡ hot_file) × (IsTrue disk.told → IsDamagedStore (disk.files old.disk) file at)
HasReason disk old new h _ = ⊥

-- The source's count of faults rose where the run ended by it, and only there.
abbrev pub CountsSource : Ending → ℕ → ℕ → Type 0
CountsSource ReadFault before now = Rose before now
CountsSource _ before now = now ≡ before

-- Where the disk's count of faults rose, the run ended by it before the first call, or entries are its faults.
abbrev pub CountsDisk : Ending → List Entry → ℕ → ℕ → Type 0
CountsDisk DiskFault h before now = Rose before now
CountsDisk _ h before now = AreCounted before now h

-- The lines that a source's script asks for were read, to its end; or this ending tells why not.
abbrev pub Reads : Input → Input → Result (List Line) Ending → Type 0
Reads old new (Ok lines) = IsAtEnd new.left × ForSome old.left (λ script. AsksFor script lines) × (new.faults ≡ old.faults)
Reads old new (Err NoMemory) = new.faults ≡ old.faults
Reads old new (Err ReadFault) = Rose old.faults new.faults
Reads old new (Err (BadScript line kind)) = ForSome old.left (λ script. (length script ≤ SCRIPT_BYTES) × (script_of CLIENTS script ≡ Err (Bad line kind))) × (new.faults ≡ old.faults)
Reads old new (Err TooLong) = IsTooLong old.left × (new.faults ≡ old.faults)
Reads old new (Err _) = ⊥

-- all of the history is printed where the run is done
abbrev pub IsWhole : Ending → List ℕ → Type 0
IsWhole Done unprinted = unprinted ≡ []
IsWhole _ unprinted = Unit {0}

-- Nothing stands in the way of a run of `trace`: the script is exposed, no longer than it may be, and asks for these lines; no count
-- of faults rises; and the disk exposes its files, which have a state.
pub record IsValidTrace {D : Type 0} (disk : Ghosts D) (old new : World D) (script : List ℕ) (lines : List Line) : Type 0 where
  pub told : old.source.left ≡ Some script
  pub asks : AsksFor script lines
  pub source : ¬ Rose old.source.faults new.source.faults
  pub sink : ¬ Rose old.sink.faults new.sink.faults
  pub faults : ¬ Rose (disk.faults old.disk) (disk.faults new.disk)
  pub tells : IsTrue disk.told
  pub stands : HasStore (disk.files old.disk)

-- from each state that the files have, no record of these entries needs more than its room, and no put passes `rows`
abbrev pub HavePlaceOn : Files → List Entry → Type 0
HavePlaceOn files h = (s : State) → HasState files s → HavePlace s h

-- the calls of a run of `trace`, what was printed of them, and its ending
pub record Traced {D : Type 0} (disk : Ghosts D) (old new : World D) (status : ℕ) : Type 0 where
  pub ending : Ending
  pub history : List Entry
  pub printed : List ℕ
  pub unprinted : List ℕ
  pub is_history : IsHistory disk old.disk new.disk history
  pub text_is : text history ≡ printed ++ unprinted
  pub whole : IsWhole ending unprinted
  pub reason : HasReason disk old new history ending
  pub source : CountsSource ending old.source.faults new.source.faults
  pub faults : CountsDisk ending history (disk.faults old.disk) (disk.faults new.disk)
  pub complete : (script : List ℕ) (lines : List Line) → IsValidTrace disk old new script lines → (ending ≡ NoMemory) ⊎ ((ending ≡ Done) × (HavePlaceOn (disk.files old.disk) history → IsFulfilled history))
  pub said : Says old.sink new.sink (printed ++ line_of ending) (status_of ending) status

-- what is written of a store that was made
abbrev pub made_text : Ending → List ℕ
made_text Done = codes "store made\n"
made_text _ = []

-- why making a store with these settings ends so
abbrev pub HasInitReason : {D : Type 0} → Ghosts D → D → D → Settings → Ending → Type 0
HasInitReason disk was is settings Done =
    IsTrue disk.told → HasNoStore (disk.files was) × IsNewStore disk is settings
HasInitReason disk was is settings NoMemory = Goes disk Same was is
HasInitReason disk was is settings DiskFault = Unit {0}
HasInitReason disk was is settings StoreExists = IsTrue disk.told → (committed : Settings) × IsCommitted (disk.files was) committed
HasInitReason disk was is settings _ = ⊥

-- A run of `init`: a store is left as it is; each image since has the hot log's file as one then had it, or all other files are empty logs.
pub record Inited {D : Type 0} (disk : Ghosts D) (old new : World D) (settings : Settings) (status : ℕ) : Type 0 where
  pub ending : Ending
  pub reason : HasInitReason disk old.disk new.disk settings ending
  pub source : new.source ≡ old.source
  pub faults : CountsDisk ending [] (disk.faults old.disk) (disk.faults new.disk)
  pub kept : IsTrue disk.told → HasNoStore (disk.files old.disk) ⊎ Goes disk Same old.disk new.disk
  pub stops : IsTrue disk.told → EmptiesFirst disk settings.limit old.disk new.disk
  pub said : Says old.sink new.sink (made_text ending ++ line_of ending) (status_of ending) status

-- nothing stands in the way of a run of `init`: there is no store, and no count of faults rises
pub record IsValidInit {D : Type 0} (disk : Ghosts D) (old new : World D) : Type 0 where
  pub tells : IsTrue disk.told
  pub none : HasNoStore (disk.files old.disk)
  pub sink : ¬ Rose old.sink.faults new.sink.faults
  pub faults : ¬ Rose (disk.faults old.disk) (disk.faults new.disk)

-- a run that writes this text and calls neither source nor disk
pub record Writes {D : Type 0} (old new : World D) (bytes : List ℕ) (own status : ℕ) : Type 0 where
  pub source : new.source ≡ old.source
  pub disk : new.disk ≡ old.disk
  pub said : Says old.sink new.sink bytes own status

-- the store was not opened, for this fault, and the source was not read
pub record IsNotOpened {D : Type 0} (disk : Ghosts D) (old new : World D) (ending : Ending) : Type 0 where
  pub fault : OpenFault
  pub ends : ending ≡ ending_of_open fault
  pub source : new.source ≡ old.source
  pub told : IsTrue disk.told → Opened disk old.disk (Err (fault, new.disk))
  pub keeps : IsTrue disk.told → KeepsState disk old.disk new.disk
  pub opens : Opens {disk = disk} old.disk (Err (fault, new.disk))

-- Nothing stands in the way of a run of `import`: the disk has a store, the CAR may go into each state of it, and no count of faults rises.
pub record IsValidImport {D : Type 0} (wants : Bool) (disk : Ghosts D) (old new : World D) (bytes : List ℕ) (roots : List (List ℕ)) (sections : List Section) : Type 0 where
  pub told : old.source.left ≡ Some bytes
  pub source : ¬ Rose old.source.faults new.source.faults
  pub sink : ¬ Rose old.sink.faults new.sink.faults
  pub faults : ¬ Rose (disk.faults old.disk) (disk.faults new.disk)
  pub tells : IsTrue disk.told
  pub stands : HasStore (disk.files old.disk)
  pub importable : (s : State) → HasState (disk.files old.disk) s → IsImportable wants bytes roots sections s

-- the calls of an import on the store that the disk had, and what came of it
pub record IsImported {D : Type 0} (wants : Bool) (disk : Ghosts D) (old new : World D) (ending : Ending) : Type 0 where
  pub outcome : Result Imported ImportFault
  pub ends : ending ≡ ending_of_outcome outcome
  pub imports : IsImport (λ h. IsHistory disk old.disk new.disk h × AreCounted (disk.faults old.disk) (disk.faults new.disk) h) wants old.source.left outcome
  pub source : CountsFault ImportFault.ReadFault old.source.faults new.source.faults outcome
  pub ended : OnOk outcome (IsAtEnd new.source.left)
  pub complete : (bytes : List ℕ) (roots : List (List ℕ)) (sections : List Section) → IsValidImport wants disk old new bytes roots sections → HavePlaceOn (disk.files old.disk) (entries_of imports) → IsOk outcome ⊎ (outcome ≡ Err ImportFault.NoMemory)

-- what the store counts that the disk had; no file changed
pub record IsInformed {D : Type 0} (disk : Ghosts D) (old new : World D) (ending : Ending) : Type 0 where
  pub info : StoreInfo
  pub ends : ending ≡ Informed info
  pub source : new.source ≡ old.source
  pub told : IsTrue disk.told → (s : State) × HasState (disk.files old.disk) s × (info ≡ info_of s)
  pub keeps : IsTrue disk.told → KeepsState disk old.disk new.disk
  pub goes : Goes disk Same old.disk new.disk
  pub faults : disk.faults new.disk ≡ disk.faults old.disk

pub record ImportRan {D : Type 0} (wants : Bool) (disk : Ghosts D) (old new : World D) (status : ℕ) : Type 0 where
  pub ending : Ending
  pub reason : IsNotOpened disk old new ending ⊎ IsImported wants disk old new ending
  pub said : Says old.sink new.sink (line_of ending) (status_of ending) status

pub record InfoRan {D : Type 0} (disk : Ghosts D) (old new : World D) (status : ℕ) : Type 0 where
  pub ending : Ending
  pub reason : IsNotOpened disk old new ending ⊎ IsInformed disk old new ending
  pub said : Says old.sink new.sink (line_of ending) (status_of ending) status

-- nothing stands in the way of a run of `info`: the disk has a store, and no count of faults rises
pub record IsValidInfo {D : Type 0} (disk : Ghosts D) (old new : World D) : Type 0 where
  pub sink : ¬ Rose old.sink.faults new.sink.faults
  pub faults : ¬ Rose (disk.faults old.disk) (disk.faults new.disk)
  pub tells : IsTrue disk.told
  pub stands : HasStore (disk.files old.disk)

-- a run of the command that words ask for, or the refusal of the first that is invalid
abbrev pub Ran : Result Command ℕ → {D : Type 0} → Ghosts D → World D → World D → ℕ → Type 0
Ran (Ok (Init settings)) disk old new status = Inited disk old new settings status
Ran (Ok Trace) disk old new status = Traced disk old new status
Ran (Ok (Import wants)) disk old new status = ImportRan wants disk old new status
Ran (Ok Info) disk old new status = InfoRan disk old new status
Ran (Ok Help) disk old new status = Writes old new HELP.now 0 status
Ran (Ok Version) disk old new status = Writes old new VERSION.now 0 status
Ran (Err word) disk old new status = Writes old new (line_of (Usage word)) 2 status

-- Where a stream's count of faults rose, the status tells so: 5 the sink's; 4 the source's, where the sink did not fail as well. A status
-- that blames a stream or the disk comes only where its count rose. The disk's count rises only on 0 and 3, where entries tell of it,
-- on 6, and where the sink failed.
pub record TellsFaults {D : Type 0} (disk : Ghosts D) (old new : World D) (status : ℕ) : Type 0 where
  pub write : status ≡ 5 → Rose old.sink.faults new.sink.faults
  pub sink : (status ≡ 5) ⊎ (new.sink.faults ≡ old.sink.faults)
  pub read : status ≡ 4 → Rose old.source.faults new.source.faults
  pub source : (status ≡ 4) ⊎ ((status ≡ 5) ⊎ (new.source.faults ≡ old.source.faults))
  pub store : status ≡ 6 → Rose (disk.faults old.disk) (disk.faults new.disk)
  pub sound : (status ≡ 5) ⊎ ((status ≡ 0) ⊎ ((status ≡ 3) ⊎ ((status ≡ 6) ⊎ (disk.faults new.disk ≡ disk.faults old.disk))))

-- The calls of these lines were made and printed: all of them where the ending is Done, and else some from the front. Where the sink
-- refused a line its count of faults rose, and a prefix of the text is written.
pub record CallsMade {D : Type 0} (disk : Ghosts D) (was is : D) (lines : List Line) (old new : Output) (ending : Ending) (refused : Bool) : Type 0 where
  pub history : List Entry
  pub printed : List ℕ
  pub unprinted : List ℕ
  pub made : List Line
  pub left : List Line
  pub is_history : IsHistory disk was is history
  pub faults : AreCounted (disk.faults was) (disk.faults is) history
  pub stands : IsTrue disk.told → HasStore (disk.files was)
  pub ends : (ending ≡ Done) ⊎ (ending ≡ NoMemory)
  pub lines_are : lines ≡ made ++ left
  pub all_made : ending ≡ Done → left ≡ []
  pub in_order : InOrder no_views made history
  pub text_is : text history ≡ printed ++ unprinted
  pub wrote : Appends old.written new.written printed
  pub all_printed : refused ≡ false → ending ≡ Done → unprinted ≡ []
  pub sound : refused ≡ false → new.faults ≡ old.faults
  pub rose : refused ≡ true → Rose old.faults new.faults

-- an import came to its end, or memory, a log or the table did
abbrev pub IsDoneOrFull : ℕ → Type 0
IsDoneOrFull status = (status ≡ 0) ⊎ ((status ≡ 3) ⊎ ((status ≡ 11) ⊎ (status ≡ 12)))

-- out of memory, or a fault of a stream
abbrev pub IsFree : ℕ → Type 0
IsFree status = (status ≡ 3) ⊎ ((status ≡ 4) ⊎ (status ≡ 5))

-- Statuses 9 and 13 come just where the script is bad or too long, but for out of memory and faults of the streams: 3, 4 and 5.
pub record RefusesScript (script : List ℕ) (status : ℕ) : Type 0 where
  pub bad : status ≡ 9 → (length script ≤ SCRIPT_BYTES) × IsErr (script_of CLIENTS script)
  pub long : status ≡ 13 → SCRIPT_BYTES < length script
  pub from_bad : length script ≤ SCRIPT_BYTES → IsErr (script_of CLIENTS script) → (status ≡ 9) ⊎ IsFree status
  pub from_long : SCRIPT_BYTES < length script → (status ≡ 13) ⊎ IsFree status

-- the same, or a fault of the disk
abbrev pub IsFreeOfDisk : ℕ → Type 0
IsFreeOfDisk status = IsFree status ⊎ (status ≡ 6)

-- Of a good script statuses 7 and 8 come just where there is no store, or a damaged one, but for out of memory and faults of streams and disk.
pub record RefusesStore (files : Files) (status : ℕ) : Type 0 where
  pub no_store : status ≡ 7 → HasNoStore files
  pub damaged : status ≡ 8 → (file at : ℕ) × IsDamagedStore files file at
  pub from_none : HasNoStore files → (status ≡ 7) ⊎ IsFreeOfDisk status
  pub from_damaged : (file at : ℕ) → IsDamagedStore files file at → (status ≡ 8) ⊎ IsFreeOfDisk status

-- status 7 of `init` comes just where the disk has a store, but for out of memory and faults of the sink and the disk
pub record RefusesInit (files : Files) (status : ℕ) : Type 0 where
  pub exists : status ≡ 7 → (settings : Settings) × IsCommitted files settings
  pub from_store : (settings : Settings) → IsCommitted files settings → (status ≡ 7) ⊎ IsFreeOfDisk status
