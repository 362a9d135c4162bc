-- What the calls of a history did to a store and its disk: faults, room, what is in doubt, and whether the disk was called.
use Rattle.std.specs.{Prelude.{◌≡◌, ◌⊎◌, ℕ, List, [], ◌∷◌, IsTrue, min, ◌+◌, ◌-◌, ◌^◌, ◌≤◌, Bool, true, false, ◌||◌, if◌then◌else◌, All}, List.list_any}
use Rattle.ss_device.specs.{declared.disk.Disk.Ghosts, Disk.{Files, Same}, Calls.{Goes, TouchesFiles}}
use Rattle.ss_model.specs.{State.State, Lawful.{After, IsPassed, rows_after, is_disk_fault, is_log_full, is_table_full, is_no_memory}, Lawful.{Legal, AfterAll}, declared.call.Entry.Entry, declared.call.Call.Call}
use Rattle.ss_core.specs.{declared.split_core.SplitCore.SplitCore, LogFiles.log_files, StandsFor.{Doubt, no_doubt, HasState, StandsFor, HasEitherState, KeepsState}, Calls.{OfFullLog, use_of, own_doubt, Doubts, settings_of}}

-- how many entries are faults of the disk
abbrev pub faults_in : List Entry → ℕ
faults_in [] = 0
faults_in (e ∷ h) = (if is_disk_fault e.answer then 1 else 0) + faults_in h

-- The disk counted a fault for each entry that is one, unless its count stands at its last value; and none where no entry is one.
pub record AreCounted (before now : ℕ) (h : List Entry) : Type 0 where
  pub enough : min (before + faults_in h) (2 ^ 64 - 1) ≤ now
  pub none : faults_in h ≡ 0 → now ≡ before

-- where a log is full, its room and what is known of its file's length make the limit
abbrev pub HasRoomsBy : ℕ → (ℕ → ℕ) → List Entry → Type 0
HasRoomsBy limit known [] = Unit {0}
HasRoomsBy limit known (e ∷ h) = OfFullLog (λ file need room. limit ≤ room + known file) e.answer × HasRoomsBy limit known h

-- a limit that settings may have
abbrev pub IsLimit : ℕ → Type 0
IsLimit limit = (65536 ≤ limit) × (limit ≤ 2 ^ 40)

-- what may be in doubt after the entries, where `old` was before
abbrev pub AreDoubts : State → Doubt → List Entry → Doubt → Type 0
AreDoubts s old [] new = new ≡ old
AreDoubts s old (e ∷ h) new = (mid : Doubt) × Doubts (use_of e.call e.answer) (own_doubt s e.call e.answer) old mid × AreDoubts (After s e.call e.answer) mid h new

-- no entry may have called the disk
abbrev pub AreStill : List Entry → Type 0
AreStill h = All (λ e. (use_of e.call e.answer).reaches ≡ false) h

-- ---- entries that nothing stands in the way of

-- a put that passes has a row for each block
abbrev pub HasRows : State → Call → Type 0
HasRows s (Call.Put v pairs) = IsPassed s v pairs → rows_after s pairs ≤ s.config.rows
HasRows s Call.OpenView = Unit {0}
HasRows s (Call.CloseView v) = Unit {0}
HasRows s (Call.Get v c) = Unit {0}
HasRows s (Call.Has v c) = Unit {0}
HasRows s (Call.Size v c) = Unit {0}
HasRows s (Call.SetHead cids) = Unit {0}
HasRows s Call.Info = Unit {0}

-- No record of the entries needs more than the room that its log has, and no put keeps more CIDs than there may be rows.
abbrev pub HavePlace : State → List Entry → Type 0
HavePlace s [] = Unit {0}
HavePlace s (e ∷ h) = OfFullLog (λ file need room. need ≤ room) e.answer × HasRows s e.call × HavePlace (After s e.call e.answer) h

-- the entry is a fault of the disk, a full log or a full table
abbrev pub is_refused : Entry → Bool
is_refused e = is_disk_fault e.answer || (is_log_full e.answer || is_table_full e.answer)

-- no entry is one of these, or one is out of memory
abbrev pub IsFulfilled : List Entry → Type 0
IsFulfilled h = (list_any is_refused h ≡ false) ⊎ (list_any (λ e. is_no_memory e.answer) h ≡ true)

-- ---- stories

-- From a state that the files had, the entries are legal, and this may be in doubt after them.
pub record IsLegalFrom (files : Files) (h : List Entry) : Type 0 where
  pub state : State
  pub stands : HasState files state
  pub legal : Legal state h
  pub doubt : Doubt
  pub doubts : AreDoubts state no_doubt h doubt

-- the state after them
abbrev pub state_behind : {files : Files} {h : List Entry} → IsLegalFrom files h → State
state_behind {h = h} from = AfterAll from.state h

-- what the entries did to the store and its disk
pub record Story {D : Type 0} {disk : Ghosts D} (was : D) (core : SplitCore D disk) (h : List Entry) : Type 0 where
  pub told : IsTrue disk.told → (from : IsLegalFrom (disk.files was) h) × StandsFor core (state_behind from) from.doubt
  pub counted : AreCounted (disk.faults was) (disk.faults core.disk) h
  pub limit : IsLimit (settings_of core).limit
  pub rooms : HasRoomsBy (settings_of core).limit (disk.known core.disk) h
  pub touches : TouchesFiles disk log_files was core.disk
  pub still : AreStill h → Goes disk Same was core.disk

-- the files have the state of a store
abbrev pub HasStore : Files → Type 0
HasStore files = (s : State) × HasState files s

-- Each image now has the state after the entries with its views closed, or the one that what is in doubt would make.
abbrev pub IsLeft : {D : Type 0} (disk : Ghosts D) → D → State → Doubt → Type 0
IsLeft disk is s doubt = (left : Files) → disk.image is (disk.moment is) left → HasEitherState s doubt left

-- The entries over a disk: legal, where there are any and the disk exposes its files; for each full log its room and what is known of
-- its file make a limit; no file changed but those of the logs. Where no entry may have called the disk what each image has stays,
-- since no file changed.
pub record IsHistory {D : Type 0} (disk : Ghosts D) (was is : D) (h : List Entry) : Type 0 where
  pub legal : IsTrue disk.told → (h ≡ []) ⊎ ((from : IsLegalFrom (disk.files was) h) × IsLeft disk is (state_behind from) from.doubt)
  pub rooms : (limit : ℕ) × IsLimit limit × HasRoomsBy limit (disk.known is) h
  pub touches : TouchesFiles disk log_files was is
  pub keeps : IsTrue disk.told → AreStill h → KeepsState disk was is
  pub still : AreStill h → Goes disk Same was is
