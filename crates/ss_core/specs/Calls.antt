-- What a call of a store does: to its logs, to the state that it stands for, and over any disk.
use Rattle.std.specs.{Prelude.{◌≡◌, ◌⊎◌, ℕ, ◌+◌, ◌≤◌, true, false, Option, IsTrue, suc, ◌<◌, Bool, List, [], ◌∷◌, length, None, Some, if◌then◌else◌, is_some, option_map}, Result.result_ok}
use Rattle.ss_device.specs.{declared.disk.Disk.Ghosts, Disk.{Same, Rose}, Calls.{Goes, TouchesFiles, LeavesFiles}}
use Rattle.ss_records.specs.{declared.record.Config.Config as Settings, declared.record.Record.{Record, TheVariants.{Put, Head}}, Record.spelling}
use Rattle.ss_hot.specs.Store.{room_of}
use Rattle.ss_model.specs.{State.{State, ViewSet}, Lawful.{Lawful, After, Obstacle, no_obstacle, of_memory, of_disk, of_log, of_table, obstacle_of, is_disk_fault, is_no_memory, written_pairs}, declared.{call.{Call.Call, Answer.Answer, ViewReply.ViewReply, PutReply.PutReply, HeadReply.HeadReply, GetReply.GetReply}, TheConstants.VIEWS}, Head.blocks_of}
use Rattle.ss_core.specs.{declared.split_core.SplitCore.SplitCore, StandsFor.{Doubt, no_doubt, appended, StandsFor, HasEitherState}, LogFiles.{hot_file, log_files}, Held.need_of}
use Rattle.ss_cid.specs.Cid.{identity_of}
use Rattle.ss_chain.specs.Tipset.{tipset_of}
use Rattle.std.specs.FinSet as finite_set

-- the open views as a set of numbers: the places of what is true, counted from this number on
abbrev pub marked_from : ℕ → List Bool → ViewSet
marked_from at [] = finite_set.empty
marked_from at (true ∷ marks) = finite_set.insert (marked_from (suc at) marks) at
marked_from at (false ∷ marks) = marked_from (suc at) marks

-- over any disk, the view that was not open is, or all are
abbrev pub OpensView : ViewSet → ViewSet → ViewReply → Type 0
OpensView old new (ViewReply.Opened n) = (n < VIEWS) × (finite_set.contains old n ≡ false) × (new ≡ finite_set.insert old n)
OpensView old new ViewReply.TooManyViews = (k : ℕ) → k < VIEWS → finite_set.contains old k ≡ true

-- ---- what call and answer tell

-- what an answer tells of the logs: whether none is in doubt after it, whether the disk may have been called, whether the record of
-- the call stands after the others, and whether its log was found to have room for it
pub record Use : Type 0 where
  pub settles : Bool
  pub reaches : Bool
  pub stands : Bool
  pub roomy : Bool

-- the disk was not called
abbrev pub untouched : Use
untouched = record { settles = false; reaches = false; stands = false; roomy = false }

-- the disk may have been called
abbrev pub asking : Use
asking = record { settles = false; reaches = true; stands = false; roomy = false }

-- a log in doubt was settled, and no record was written
abbrev pub settling : Use
settling = record { settles = true; reaches = true; stands = false; roomy = false }

-- the same, and then the record was written
abbrev pub writing : Use
writing = record { settles = true; reaches = true; stands = true; roomy = true }

-- there was room for the record, which may have been written
abbrev pub perhaps_writing : Use
perhaps_writing = record { settles = false; reaches = true; stands = false; roomy = true }

abbrev pub put_use : PutReply → Use
put_use PutReply.BadView = untouched
put_use (PutReply.TooMany n) = untouched
put_use (PutReply.TooBig n) = untouched
put_use (PutReply.TooLarge i) = untouched
put_use (PutReply.UnknownHash i) = untouched
put_use (PutReply.Mismatch i) = untouched
put_use (PutReply.Malformed i kind at) = untouched
put_use PutReply.NoMemory = untouched
put_use (PutReply.TableFull rows) = untouched
put_use (PutReply.LogFull file need room) = untouched
put_use PutReply.DiskFault = perhaps_writing
put_use (PutReply.Stored new) = writing

-- of a get of a block that is looked up
abbrev pub get_use : GetReply → Use
get_use GetReply.BadView = untouched
get_use GetReply.NotFound = untouched
get_use GetReply.NoMemory = untouched
get_use GetReply.DiskFault = asking
get_use (GetReply.Found block) = settling

-- the blocks of a head are judged before room is looked for
abbrev pub head_use : HeadReply → Use
head_use HeadReply.Empty = untouched
head_use (HeadReply.TooMany n) = untouched
head_use (HeadReply.Repeated i) = untouched
head_use (HeadReply.Absent i) = untouched
head_use HeadReply.NoMemory = asking
head_use HeadReply.DiskFault = asking
head_use (HeadReply.NotHeader i) = settling
head_use (HeadReply.HeightDiffers i) = settling
head_use (HeadReply.ParentsDiffer i) = settling
head_use (HeadReply.LogFull file need room) = settling
head_use (HeadReply.Set height) = writing

-- what an answer to a call tells of the logs
abbrev pub use_of : Call → Answer → Use
use_of (Call.Put v pairs) (Answer.Put r) = put_use r
use_of (Call.Put v pairs) a = untouched
use_of (Call.Get v c) (Answer.Get r) = if is_some (identity_of c) then untouched else get_use r
use_of (Call.Get v c) a = untouched
use_of (Call.SetHead cids) (Answer.Head r) = head_use r
use_of (Call.SetHead cids) a = untouched
use_of Call.OpenView a = untouched
use_of (Call.CloseView v) a = untouched
use_of (Call.Has v c) a = untouched
use_of (Call.Size v c) a = untouched
use_of Call.Info a = untouched

-- ---- what the state tells with them

-- a record of the log of this file
pub record Logged : Type 0 where
  pub file : ℕ
  pub entry : Record

-- the bytes that a record takes of a log: its gate, a length of four bytes, and its body
abbrev pub bytes_of : Option Logged → ℕ
bytes_of None = 0
bytes_of (Some r) = 5 + length (spelling r.entry)

-- the record of a put of these blocks: none where there are none
abbrev pub blocks_record : List (List ℕ × List ℕ) → Option Logged
blocks_record [] = None
blocks_record (p ∷ pairs) = Some (record { file = hot_file; entry = Put (p ∷ pairs) })

abbrev pub put_record : List (List ℕ × List ℕ) → PutReply → Option Logged
put_record blocks PutReply.BadView = None
put_record blocks (PutReply.TooMany n) = None
put_record blocks (PutReply.TooBig n) = None
put_record blocks (PutReply.TooLarge i) = None
put_record blocks (PutReply.UnknownHash i) = None
put_record blocks (PutReply.Mismatch i) = None
put_record blocks (PutReply.Malformed i kind at) = None
put_record blocks PutReply.NoMemory = None
put_record blocks (PutReply.TableFull rows) = None
put_record blocks (PutReply.LogFull file need room) = None
put_record blocks PutReply.DiskFault = blocks_record blocks
put_record blocks (PutReply.Stored new) = blocks_record blocks

-- the record of a head of this height
abbrev pub height_record : List (List ℕ) → ℕ → Logged
height_record cids height = record { file = hot_file; entry = Head height cids }

-- of a head whose blocks are these
abbrev pub head_record : List (List ℕ × List ℕ) → List (List ℕ) → HeadReply → Option Logged
head_record blocks cids HeadReply.Empty = None
head_record blocks cids (HeadReply.TooMany n) = None
head_record blocks cids (HeadReply.Repeated i) = None
head_record blocks cids (HeadReply.Absent i) = None
head_record blocks cids HeadReply.NoMemory = None
head_record blocks cids HeadReply.DiskFault = option_map (height_record cids) (result_ok (tipset_of blocks))
head_record blocks cids (HeadReply.NotHeader i) = None
head_record blocks cids (HeadReply.HeightDiffers i) = None
head_record blocks cids (HeadReply.ParentsDiffer i) = None
head_record blocks cids (HeadReply.LogFull file need room) = None
head_record blocks cids (HeadReply.Set height) = Some (height_record cids height)

-- The record that the call wrote, or where it was answered a fault of the disk may have written.
abbrev pub record_of : State → Call → Answer → Option Logged
record_of s (Call.Put v pairs) (Answer.Put r) = put_record (written_pairs s.kept s.hot pairs) r
record_of s (Call.Put v pairs) a = None
record_of s (Call.SetHead cids) (Answer.Head r) = head_record (blocks_of s.kept cids) cids r
record_of s (Call.SetHead cids) a = None
record_of s (Call.Get v c) a = None
record_of s Call.OpenView a = None
record_of s (Call.CloseView v) a = None
record_of s (Call.Has v c) a = None
record_of s (Call.Size v c) a = None
record_of s Call.Info a = None

-- the bytes by which the hot log grew
abbrev pub grown_by : State → Call → Answer → ℕ
grown_by s call answer = if (use_of call answer).stands then bytes_of (record_of s call answer) else 0

-- what a record leaves in doubt that may stand after the others
abbrev pub doubt_of : Option Logged → Doubt
doubt_of None = no_doubt
doubt_of (Some r) = appended r.file r.entry

-- what the call may leave in doubt
abbrev pub own_doubt : State → Call → Answer → Doubt
own_doubt s call answer = if (use_of call answer).stands then no_doubt else doubt_of (record_of s call answer)

-- what may be in doubt after such an answer, where `old` was before and `own` is the call's: nothing, that still, or its own
pub record Doubts (tells : Use) (own old new : Doubt) : Type 0 where
  pub settled : tells.settles ≡ true → new ≡ no_doubt
  pub still : tells.reaches ≡ false → new ≡ old
  pub one_of : (new ≡ no_doubt) ⊎ ((new ≡ old) ⊎ (new ≡ own))

-- The step of a store that stood for s, with this doubt, over a disk that exposes its files: the answer is lawful at s, and the store
-- stands for the state after it. No file but those of the logs changed, and each image since the call began has one of the two
-- states, with or without what was in doubt or what the call may leave so.
pub record Steps {D : Type 0} {disk : Ghosts D} (old new : SplitCore D disk) (s : State) (doubt : Doubt) (call : Call) (answer : Answer) : Type 0 where
  pub lawful : Lawful s call answer
  pub now : Doubt
  pub doubts : Doubts (use_of call answer) (own_doubt s call answer) doubt now
  pub after : StandsFor new (After s call answer) now
  pub end : new.hot.log.end ≡ old.hot.log.end + grown_by s call answer
  pub roomy : (use_of call answer).roomy ≡ true → bytes_of (record_of s call answer) ≤ room_of old.hot
  pub stops : LeavesFiles disk log_files (λ files. HasEitherState s doubt files ⊎ HasEitherState (After s call answer) (own_doubt s call answer) files) old.disk new.disk

-- ---- over any disk

-- the numbers of a full log satisfy P
abbrev pub OfLog : (ℕ → ℕ → ℕ → Type 0) → Obstacle → Type 0
OfLog P no_obstacle = Unit {0}
OfLog P of_memory = Unit {0}
OfLog P of_disk = Unit {0}
OfLog P (of_log file need room) = P file need room
OfLog P (of_table rows) = Unit {0}

abbrev pub OfFullLog : (ℕ → ℕ → ℕ → Type 0) → Answer → Type 0
OfFullLog P answer = OfLog P (obstacle_of answer)

-- What a call leaves that is out of memory: a head only read, if no log was in doubt, and another call did not call the disk.
abbrev pub IsUnwritten : {D : Type 0} → Ghosts D → Bool → Answer → D → D → Type 0
IsUnwritten disk unsure (Answer.Head r) old new = unsure ≡ false → Goes disk Same old new
IsUnwritten disk unsure (Answer.View r) old new = new ≡ old
IsUnwritten disk unsure (Answer.Close r) old new = new ≡ old
IsUnwritten disk unsure (Answer.Put r) old new = new ≡ old
IsUnwritten disk unsure (Answer.Get r) old new = new ≡ old
IsUnwritten disk unsure (Answer.Has r) old new = new ≡ old
IsUnwritten disk unsure (Answer.Size r) old new = new ≡ old
IsUnwritten disk unsure (Answer.Info i) old new = new ≡ old

-- the settings of a store
abbrev pub settings_of : {D : Type 0} {disk : Ghosts D} → SplitCore D disk → Settings
settings_of core = core.hot.settings

-- What a call does over any disk: a fault that the disk counted is answered as one, and nothing else is; a full log has just the
-- room that was left, which is less than the need; the log grows no further than its room; a call that is out of memory
-- wrote nothing, except that a head may have settled a log.
pub record Makes {D : Type 0} {disk : Ghosts D} (old new : SplitCore D disk) (call : Call) (answer : Answer) : Type 0 where
  pub fault : IsTrue (is_disk_fault answer) → Rose (disk.faults old.disk) (disk.faults new.disk)
  pub no_fault : IsTrue (is_disk_fault answer) ⊎ (disk.faults new.disk ≡ disk.faults old.disk)
  pub full : OfFullLog (λ file need room. (file ≡ hot_file) × (need ≡ need_of old call) × (room ≡ room_of old.hot) × (room < need)) answer
  pub grows : new.hot.log.end ≤ old.hot.log.end + room_of old.hot
  pub memory : IsTrue (is_no_memory answer) → IsUnwritten disk old.hot.log.unsure answer old.disk new.disk
  pub still : (use_of call answer).reaches ≡ false → new.disk ≡ old.disk
  pub settled : (use_of call answer).settles ≡ true → new.hot.log.unsure ≡ false
  pub settings : settings_of new ≡ settings_of old
  pub touches : TouchesFiles disk log_files old.disk new.disk
