-- How far an import has come, and what a step of it comes to.
use Rattle.std.specs.{Prelude.{◌≡◌, ◌≢◌, ◌⊎◌, ℕ, ◌^◌, ◌<◌, Bool, true, false, List, [], ◌∷◌, ◌++◌, length, Option, Result, Ok, Err, MatchResult, ◌-◌, ◌≤◌, min, map, sum_by, All, None, Some}, Option.ForSome}
use Rattle.ss_car.specs.{Car.{Section}, Bodies.{roots_of, taken_of, refusal_of, input_left, input_faults, input_place}, declared.reader.CarReader.CarReader}
use Rattle.ss_cbor.specs.declared.fault.CborKind.{CborKind}
use Rattle.ss_device.specs.{declared.disk.Disk.Ghosts, Faults.CountsFault}
use Rattle.ss_io.specs.declared.source.Source.{Ghosts as Source}
use Rattle.ss_model.specs.{Lawful.{IsFirstFault, IsSmall}, declared.TheConstants.PUT_BYTES, declared.call.Call.Call, declared.call.Answer.Answer, declared.call.PutReply.PutReply, declared.call.ViewReply.ViewReply, declared.call.Entry.Entry}
use Rattle.ss_core.specs.Replies.{held_put_bytes}
use Rattle.ss_core.specs.declared.split_core.SplitCore.{SplitCore}
use Rattle.ss_history.specs.Story.{Story}
use Rattle.ss_import.specs.{declared.fault.BlockFault.BlockFault, declared.fault.ImportFault.ImportFault, declared.importer.PutFault.PutFault, declared.importer.Importer.Importer, Import.{entry, BeginsWith, ArePuts, EndsPuts, EndsReading, IsWhole, AreRead, pair_of, pair_length, GoTogether, put_of, IsRefused, new_in}, declared.group.Group.Group}
use Rattle.std.specs.FinSet as finite_set

-- where an input exposes its bytes, the header and these sections were taken from it, up to this offset
abbrev pub HasTaken : Option (List ℕ) → Option (List ℕ) → List (List ℕ) → List Section → ℕ → Type 0
HasTaken old new roots sections taken = ForSome old (λ bytes. (begun : BeginsWith bytes roots sections taken) × (new ≡ Some begun.rest))

-- the group holds these sections, with the bytes that they have
pub record Holds (group : Group) (sections : List Section) : Type 0 where
  pub parcel : group.parcel ≡ map pair_of sections
  pub offsets : group.offsets.items ≡ map (λ (s : Section). s.offset) sections

-- what lets the group be put over any disk: its view is open, its blocks go together, none too large, and not too big unless it is one block
pub record IsReady {D : Type 0} {disk : Ghosts D} (imp : Importer D disk) : Type 0 where
  pub view : finite_set.contains imp.core.views imp.view ≡ true
  pub offsets : length imp.group.offsets.items ≡ length imp.group.parcel
  pub together : GoTogether imp.group.parcel
  pub bytes : imp.group.bytes ≡ sum_by pair_length imp.group.parcel
  pub small : All IsSmall imp.group.parcel
  pub put_bytes : imp.group.put_bytes ≡ held_put_bytes imp.core imp.group.parcel
  pub fits : (length imp.group.parcel ≤ 1) ⊎ (held_put_bytes imp.core imp.group.parcel ≤ PUT_BYTES)

-- over any disk the next section may come, or a fault ends the import that is none of the source
abbrev pub Continues : {D : Type 0} {disk : Ghosts D} → Importer D disk → Result (Unit {0}) ImportFault → Type 0
Continues imp result = MatchResult result (λ _. IsReady imp) (λ fault. fault ≢ ImportFault.ReadFault)

-- what holds between two sections of an import, of which no more were read than bytes
pub record IsBetween {S D : Type 0} {disk : Ghosts D} (imp : Importer D disk) (reader : CarReader S) : Type 0 where
  pub ready : IsReady imp
  pub fresh : refusal_of reader ≡ None
  pub count : imp.sections ≤ taken_of reader
  pub short : taken_of reader ≤ 2 ^ 40

-- the reader's source stays where it is, and counts a fault where one of its own ends the import
abbrev pub UsesSource : {S X : Type 0} → Source S → CarReader S → CarReader S → Result X ImportFault → Type 0
UsesSource source old new result = CountsFault ImportFault.ReadFault (input_faults source old) (input_faults source new) result × (input_place source new ≡ input_place source old)

-- of the sections that were read these are left, and the others stored
pub record Putting {D : Type 0} {disk : Ghosts D} (was : D) (imp : Importer D disk) (sections left : List Section) : Type 0 where
  pub puts : List Entry
  pub story : Story was imp.core (entry Call.OpenView (Answer.View (ViewReply.Opened imp.view)) ∷ puts)
  pub are_puts : ArePuts imp.view sections puts left
  pub new_is : imp.new_blocks ≡ min (new_in puts) (2 ^ 64 - 1)

-- a put ended the import
pub record PutsEnded {D : Type 0} {disk : Ghosts D} (was : D) (imp : Importer D disk) (sections : List Section) (fault : ImportFault) : Type 0 where
  pub left : List Section
  pub puts : List Entry
  pub last : List Entry
  pub story : Story was imp.core (entry Call.OpenView (Answer.View (ViewReply.Opened imp.view)) ∷ (puts ++ last))
  pub are_puts : ArePuts imp.view sections puts left
  pub reason : EndsPuts imp.view left last fault

-- what is left was put, and refused for the block at this index
pub record PutRefused {D : Type 0} {disk : Ghosts D} (was : D) (imp : Importer D disk) (sections left : List Section) (i : ℕ) (fault : BlockFault) : Type 0 where
  pub puts : List Entry
  pub front : List Section
  pub s : Section
  pub reply : PutReply
  pub story : Story was imp.core (entry Call.OpenView (Answer.View (ViewReply.Opened imp.view)) ∷ (puts ++ put_of imp.view left reply ∷ []))
  pub are_puts : ArePuts imp.view sections puts left
  pub is_refused : IsRefused left front s fault reply
  pub at : i ≡ length front

-- all sections were put, or a put ended the import
abbrev pub PutsAll : {D : Type 0} {disk : Ghosts D} → D → Importer D disk → List Section → Result (Unit {0}) ImportFault → Type 0
PutsAll was imp sections (Ok _) = Putting was imp sections []
PutsAll was imp sections (Err fault) = PutsEnded was imp sections fault

-- how many new blocks a put stored, or why it stored none; answers that no put of a group gets mean nothing
abbrev pub outcome_of : PutReply → Result ℕ PutFault
outcome_of (PutReply.Stored new) = Ok new
outcome_of (PutReply.UnknownHash i) = Err (PutFault.Block i BlockFault.UnknownHash)
outcome_of (PutReply.Mismatch i) = Err (PutFault.Block i BlockFault.Mismatch)
outcome_of (PutReply.Malformed i kind place) = Err (PutFault.Block i BlockFault.Malformed)
outcome_of PutReply.NoMemory = Err (PutFault.Ends ImportFault.NoMemory)
outcome_of PutReply.DiskFault = Err (PutFault.Ends ImportFault.DiskFault)
outcome_of (PutReply.TableFull rows) = Err (PutFault.Ends (ImportFault.TableFull rows))
outcome_of (PutReply.LogFull file need room) = Err (PutFault.Ends (ImportFault.LogFull file need room))
outcome_of _ = Err (PutFault.Block 0 BlockFault.TooLarge)

-- an answer that a put of a group may get
abbrev pub IsGroupReply : PutReply → Type 0
IsGroupReply PutReply.BadView = ⊥
IsGroupReply (PutReply.TooMany n) = ⊥
IsGroupReply (PutReply.TooLarge i) = ⊥
IsGroupReply _ = Unit {0}

-- Why the block at this place is not stored, over any disk: it is the first that may not be; or the put is too big, which blames its first.
abbrev pub IsDueBlock : {D : Type 0} {disk : Ghosts D} → SplitCore D disk → List (List ℕ × List ℕ) → ℕ → BlockFault → Type 0
IsDueBlock core pairs i BlockFault.TooLarge = (i ≡ 0) × (PUT_BYTES < held_put_bytes core pairs)
IsDueBlock core pairs i BlockFault.UnknownHash = IsFirstFault pairs (PutReply.UnknownHash i)
IsDueBlock core pairs i BlockFault.Mismatch = IsFirstFault pairs (PutReply.Mismatch i)
IsDueBlock core pairs i BlockFault.Malformed = (kind : CborKind) × (place : ℕ) × IsFirstFault pairs (PutReply.Malformed i kind place)

-- a section was taken into the group, or the import ended
abbrev pub Takes : {D : Type 0} {disk : Ghosts D} → D → Importer D disk → List Section → Section → ℕ → Result (Unit {0}) ImportFault → Type 0
Takes was imp sections s end (Ok _) = (left : List Section) × Putting was imp (sections ++ s ∷ []) left × Holds imp.group left
Takes was imp sections s end (Err ImportFault.TooLong) = (2 ^ 40 < end) × Putting was imp sections []
Takes was imp sections s end (Err fault) = PutsEnded was imp sections fault

-- before a fault of the CAR all sections were put, or a put ended the import; any other fault is answered at once
abbrev pub Refuses : {D : Type 0} {disk : Ghosts D} → D → Importer D disk → List Section → ImportFault → ImportFault → Type 0
Refuses was imp sections (ImportFault.BadCar fault offset) result = ((result ≡ ImportFault.BadCar fault offset) × Putting was imp sections []) ⊎ PutsEnded was imp sections result
Refuses was imp sections fault result = (result ≡ fault) × (left : List Section) × Putting was imp sections left

-- an import that goes on
pub record Reading {S D : Type 0} (source : Source S) {disk : Ghosts D} (input : Option (List ℕ)) (was : D) (imp : Importer D disk) (reader : CarReader S) : Type 0 where
  pub sections : List Section
  pub left : List Section
  pub putting : Putting was imp sections left
  pub holds : Holds imp.group left
  pub taken : HasTaken input (input_left source reader) (roots_of reader) sections (taken_of reader)
  pub short : taken_of reader ≤ 2 ^ 40
  pub count : imp.sections ≡ length sections

-- an import whose sections were all read and put
pub record WasRead {D : Type 0} {disk : Ghosts D} (input : Option (List ℕ)) (was : D) (imp : Importer D disk) (roots : List (List ℕ)) : Type 0 where
  pub sections : List Section
  pub putting : Putting was imp sections []
  pub whole : IsWhole input roots sections
  pub count : imp.sections ≡ length sections

-- an import that ended before its sections were all put
pub record Ended {D : Type 0} {disk : Ghosts D} (input : Option (List ℕ)) (was : D) (imp : Importer D disk) (fault : ImportFault) : Type 0 where
  pub roots : List (List ℕ)
  pub sections : List Section
  pub read : AreRead input roots sections
  pub reason : PutsEnded was imp sections fault ⊎ ((left : List Section) × Putting was imp sections left × EndsReading input roots sections left fault)

abbrev pub Stepped : {S D : Type 0} → Source S → {disk : Ghosts D} → Option (List ℕ) → D → Importer D disk → CarReader S → Result Bool ImportFault → Type 0
Stepped source input was imp reader (Ok true) = Reading source input was imp reader
Stepped source input was imp reader (Ok false) = WasRead input was imp (roots_of reader)
Stepped source input was imp reader (Err fault) = Ended input was imp fault
