-- The calls of an import, as a history, why it ends, and what lets it come to its end.
--
-- A view is opened. Then sections are put in it, group by group, each as soon as it is known that no more go with it. At last, where
-- the CAR has no fault and all its sections were put, its roots may be set as head.
use Rattle.std.specs.{Prelude.{◌≡◌, ◌⊎◌, ℕ, ◌+◌, ◌-◌, ◌^◌, ◌<◌, ◌≤◌, min, Bool, true, false, List, [], ◌∷◌, ◌++◌, map, length, sum_by, Option, None, Some, Result, Ok, Err}, Option.ForSome}
use Rattle.ss_car.specs.{Car.{Section, IsCar, StartFault}, declared.fault.CarFault.CarFault, declared.fault.CarRefusal.CarRefusal}
use Rattle.ss_cbor.specs.declared.fault.CborKind.{CborKind}
use Rattle.ss_model.specs.{Lawful.{IsPairFault, AreSound, with_blocks}, declared.call.Call.Call, declared.call.Answer.Answer, declared.call.ViewReply.ViewReply, declared.call.PutReply.PutReply, declared.call.HeadReply.HeadReply, declared.call.Entry.Entry, Head.IsHead, State.{State}}
use Rattle.ss_import.specs.{declared.fault.BlockFault.BlockFault, declared.fault.ImportFault.ImportFault, declared.importer.Imported.Imported}

-- the number of a block's fault, which the program prints; it is this project's own
abbrev pub block_number : BlockFault → ℕ
block_number BlockFault.TooLarge = 6
block_number BlockFault.UnknownHash = 10
block_number BlockFault.Mismatch = 11
block_number BlockFault.Malformed = 12

-- the fault that a refusal of the CAR is; a source that failed and want of memory are not the CAR's
abbrev pub fault_at : CarFault → ℕ → ImportFault
fault_at CarFault.ReadFault offset = ImportFault.ReadFault
fault_at CarFault.NoMemory offset = ImportFault.NoMemory
fault_at fault offset = ImportFault.BadCar fault offset

abbrev pub fault_of : CarRefusal → ImportFault
fault_of refusal = fault_at refusal.fault refusal.offset

-- ---- the calls

-- an entry of an import, whose calls are those of client 0
abbrev pub entry : Call → Answer → Entry
entry call answer = record { client = 0; line = 0; call = call; answer = answer }

abbrev pub pair_of : Section → List ℕ × List ℕ
pair_of s = (s.cid, s.block)

-- the bytes of a section's CID and its block
abbrev pub pair_length : List ℕ × List ℕ → ℕ
pair_length p = length p.0 + length p.1

-- blocks that go into one put: no more than 256, with no more than 4,194,304 bytes, or one
abbrev pub GoTogether : List (List ℕ × List ℕ) → Type 0
GoTogether pairs = (length pairs ≤ 1) ⊎ ((length pairs ≤ 256) × (sum_by pair_length pairs ≤ 4194304))

-- these go into one put
abbrev pub IsGroup : List Section → Type 0
IsGroup group = (1 ≤ length group) × GoTogether (map pair_of group)

-- a put of these sections in this view, and its answer
abbrev pub put_of : ℕ → List Section → PutReply → Entry
put_of v group reply = entry (Call.Put v (map pair_of group)) (Answer.Put reply)

-- The entries put groups of sections in this view, each of those that come next, and all were stored. What follows them is left.
abbrev pub ArePuts : ℕ → List Section → List Entry → List Section → Type 0
ArePuts v sections [] left = left ≡ sections
ArePuts v sections (e ∷ puts) left =
    (group : List Section) × (more : List Section) × (new : ℕ) × (sections ≡ group ++ more) × IsGroup group × (e ≡ put_of v group (PutReply.Stored new)) × ArePuts v more puts left

abbrev pub new_of : Answer → ℕ
new_of (Answer.Put (PutReply.Stored new)) = new
new_of _ = 0

-- how many of the blocks that were stored were new
abbrev pub new_in : List Entry → ℕ
new_in [] = 0
new_in (e ∷ h) = new_of e.answer + new_in h

-- the last entry sets these roots as head, and is answered so
abbrev pub IsLastHead : List (List ℕ) → List Entry → HeadReply → Type 0
IsLastHead roots last reply = last ≡ entry (Call.SetHead roots) (Answer.Head reply) ∷ []

-- ---- the CAR

-- the bytes begin with a CAR of these roots and sections, which ends at this offset
pub record BeginsWith (bytes : List ℕ) (roots : List (List ℕ)) (sections : List Section) (end : ℕ) : Type 0 where
  pub front : List ℕ
  pub rest : List ℕ
  pub spelled : bytes ≡ front ++ rest
  pub is_car : IsCar front roots sections None
  pub end_is : end ≡ length front

-- these sections were read, where the input exposes its bytes: none, or those behind the header, which end at byte 2^40 or before
abbrev pub AreRead : Option (List ℕ) → List (List ℕ) → List Section → Type 0
AreRead input roots sections = (sections ≡ []) ⊎ ForSome input (λ bytes. (end : ℕ) × (end ≤ 2 ^ 40) × BeginsWith bytes roots sections end)

-- the input is a CAR of these roots and sections, no longer than it may be
abbrev pub IsWhole : Option (List ℕ) → List (List ℕ) → List Section → Type 0
IsWhole input roots sections = ForSome input (λ bytes. (length bytes ≤ 2 ^ 40) × IsCar bytes roots sections None)

-- ---- why an import ends

-- the answer to a put that ends the import by this fault
pub data EndsPut : PutReply → ImportFault → Type 0 where
  no_memory : EndsPut PutReply.NoMemory ImportFault.NoMemory
  disk_fault : EndsPut PutReply.DiskFault ImportFault.DiskFault
  log_full : (file need room : ℕ) → EndsPut (PutReply.LogFull file need room) (ImportFault.LogFull file need room)
  table_full : (rows : ℕ) → EndsPut (PutReply.TableFull rows) (ImportFault.TableFull rows)

-- the answer to the put of this group ends the import, or memory ran out before it
pub data EndsAt (v : ℕ) (group : List Section) : List Entry → ImportFault → Type 0 where
  not_put : EndsAt v group [] ImportFault.NoMemory
  answered : (reply : PutReply) (fault : ImportFault) → IsGroup group → EndsPut reply fault → EndsAt v group (put_of v group reply ∷ []) fault

-- the answer refuses a put of this group for the block of its section at this index; only one block alone is too large
abbrev pub IsBlockFault : List Section → ℕ → Section → BlockFault → PutReply → Type 0
IsBlockFault group i s BlockFault.TooLarge reply = (group ≡ s ∷ []) × (n : ℕ) × (reply ≡ PutReply.TooBig n)
IsBlockFault group i s BlockFault.UnknownHash reply = (reply ≡ PutReply.UnknownHash i) × IsPairFault i (pair_of s) (PutReply.UnknownHash i)
IsBlockFault group i s BlockFault.Mismatch reply = (reply ≡ PutReply.Mismatch i) × IsPairFault i (pair_of s) (PutReply.Mismatch i)
IsBlockFault group i s BlockFault.Malformed reply = (kind : CborKind) × (place : ℕ) × (reply ≡ PutReply.Malformed i kind place) × IsPairFault i (pair_of s) (PutReply.Malformed i kind place)

-- a put of this group is refused for the block of this section, before which it has these
pub record IsRefused (group front : List Section) (s : Section) (fault : BlockFault) (reply : PutReply) : Type 0 where
  pub rest : List Section
  pub parts : group ≡ front ++ s ∷ rest
  pub is_group : IsGroup group
  pub blames : IsBlockFault group (length front) s fault reply

-- How a put of what is left ends the import, once the groups before it were stored: by its answer; or it is refused for a block,
-- and then the sections before that one, if there are some, are put.
pub data EndsPuts (v : ℕ) (left : List Section) : List Entry → ImportFault → Type 0 where
  ended : {last : List Entry} {fault : ImportFault} → EndsAt v left last fault → EndsPuts v left last fault
  refused_first : (s : Section) (bad : BlockFault) (reply : PutReply) → IsRefused left [] s bad reply →
      EndsPuts v left (put_of v left reply ∷ []) (ImportFault.BadBlock bad s.offset)
  refused : (front : List Section) (s : Section) (bad : BlockFault) (reply : PutReply) (new : ℕ) → IsRefused left front s bad reply → IsGroup front →
      EndsPuts v left (put_of v left reply ∷ put_of v front (PutReply.Stored new) ∷ []) (ImportFault.BadBlock bad s.offset)
  refused_ended : (front : List Section) (s : Section) (bad : BlockFault) (reply : PutReply) {last : List Entry} {fault : ImportFault} →
      IsRefused left front s bad reply → 1 ≤ length front → EndsAt v front last fault → EndsPuts v left (put_of v left reply ∷ last) fault

-- the CAR ends the import by a fault of its own, once all sections before it were stored
abbrev pub EndsReading : Option (List ℕ) → List (List ℕ) → List Section → List Section → ImportFault → Type 0
EndsReading input roots sections left (ImportFault.BadCar fault offset) =
    (fault_at fault offset ≡ ImportFault.BadCar fault offset) × (left ≡ []) × (ForSome input (λ bytes. IsCar bytes roots sections (Some (record { fault = fault; offset = offset })))
    ⊎ ((sections ≡ []) × (offset ≡ 0) × ForSome input (λ bytes. StartFault bytes fault)))
EndsReading input roots sections left ImportFault.TooLong =
    (left ≡ []) × (s : Section) × (end : ℕ) × (2 ^ 40 < end) × ForSome input (λ bytes. BeginsWith bytes roots (sections ++ s ∷ []) end)
EndsReading input roots sections left ImportFault.ReadFault = Unit {0}
EndsReading input roots sections left ImportFault.NoMemory = Unit {0}
EndsReading input roots sections left _ = ⊥

-- setting the roots as head ends the import
abbrev pub EndsHead : HeadReply → ImportFault → Type 0
EndsHead HeadReply.NoMemory fault = fault ≡ ImportFault.NoMemory
EndsHead HeadReply.DiskFault fault = fault ≡ ImportFault.DiskFault
EndsHead (HeadReply.LogFull file need room) fault = fault ≡ ImportFault.LogFull file need room
EndsHead (HeadReply.Set height) fault = ⊥
EndsHead reply fault = fault ≡ ImportFault.BadHead reply

-- Why an import ends so: these sections were read, and these of them are left; the last entries come after the puts that were stored.
abbrev pub HasReason : Bool → Option (List ℕ) → List (List ℕ) → List Section → List Section → ℕ → List Entry → List Entry → Result Imported ImportFault → Type 0
HasReason wants input roots sections left v puts last (Ok done) =
    (left ≡ []) × IsWhole input roots sections × (done.sections ≡ length sections) × (done.new ≡ min (new_in puts) (2 ^ 64 - 1))
    × (((wants ≡ false) × (last ≡ []) × (done.height ≡ None)) ⊎ ((wants ≡ true) × (height : ℕ) × IsLastHead roots last (HeadReply.Set height) × (done.height ≡ Some height)))
HasReason wants input roots sections left v puts last (Err fault) =
    EndsPuts v left last fault
    ⊎ (((last ≡ []) × EndsReading input roots sections left fault)
    ⊎ ((wants ≡ true) × (left ≡ []) × IsWhole input roots sections × (reply : HeadReply) × IsLastHead roots last reply × EndsHead reply fault))

-- What an import of this input did. `Did` holds of its entries: a view was opened, sections were put, and perhaps the roots set as head.
pub record IsImport (Did : List Entry → Type 0) (wants : Bool) (input : Option (List ℕ)) (result : Result Imported ImportFault) : Type 0 where
  pub view : ℕ
  pub roots : List (List ℕ)
  pub sections : List Section
  pub left : List Section
  pub puts : List Entry
  pub last : List Entry
  pub did : Did (entry Call.OpenView (Answer.View (ViewReply.Opened view)) ∷ (puts ++ last))
  pub read : AreRead input roots sections
  pub are_puts : ArePuts view sections puts left
  pub reason : HasReason wants input roots sections left view puts last result

-- all its entries
abbrev pub entries_of : {Did : List Entry → Type 0} {wants : Bool} {input : Option (List ℕ)} {result : Result Imported ImportFault} → IsImport Did wants input result → List Entry
entries_of i = entry Call.OpenView (Answer.View (ViewReply.Opened i.view)) ∷ (i.puts ++ i.last)

-- Nothing of a CAR and of a state stands in the way of an import: the CAR is whole and no longer than it may be, its blocks may be
-- stored, and its roots are a tipset then.
pub record IsImportable (wants : Bool) (bytes : List ℕ) (roots : List (List ℕ)) (sections : List Section) (s : State) : Type 0 where
  pub car : IsCar bytes roots sections None
  pub short : length bytes ≤ 2 ^ 40
  pub sound : AreSound (map pair_of sections)
  pub head : wants ≡ true → (height : ℕ) × IsHead (with_blocks s.kept (map pair_of sections)) roots height

-- a log has no room, or the table no row
abbrev pub IsFull : ImportFault → Type 0
IsFull (ImportFault.LogFull file need room) = Unit {0}
IsFull (ImportFault.TableFull rows) = Unit {0}
IsFull ImportFault.NoMemory = ⊥
IsFull ImportFault.ReadFault = ⊥
IsFull ImportFault.DiskFault = ⊥
IsFull (ImportFault.BadCar fault offset) = ⊥
IsFull (ImportFault.BadBlock fault offset) = ⊥
IsFull ImportFault.TooLong = ⊥
IsFull (ImportFault.BadHead reply) = ⊥
