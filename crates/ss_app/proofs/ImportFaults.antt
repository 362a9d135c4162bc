-- How many faults of the disk the calls of an import met: none, unless one ended it.
use Rattle.std.proofs.Common.{◌≡◌, ⊎_elim, ℕ, ◌+◌, Bool, false, List, [], ◌∷◌, ◌++◌, length, Result, Ok, Err, refl, sym, ap, ◌∙◌, arith}
use Rattle.std.specs.Prelude.{if◌then◌else◌, Option}
use Rattle.ss_car.specs.Car.{Section}
use Rattle.ss_history.specs.Story.{faults_in}
use Rattle.ss_import.specs.Import as spec
use Rattle.ss_import.specs.Import.{IsImport, ArePuts, put_of, IsBlockFault, IsRefused, EndsAt, EndsPuts, no_memory, disk_fault, log_full, table_full, not_put, answered, refused_first, refused_ended, EndsReading, EndsHead, IsLastHead, HasReason, entry}
use Rattle.ss_import.specs.declared.fault.BlockFault.{BlockFault}
use Rattle.ss_import.specs.declared.fault.BlockFault.TheVariants as block
use Rattle.ss_import.specs.declared.fault.ImportFault.{ImportFault}
use Rattle.ss_import.specs.declared.fault.ImportFault.TheVariants as import
use Rattle.ss_import.specs.declared.importer.Imported.{Imported}
use Rattle.ss_model.specs.Lawful.{is_disk_fault}
use Rattle.ss_model.specs.declared.call.Call.TheVariants as call
use Rattle.ss_model.specs.declared.call.Answer.TheVariants as answer
use Rattle.ss_model.specs.declared.call.ViewReply.{ViewReply}
use Rattle.ss_model.specs.declared.call.PutReply.{PutReply}
use Rattle.ss_model.specs.declared.call.HeadReply.{HeadReply}
use Rattle.ss_model.specs.declared.call.HeadReply.TheVariants as head
use Rattle.ss_model.specs.declared.call.Entry.{Entry}

-- how many faults of the disk an import met that ended so
abbrev pub faults_of : Result Imported ImportFault → ℕ
faults_of (Ok done) = 0
faults_of (Err import.DiskFault) = 1
faults_of (Err import.NoMemory) = 0
faults_of (Err import.ReadFault) = 0
faults_of (Err (import.BadCar fault offset)) = 0
faults_of (Err (import.BadBlock fault offset)) = 0
faults_of (Err (import.LogFull file need room)) = 0
faults_of (Err (import.TableFull rows)) = 0
faults_of (Err import.TooLong) = 0
faults_of (Err (import.BadHead reply)) = 0

puts_sound : (v : ℕ) (sections : List Section) (puts : List Entry) (left : List Section) → ArePuts v sections puts left → faults_in puts ≡ 0
puts_sound v sections [] left are = refl
puts_sound v sections (e ∷ puts) left are =
    let rest = puts_sound v are.1 puts left are.6 in
    let this : ◌≡◌ {A = ℕ} (if is_disk_fault e.answer then 1 else 0) 0 = ap (λ (x : Entry). if is_disk_fault x.answer then 1 else 0) are.5 in
    omega (arith, this, rest)

faults_behind : (h more : List Entry) → faults_in (h ++ more) ≡ faults_in h + faults_in more
faults_behind [] more = omega arith
faults_behind (e ∷ h) more = let rest = faults_behind h more in omega (arith, rest)

-- a put that is refused for a block met no fault
refusal_sound : (group : List Section) (i : ℕ) (x : Section) (fault : BlockFault) (reply : PutReply) → IsBlockFault group i x fault reply → is_disk_fault (answer.Put reply) ≡ false
refusal_sound group i x block.TooLarge reply b = ap (λ r. is_disk_fault (answer.Put r)) b.2
refusal_sound group i x block.UnknownHash reply b = ap (λ r. is_disk_fault (answer.Put r)) b.0
refusal_sound group i x block.Mismatch reply b = ap (λ r. is_disk_fault (answer.Put r)) b.0
refusal_sound group i x block.Malformed reply b = ap (λ r. is_disk_fault (answer.Put r)) b.2

refused_none : (v : ℕ) (group front : List Section) (x : Section) (fault : BlockFault) (reply : PutReply) (more : List Entry) → IsRefused group front x fault reply → faults_in (put_of v group reply ∷ more) ≡ faults_in more
refused_none v group front x fault reply more r =
    let this : ◌≡◌ {A = ℕ} (if is_disk_fault (answer.Put reply) then 1 else 0) 0 = ap (λ b. if b then 1 else 0) (refusal_sound group (length front) x fault reply r.blames) in
    omega (arith, this)

at_last : (v : ℕ) (group : List Section) (last : List Entry) (fault : ImportFault) → EndsAt v group last fault → faults_in last ≡ faults_of (Err fault)
at_last v group _ _ not_put = refl
at_last v group _ _ (answered _ _ together no_memory) = refl
at_last v group _ _ (answered _ _ together disk_fault) = refl
at_last v group _ _ (answered _ _ together (log_full file need room)) = refl
at_last v group _ _ (answered _ _ together (table_full rows)) = refl

put_last : (v : ℕ) (left : List Section) (last : List Entry) (fault : ImportFault) → EndsPuts v left last fault → faults_in last ≡ faults_of (Err fault)
put_last v left _ _ (spec.EndsPuts.ended at) = at_last v left _ _ at
put_last v left _ _ (refused_first x bad reply r) = refused_none v left [] x bad reply [] r
put_last v left _ _ (spec.EndsPuts.refused front x bad reply new r group) = refused_none v left front x bad reply (put_of v front (PutReply.Stored new) ∷ []) r
put_last v left _ _ (refused_ended front x bad reply r some at) = refused_none v left front x bad reply _ r ∙ at_last v front _ _ at

module _ (v : ℕ) (puts : List Entry) (left : List Section) (last : List Entry) where
  reading_last : (input : Option (List ℕ)) (roots : List (List ℕ)) (sections : List Section) (fault : ImportFault) → last ≡ [] → EndsReading input roots sections left fault → faults_in last ≡ faults_of (Err fault)
  reading_last input roots sections import.NoMemory none ends = ap faults_in none
  reading_last input roots sections import.ReadFault none ends = ap faults_in none
  reading_last input roots sections (import.BadCar fault offset) none ends = ap faults_in none
  reading_last input roots sections import.TooLong none ends = ap faults_in none
  reading_last input roots sections import.DiskFault none ends = absurd ends
  reading_last input roots sections (import.LogFull file need room) none ends = absurd ends
  reading_last input roots sections (import.TableFull rows) none ends = absurd ends
  reading_last input roots sections (import.BadBlock fault offset) none ends = absurd ends
  reading_last input roots sections (import.BadHead reply) none ends = absurd ends

  head_last : (roots : List (List ℕ)) (fault : ImportFault) (reply : HeadReply) → IsLastHead roots last reply → EndsHead reply fault → faults_in last ≡ faults_of (Err fault)
  head_last roots fault head.NoMemory is ends = ap faults_in is ∙ ap (λ f. faults_of (Err f)) (sym ends)
  head_last roots fault head.DiskFault is ends = ap faults_in is ∙ ap (λ f. faults_of (Err f)) (sym ends)
  head_last roots fault (head.LogFull file need room) is ends = ap faults_in is ∙ ap (λ f. faults_of (Err f)) (sym ends)
  head_last roots fault (head.Set height) is ends = absurd ends
  head_last roots fault head.Empty is ends = ap faults_in is ∙ ap (λ f. faults_of (Err f)) (sym ends)
  head_last roots fault (head.TooMany n) is ends = ap faults_in is ∙ ap (λ f. faults_of (Err f)) (sym ends)
  head_last roots fault (head.Repeated i) is ends = ap faults_in is ∙ ap (λ f. faults_of (Err f)) (sym ends)
  head_last roots fault (head.Absent i) is ends = ap faults_in is ∙ ap (λ f. faults_of (Err f)) (sym ends)
  head_last roots fault (head.NotHeader i) is ends = ap faults_in is ∙ ap (λ f. faults_of (Err f)) (sym ends)
  head_last roots fault (head.HeightDiffers i) is ends = ap faults_in is ∙ ap (λ f. faults_of (Err f)) (sym ends)
  head_last roots fault (head.ParentsDiffer i) is ends = ap faults_in is ∙ ap (λ f. faults_of (Err f)) (sym ends)

  reason_last : (wants : Bool) (input : Option (List ℕ)) (roots : List (List ℕ)) (sections : List Section) (outcome : Result Imported ImportFault) → HasReason wants input roots sections left v puts last outcome → faults_in last ≡ faults_of outcome
  reason_last wants input roots sections (Ok done) reason = ⊎_elim (λ none. ap faults_in none.1) (λ set. ap faults_in set.2) reason.4
  reason_last wants input roots sections (Err fault) reason =
      ⊎_elim (put_last v left last fault) (⊎_elim (λ reading. reading_last input roots sections fault reading.0 reading.1) (λ h. head_last roots fault h.3 h.4 h.5)) reason

-- the calls of an import met just the faults of the disk that its outcome tells
pub import_faults : {Did : List Entry → Type 0} {wants : Bool} {input : Option (List ℕ)} {outcome : Result Imported ImportFault} (i : IsImport Did wants input outcome)
    → faults_in (entry call.OpenView (answer.View (ViewReply.Opened i.view)) ∷ (i.puts ++ i.last)) ≡ faults_of outcome
import_faults {wants = wants} {input = input} {outcome = outcome} i =
    let parts = faults_behind i.puts i.last in
    let before = puts_sound i.view i.sections i.puts i.left i.are_puts in
    let last = reason_last i.view i.puts i.left i.last wants input i.roots i.sections outcome i.reason in
    omega (arith, parts, before, last)
