-- Runs of `import` and `info` whose store was opened.
use Rattle.std.proofs.Common.{◌≡◌, ◌⊎◌, inl, inr, ⊎_elim, ℕ, Bool, List, [], ◌∷◌, ◌++◌, Option, Some, Result, Ok, Err, refl, ap, ◌∙◌, subst}
use Rattle.std.specs.Prelude.{IsTrue, IsOk, OnOk}
use Rattle.std.specs.Io.KnownBytes.{IsAtEnd}
use Rattle.ss_car.specs.Car.{Section}
use Rattle.ss_device.specs.Faults.{CountsFault}
use Rattle.ss_device.specs.declared.disk.Disk.{Ghosts}
use Rattle.ss_model.specs.State.{State}
use Rattle.ss_model.specs.Lawful.{Legal}
use Rattle.ss_model.specs.declared.call.Info.{Info}
use Rattle.ss_model.specs.declared.call.Call.TheVariants as call
use Rattle.ss_model.specs.declared.call.Answer.TheVariants as answer
use Rattle.ss_model.specs.declared.call.ViewReply.{ViewReply}
use Rattle.ss_model.specs.declared.call.Entry.{Entry}
use Rattle.ss_core.specs.Calls.{Steps}
use Rattle.ss_core.specs.StandsFor.{StandsFor, Doubt, no_doubt}
use Rattle.ss_core.specs.declared.split_core.SplitCore.{SplitCore}
use Rattle.ss_history.specs.Story.{Story, IsHistory, IsLegalFrom, HavePlace, AreCounted, faults_in}
use Rattle.ss_history.proofs.Fulfilled.{no_faults}
use Rattle.ss_history.proofs.Stories.{history_of}
use Rattle.ss_open.specs.Opening.{Opened, Opens}
use Rattle.ss_import.specs.Import.{IsImport, AreRead, HasReason, entry, entries_of, IsFull}
use Rattle.ss_import.proofs.Complete.{complete, not_full}
use Rattle.ss_import.proofs.Small.{state_small}
use Rattle.ss_import.specs.declared.importer.Imported.{Imported}
use Rattle.ss_import.specs.declared.fault.ImportFault.{ImportFault}
use Rattle.ss_import.specs.declared.fault.ImportFault.TheVariants as import
use Rattle.ss_core.proofs.Reopened.{same_state}
use Rattle.ss_app.specs.declared.ending.Ending.{Ending}
use Rattle.ss_app.specs.declared.ending.Ending.TheVariants.{Informed}
use Rattle.ss_app.specs.Ending.{status_of, line_of, ending_of_outcome}
use Rattle.ss_app.specs.Outcome.{ImportRan, InfoRan, IsValidImport, HavePlaceOn}
use Rattle.ss_app.specs.World.{World, Says}

-- the entries of an import, of which more holds
import_with : {Old New : List Entry → Type 0} {wants : Bool} {input : Option (List ℕ)} {outcome : Result Imported ImportFault} → ((h : List Entry) → Old h → New h) → IsImport Old wants input outcome → IsImport New wants input outcome
import_with more i = record {
  view = i.view;
  roots = i.roots;
  sections = i.sections;
  left = i.left;
  puts = i.puts;
  last = i.last;
  did = more (entry call.OpenView (answer.View (ViewReply.Opened i.view)) ∷ (i.puts ++ i.last)) i.did;
  read = i.read;
  are_puts = i.are_puts;
  reason = i.reason;
}

pub some_entries : (e : Entry) (h : List Entry) → e ∷ h ≡ [] → ⊥
some_entries e h none = cc

-- an import of an input that is known
of_bytes : {Did : List Entry → Type 0} {wants : Bool} {outcome : Result Imported ImportFault} (input : Option (List ℕ)) (bytes : List ℕ) → input ≡ Some bytes → IsImport Did wants input outcome → IsImport Did wants (Some bytes) outcome
of_bytes {wants = wants} {outcome = outcome} input bytes known i = record {
  view = i.view;
  roots = i.roots;
  sections = i.sections;
  left = i.left;
  puts = i.puts;
  last = i.last;
  did = i.did;
  read = subst (λ l. AreRead l i.roots i.sections) known i.read;
  are_puts = i.are_puts;
  reason = subst (λ l. HasReason wants l i.roots i.sections i.left i.view i.puts i.last outcome) known i.reason;
}

-- ---- an import that nothing stands in the way of

-- what comes to no full log and no full table is done, or out of memory
unless_full : {Did : List Entry → Type 0} {wants : Bool} {input : Option (List ℕ)} (s : State) (outcome : Result Imported ImportFault) (i : IsImport Did wants input outcome) → Legal s (entries_of i) → HavePlace s (entries_of i) → faults_in (entries_of i) ≡ 0
    → IsOk outcome ⊎ ((fault : ImportFault) × (outcome ≡ Err fault) × ((fault ≡ import.NoMemory) ⊎ IsFull fault)) → IsOk outcome ⊎ (outcome ≡ Err import.NoMemory)
unless_full s (Ok done) i legal place none ends = inl refl
unless_full s (Err fault) i legal place none (inl ok) = inl ok
unless_full {Did = Did} {wants = wants} {input = input} s (Err fault) i legal place none (inr e) =
    let same : e.0 ≡ fault = cc (e.1) in
    inr (⊎_elim (λ memory. e.1 ∙ ap Err memory) (λ full. absurd (not_full Did wants input s fault i legal place none (subst IsFull same full))) e.2)

module _ {D : Type 0} (disk : Ghosts D) (old new : World D) (wants : Bool) (outcome : Result Imported ImportFault)
    (imports : IsImport (λ h. IsHistory disk old.disk new.disk h × AreCounted (disk.faults old.disk) (disk.faults new.disk) h) wants old.source.left outcome) (source : CountsFault import.ReadFault old.source.faults new.source.faults outcome)
    (bytes : List ℕ) (roots : List (List ℕ)) (sections : List Section) (valid : IsValidImport wants disk old new bytes roots sections) where
  legal_from : IsLegalFrom (disk.files old.disk) (entries_of imports)
  legal_from = ⊎_elim (λ none. absurd (some_entries _ _ none)) (λ l. l.0) (imports.did.0.legal valid.tells)

  none_failed : faults_in (entries_of imports) ≡ 0
  none_failed = no_faults (disk.faults old.disk) (disk.faults new.disk) _ imports.did.1.enough valid.faults

  pub comes_to : IsOk outcome ⊎ ((fault : ImportFault) × (outcome ≡ Err fault) × ((fault ≡ import.NoMemory) ⊎ IsFull fault))
  unfolding of_bytes legal_from none_failed
  comes_to = complete _ wants bytes roots sections legal_from.state outcome (of_bytes old.source.left bytes valid.told imports) (valid.importable legal_from.state legal_from.stands) (state_small _ legal_from.state legal_from.stands) legal_from.legal none_failed
      (λ is. valid.source (source.rose is))

  pub placed : HavePlaceOn (disk.files old.disk) (entries_of imports) → IsOk outcome ⊎ (outcome ≡ Err import.NoMemory)
  placed place = unless_full legal_from.state outcome imports legal_from.legal (place legal_from.state legal_from.stands) none_failed comes_to

module _ {D : Type 0} (disk : Ghosts D) (old new : World D) (status : ℕ) (core : SplitCore D disk) where
  pub import_ran : (wants : Bool) (outcome : Result Imported ImportFault) (ending : Ending) → ending ≡ ending_of_outcome outcome → core.disk ≡ new.disk → IsImport (Story old.disk core) wants old.source.left outcome
      → CountsFault import.ReadFault old.source.faults new.source.faults outcome → OnOk outcome (IsAtEnd new.source.left) → Says old.sink new.sink (line_of ending) (status_of ending) status → ImportRan wants disk old new status
  import_ran wants outcome ending ends back imports source ended said = record {
    ending = ending;
    reason = inr (record { outcome = outcome; ends = ends; imports = seen; source = source; ended = ended; complete = λ bytes roots sections valid place. placed disk old new wants outcome seen source bytes roots sections valid place });
    said = said;
  }
    where
      seen : IsImport (λ h. IsHistory disk old.disk new.disk h × AreCounted (disk.faults old.disk) (disk.faults new.disk) h) wants old.source.left outcome
      seen = import_with (λ h story. (subst (λ d. IsHistory disk old.disk d h) back (history_of old.disk core h story), subst (λ d. AreCounted (disk.faults old.disk) (disk.faults d) h) back story.counted)) imports

  pub info_ran : (info : Info) → new.source ≡ old.source → core.disk ≡ new.disk → (IsTrue disk.told → Opened disk old.disk (Ok core)) → Opens {disk = disk} old.disk (Ok core)
      → (IsTrue disk.told → (s : State) (doubt : Doubt) → StandsFor core s doubt → Steps core core s doubt call.Info (answer.Info info))
      → Says old.sink new.sink (line_of (Informed info)) (status_of (Informed info)) status → InfoRan disk old new status
  info_ran info source back told opens steps said = record {
    ending = Informed info;
    reason = inr (rw (← back) (record {
      info = info;
      ends = refl;
      source = source;
      told = λ t. let o = told t in (o.0, o.1, (steps t o.0 no_doubt o.2).lawful);
      keeps = same_state disk old.disk core.disk opens.goes;
      goes = opens.goes;
      faults = opens.counts;
    }));
    said = said;
  }
