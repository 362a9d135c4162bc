-- How an import ends: at the header, at a section, or with all its sections read and put.
use Rattle.std.proofs.Common.{◌≡◌, inl, inr, ⊎_elim, ℕ, Bool, true, false, List, [], ◌∷◌, ◌++◌, length, Option, None, Some, Ok, Err, refl, sym, ◌∙◌, subst}
use Rattle.std.specs.Prelude.{IsTrue}
use Rattle.std.proofs.lemmas.List.{append-nil}
use Rattle.ss_device.specs.declared.disk.Disk.{Ghosts}
use Rattle.ss_car.specs.Car.{Section, StartFault}
use Rattle.ss_car.specs.Bodies.{Blames}
use Rattle.ss_car.specs.declared.fault.CarFault.{CarFault}
use Rattle.ss_car.specs.declared.fault.CarFault.TheVariants as car
use Rattle.ss_model.specs.State.{State}
use Rattle.ss_model.specs.declared.call.Call.TheVariants as call
use Rattle.ss_model.specs.declared.call.Answer.TheVariants as answer
use Rattle.ss_model.specs.declared.call.HeadReply.{HeadReply}
use Rattle.ss_model.specs.declared.call.HeadReply.TheVariants as head
use Rattle.ss_core.specs.declared.split_core.SplitCore.{SplitCore}
use Rattle.ss_core.specs.Calls.{Steps, Makes}
use Rattle.ss_core.specs.StandsFor.{Doubt, StandsFor}
use Rattle.ss_history.specs.Story.{Story}
use Rattle.ss_history.proofs.Stories.{story_more}
use Rattle.ss_import.specs.declared.fault.ImportFault.{ImportFault}
use Rattle.ss_import.specs.declared.importer.Imported.{Imported}
use Rattle.ss_import.specs.declared.importer.Importer.{Importer}
use Rattle.ss_import.specs.Import.{fault_at, entry, AreRead, IsWhole, EndsReading, EndsHead, IsImport}
use Rattle.ss_import.specs.Steps.{Putting, WasRead, Ended}
use Rattle.ss_import.proofs.Putting.{opened}

-- all bytes were read
all_read : (input : Option (List ℕ)) (roots : List (List ℕ)) (sections : List Section) → IsWhole input roots sections → AreRead input roots sections
all_read input roots sections whole = inr (λ bytes is. (length bytes, (whole bytes is).0, record { front = bytes; rest = []; spelled = sym (append-nil bytes); is_car = (whole bytes is).1; end_is = refl }))

-- why the header ends an import
header_ends : (input : Option (List ℕ)) (f : CarFault) (offset : ℕ) → offset ≡ 0 → Blames StartFault input f → EndsReading input [] [] [] (fault_at f offset)
header_ends input car.ReadFault offset at blames = tt
header_ends input car.NoMemory offset at blames = tt
header_ends input car.Truncated offset at blames = (refl, refl, inr (refl, at, blames))
header_ends input car.BadHeader offset at blames = (refl, refl, inr (refl, at, blames))
header_ends input (car.BadVersion version) offset at blames = (refl, refl, inr (refl, at, blames))
header_ends input car.ZeroSection offset at blames = (refl, refl, inr (refl, at, blames))
header_ends input car.TooLarge offset at blames = (refl, refl, inr (refl, at, blames))
header_ends input car.BadCid offset at blames = (refl, refl, inr (refl, at, blames))
header_ends input car.BadLength offset at blames = (refl, refl, inr (refl, at, blames))

module _ {D : Type 0} {disk : Ghosts D} (wants : Bool) (input : Option (List ℕ)) (was : D) (imp : Importer D disk) where
  -- the header is refused
  pub header_refused : (f : CarFault) (offset : ℕ) → offset ≡ 0 → Blames StartFault input f → Putting was imp [] [] → IsImport (Story was imp.core) wants input (Err (fault_at f offset))
  header_refused f offset at blames putting = record {
    view = imp.view;
    roots = [];
    sections = [];
    left = [];
    puts = putting.puts;
    last = [];
    did = subst (λ h. Story was imp.core (opened imp.view ∷ h)) (sym (append-nil putting.puts)) putting.story;
    read = inl refl;
    are_puts = putting.are_puts;
    reason = inr (inl (refl, header_ends input f offset at blames));
  }

  -- the import ended before its sections were all put
  pub early : (fault : ImportFault) → Ended input was imp fault → IsImport (Story was imp.core) wants input (Err fault)
  early fault ends = ⊎_elim
      (λ by_put. record {
        view = imp.view;
        roots = ends.roots;
        sections = ends.sections;
        left = by_put.left;
        puts = by_put.puts;
        last = by_put.last;
        did = by_put.story;
        read = ends.read;
        are_puts = by_put.are_puts;
        reason = inl by_put.reason;
      })
      (λ by_car. record {
        view = imp.view;
        roots = ends.roots;
        sections = ends.sections;
        left = by_car.0;
        puts = by_car.1.puts;
        last = [];
        did = subst (λ h. Story was imp.core (opened imp.view ∷ h)) (sym (append-nil by_car.1.puts)) by_car.1.story;
        read = ends.read;
        are_puts = by_car.1.are_puts;
        reason = inr (inl (refl, by_car.2));
      })
      ends.reason

module _ {D : Type 0} {disk : Ghosts D} (input : Option (List ℕ)) (was : D) (imp : Importer D disk) (roots : List (List ℕ)) (read : WasRead input was imp roots) where
  -- no head is set
  pub headless : (wants : Bool) (done : Imported) → wants ≡ false → done.sections ≡ imp.sections → done.new ≡ imp.new_blocks → done.height ≡ None → IsImport (Story was imp.core) wants input (Ok done)
  headless wants done is sections new height = record {
    view = imp.view;
    roots = roots;
    sections = read.sections;
    left = [];
    puts = read.putting.puts;
    last = [];
    did = subst (λ h. Story was imp.core (opened imp.view ∷ h)) (sym (append-nil read.putting.puts)) read.putting.story;
    read = all_read input roots read.sections read.whole;
    are_puts = read.putting.are_puts;
    reason = (refl, read.whole, sections ∙ read.count, new ∙ read.putting.new_is, inl (is, refl, height));
  }

  module _ (wants : Bool) (is : wants ≡ true) (core : SplitCore D disk) (reply : HeadReply)
      (told : IsTrue disk.told → (s : State) (doubt : Doubt) → StandsFor imp.core s doubt → Steps imp.core core s doubt (call.SetHead roots) (answer.Head reply)) (made : Makes imp.core core (call.SetHead roots) (answer.Head reply)) where
    story : Story was core (opened imp.view ∷ (read.putting.puts ++ entry (call.SetHead roots) (answer.Head reply) ∷ []))
    story = story_more was imp.core core (opened imp.view ∷ read.putting.puts) (entry (call.SetHead roots) (answer.Head reply)) read.putting.story told made

    -- the head is set
    pub headed : (done : Imported) (height : ℕ) → reply ≡ head.Set height → done.sections ≡ imp.sections → done.new ≡ imp.new_blocks → done.height ≡ Some height → IsImport (Story was core) wants input (Ok done)
    headed done height set sections new at = record {
      view = imp.view;
      roots = roots;
      sections = read.sections;
      left = [];
      puts = read.putting.puts;
      last = entry (call.SetHead roots) (answer.Head (head.Set height)) ∷ [];
      did = subst (λ r. Story was core (opened imp.view ∷ (read.putting.puts ++ entry (call.SetHead roots) (answer.Head r) ∷ []))) set story;
      read = all_read input roots read.sections read.whole;
      are_puts = read.putting.are_puts;
      reason = (refl, read.whole, sections ∙ read.count, new ∙ read.putting.new_is, inr (is, height, refl, at));
    }

    -- the head is refused
    pub head_refused : (fault : ImportFault) → EndsHead reply fault → IsImport (Story was core) wants input (Err fault)
    head_refused fault ends = record {
      view = imp.view;
      roots = roots;
      sections = read.sections;
      left = [];
      puts = read.putting.puts;
      last = entry (call.SetHead roots) (answer.Head reply) ∷ [];
      did = story;
      read = all_read input roots read.sections read.whole;
      are_puts = read.putting.are_puts;
      reason = inr (inr (is, refl, read.whole, reply, refl, ends));
    }
