-- What is said of a text, and of a store that is made.
use Rattle.std.proofs.Common.{◌≡◌, inl, inr, ℕ, List, [], ◌++◌, Ok, Err, refl, sym, ◌∙◌, subst, arith}
use Rattle.std.specs.Prelude.{IsTrue, codes}
use Rattle.std.proofs.lemmas.List.{append-nil}
use Rattle.std.specs.Io.KnownBytes.{Appends}
use Rattle.ss_device.specs.declared.disk.Disk.{Ghosts}
use Rattle.ss_device.specs.Disk.{Rose}
use Rattle.ss_records.specs.declared.record.Config.{Config as Settings}
use Rattle.ss_core.specs.declared.split_core.SplitCore.{SplitCore}
use Rattle.ss_open.specs.declared.fault.OpenFault.{OpenFault}
use Rattle.ss_open.specs.declared.fault.OpenFault.TheVariants as opening
use Rattle.ss_open.specs.Opening.{Made, Inits}
use Rattle.ss_open.proofs.Makings.{none_risen}
use Rattle.ss_app.specs.declared.ending.Ending.TheVariants.{Done, NoMemory, DiskFault, StoreExists}
use Rattle.ss_app.specs.Ending.{line_of, status_of, ending_of_open}
use Rattle.ss_history.specs.Story.{AreCounted}
use Rattle.ss_app.specs.Outcome.{Inited}
use Rattle.ss_app.specs.World.{Says}
use Rattle.ss_app.specs.World.{Output, World}
use Rattle.ss_app.proofs.Appending.{appends_more, front_behind}

-- what is said after what was printed
pub says_behind : (old mid new : Output) (printed line : List ℕ) (own status : ℕ) → Appends old.written mid.written printed → mid.faults ≡ old.faults → Says mid new line own status → Says old new (printed ++ line) own status
says_behind old mid new printed line own status wrote sound (inl said) = inl (said.0, appends_more old.written mid.written new.written printed line wrote said.1, said.2 ∙ sound)
says_behind old mid new printed line own status wrote sound (inr said) = inr (said.0, front_behind old.written mid.written new.written printed line wrote said.1, subst (λ n. Rose n new.faults) sound said.2)

-- the sink took a text, and nothing more is said
pub says_text : (old mid new : Output) (bytes : List ℕ) (status : ℕ) → Appends old.written mid.written bytes → mid.faults ≡ old.faults → Says mid new [] 0 status → Says old new bytes 0 status
says_text old mid new bytes status wrote sound said = subst (λ b. Says old new b 0 status) (append-nil bytes) (says_behind old mid new bytes [] 0 status wrote sound said)

-- where no count rose, none of no entries did
pub none_counted : (before now : ℕ) → now ≡ before → AreCounted before now []
none_counted before now same = record { enough = omega (arith, same); none = λ _. same }

module _ {D : Type 0} (disk : Ghosts D) (old new : World D) (settings : Settings) (status : ℕ) (source : new.source ≡ old.source) where
  -- a store is made
  pub made_store : (core : SplitCore D disk) → core.disk ≡ new.disk → (IsTrue disk.told → Made disk old.disk settings (Ok core)) → Inits {T = SplitCore D disk} disk old.disk core.disk settings (Ok core)
      → Says old.sink new.sink (codes "store made\n") 0 status → Inited disk old new settings status
  made_store core is made inits said = record {
    ending = Done;
    reason = λ told. rw (← is) ((made told).0, (made told).2);
    source = source;
    faults = rw (← is) (none_counted _ _ (none_risen disk _ _ settings (Ok core) inits (λ same. let differ : ⊥ = cc (same) in differ)));
    kept = rw (← is) inits.kept;
    stops = rw (← is) inits.stops;
    said = subst (λ b. Says old.sink new.sink b 0 status) (sym (append-nil (codes "store made\n"))) said;
  }

  -- none is made
  pub made_none : (fault : OpenFault) → (IsTrue disk.told → Made disk old.disk settings (Err (fault, new.disk))) → Inits {T = SplitCore D disk} disk old.disk new.disk settings (Err fault)
      → Says old.sink new.sink (line_of (ending_of_open fault)) (status_of (ending_of_open fault)) status → Inited disk old new settings status
  made_none opening.NoStore made inits said = absurd inits.errors
  made_none (opening.Damaged file at) made inits said = absurd inits.errors
  made_none opening.StoreExists made inits said = record { ending = StoreExists; reason = made; source = source; faults = none_counted _ _ (none_risen disk _ _ settings (Err opening.StoreExists) inits (λ same. let differ : ⊥ = cc (same) in differ)); kept = inits.kept; stops = inits.stops; said = said }
  made_none opening.DiskFault made inits said = record { ending = DiskFault; reason = tt; source = source; faults = inits.counts.rose refl; kept = inits.kept; stops = inits.stops; said = said }
  made_none opening.NoMemory made inits said = record { ending = NoMemory; reason = inits.memory refl; source = source; faults = none_counted _ _ (none_risen disk _ _ settings (Err opening.NoMemory) inits (λ same. let differ : ⊥ = cc (same) in differ)); kept = inits.kept; stops = inits.stops; said = said }
