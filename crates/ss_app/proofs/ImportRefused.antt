-- Which statuses runs of `import` and `info` come to: what is wrong with the store, or nothing.
use Rattle.std.proofs.Common.{◌≡◌, ◌⊎◌, inl, inr, ⊎_elim, ℕ, Bool, List, Result, Ok, Err, refl, sym, ap, ◌∙◌, subst, true≢false}
use Rattle.std.specs.Prelude.{IsTrue, IsOk}
use Rattle.ss_car.specs.Car.{Section}
use Rattle.ss_device.specs.Disk.{Rose}
use Rattle.ss_device.specs.declared.disk.Disk.{Ghosts}
use Rattle.ss_history.specs.Story.{HasStore, IsLegalFrom}
use Rattle.ss_open.specs.Opening.{HasNoStore, IsDamagedStore, Opened, Opens}
use Rattle.ss_open.specs.declared.fault.OpenFault.{OpenFault}
use Rattle.ss_open.specs.declared.fault.OpenFault.TheVariants as opening
use Rattle.ss_open.proofs.Openings.{stands_apart}
use Rattle.ss_import.specs.Import.{entries_of, IsFull}
use Rattle.ss_import.specs.declared.importer.Imported.{Imported}
use Rattle.ss_import.specs.declared.fault.ImportFault.{ImportFault}
use Rattle.ss_import.specs.declared.fault.ImportFault.TheVariants as import
use Rattle.ss_app.proofs.Imports.{some_entries, comes_to}
use Rattle.ss_app.specs.declared.ending.Ending.{Ending}
use Rattle.ss_app.specs.Ending.{status_of, line_of, ending_of_open, ending_of_outcome}
use Rattle.ss_app.specs.Outcome.{IsNotOpened, IsImported, IsInformed, ImportRan, InfoRan, IsValidImport, IsValidInfo}
use Rattle.ss_app.specs.Outcome.{RefusesStore, IsFreeOfDisk, IsDoneOrFull}
use Rattle.ss_app.specs.World.{World, Says}
use Rattle.ss_app.proofs.Refused.{own_or_five, committed_of, not_five, free_five}

-- an import blames no store
never_seven : (outcome : Result Imported ImportFault) → status_of (ending_of_outcome outcome) ≡ 7 → ⊥
never_seven (Ok done) is = cc
never_seven (Err import.NoMemory) is = cc
never_seven (Err import.ReadFault) is = cc
never_seven (Err import.DiskFault) is = cc
never_seven (Err (import.BadCar fault offset)) is = cc
never_seven (Err (import.BadBlock fault offset)) is = cc
never_seven (Err (import.LogFull file need room)) is = cc
never_seven (Err (import.TableFull rows)) is = cc
never_seven (Err import.TooLong) is = cc
never_seven (Err (import.BadHead reply)) is = cc

never_eight : (outcome : Result Imported ImportFault) → status_of (ending_of_outcome outcome) ≡ 8 → ⊥
never_eight (Ok done) is = cc
never_eight (Err import.NoMemory) is = cc
never_eight (Err import.ReadFault) is = cc
never_eight (Err import.DiskFault) is = cc
never_eight (Err (import.BadCar fault offset)) is = cc
never_eight (Err (import.BadBlock fault offset)) is = cc
never_eight (Err (import.LogFull file need room)) is = cc
never_eight (Err (import.TableFull rows)) is = cc
never_eight (Err import.TooLong) is = cc
never_eight (Err (import.BadHead reply)) is = cc

-- the statuses of what an import that nothing stands in the way of comes to
full_status : (fault : ImportFault) → IsFull fault → IsDoneOrFull (status_of (ending_of_outcome (Err fault)))
full_status (import.LogFull file need room) full = inr (inr (inl refl))
full_status (import.TableFull rows) full = inr (inr (inr refl))
full_status import.NoMemory full = absurd full
full_status import.ReadFault full = absurd full
full_status import.DiskFault full = absurd full
full_status (import.BadCar fault offset) full = absurd full
full_status (import.BadBlock fault offset) full = absurd full
full_status import.TooLong full = absurd full
full_status (import.BadHead reply) full = absurd full

done_or_full : (outcome : Result Imported ImportFault) → IsOk outcome ⊎ ((fault : ImportFault) × (outcome ≡ Err fault) × ((fault ≡ import.NoMemory) ⊎ IsFull fault)) → IsDoneOrFull (status_of (ending_of_outcome outcome))
done_or_full outcome (inr e) = subst (λ o. IsDoneOrFull (status_of (ending_of_outcome o))) (sym e.1) (⊎_elim (λ memory. inr (inl (ap (λ f. status_of (ending_of_outcome (Err f))) memory))) (full_status e.0) e.2)
done_or_full (Ok done) (inl ok) = inl refl
done_or_full (Err fault) (inl ok) = absurd (true≢false (sym ok))

module _ {D : Type 0} (disk : Ghosts D) (old new : World D) where
  -- the store was opened, and the run ends for another reason
  Stood : Ending → Type 0
  Stood ending = HasStore (disk.files old.disk) × (status_of ending ≡ 7 → ⊥) × (status_of ending ≡ 8 → ⊥)

  legal_import : (wants : Bool) (ending : Ending) → IsTrue disk.told → (i : IsImported wants disk old new ending) → IsLegalFrom (disk.files old.disk) (entries_of i.imports)
  legal_import wants ending told i = ⊎_elim (λ none. absurd (some_entries _ _ none)) (λ l. l.0) (i.imports.did.0.legal told)

  imported_stood : (wants : Bool) (ending : Ending) → IsTrue disk.told → IsImported wants disk old new ending → Stood ending
  unfolding Stood
  imported_stood wants ending told i =
      let l = legal_import wants ending told i in
      ((l.state, l.stands), λ is. never_seven i.outcome (subst (λ e. status_of e ≡ 7) i.ends is), λ is. never_eight i.outcome (subst (λ e. status_of e ≡ 8) i.ends is))

  informed_stood : (ending : Ending) → IsTrue disk.told → IsInformed disk old new ending → Stood ending
  unfolding Stood
  informed_stood ending told i =
      let t = i.told told in
      ((t.0, t.1), λ is. absurd (let no : 0 ≡ 7 = sym (ap status_of i.ends) ∙ is in cc), λ is. absurd (let no : 0 ≡ 8 = sym (ap status_of i.ends) ∙ is in cc))

  seven : (fault : OpenFault) → status_of (ending_of_open fault) ≡ 7 → Opened disk old.disk (Err (fault, new.disk)) → HasNoStore (disk.files old.disk)
  seven opening.NoStore is none = none
  seven opening.StoreExists is none = absurd none
  seven (opening.Damaged file at) is none = absurd (cc)
  seven opening.DiskFault is none = absurd (cc)
  seven opening.NoMemory is none = absurd (cc)

  eight : (fault : OpenFault) → status_of (ending_of_open fault) ≡ 8 → Opened disk old.disk (Err (fault, new.disk)) → (file at : ℕ) × IsDamagedStore (disk.files old.disk) file at
  eight opening.NoStore is told = absurd (cc)
  eight opening.StoreExists is told = absurd told
  eight (opening.Damaged file at) is told = (file, at, told)
  eight opening.DiskFault is told = absurd (cc)
  eight opening.NoMemory is told = absurd (cc)

  from_none : (fault : OpenFault) → Opened disk old.disk (Err (fault, new.disk)) → HasNoStore (disk.files old.disk) → (status_of (ending_of_open fault) ≡ 7) ⊎ IsFreeOfDisk (status_of (ending_of_open fault))
  from_none opening.NoStore told none = inl refl
  from_none opening.StoreExists told none = absurd told
  from_none (opening.Damaged file at) told none = let found = committed_of (disk.files old.disk) file at told in absurd (none found.0 found.1)
  from_none opening.DiskFault told none = inr (inr refl)
  from_none opening.NoMemory told none = inr (inl (inl refl))

  from_damaged : (fault : OpenFault) (file at : ℕ) → Opened disk old.disk (Err (fault, new.disk)) → IsDamagedStore (disk.files old.disk) file at → (status_of (ending_of_open fault) ≡ 8) ⊎ IsFreeOfDisk (status_of (ending_of_open fault))
  from_damaged opening.NoStore file at told damaged = let found = committed_of (disk.files old.disk) file at damaged in absurd (told found.0 found.1)
  from_damaged opening.StoreExists file at told damaged = absurd told
  from_damaged (opening.Damaged other place) file at told damaged = inl refl
  from_damaged opening.DiskFault file at told damaged = inr (inr refl)
  from_damaged opening.NoMemory file at told damaged = inr (inl (inl refl))

  module _ (told : IsTrue disk.told) (ending : Ending) where
    unopened : IsNotOpened disk old new ending → RefusesStore (disk.files old.disk) (status_of ending)
    unopened n = subst (λ e. RefusesStore (disk.files old.disk) (status_of e)) (sym n.ends) (record {
      no_store = λ is. seven n.fault is (n.told told);
      damaged = λ is. eight n.fault is (n.told told);
      from_none = λ none. from_none n.fault (n.told told) none;
      from_damaged = λ file at damaged. from_damaged n.fault file at (n.told told) damaged;
    })

    stood : Stood ending → RefusesStore (disk.files old.disk) (status_of ending)
    unfolding Stood
    stood s = record {
      no_store = λ is. absurd (s.1 is);
      damaged = λ is. absurd (s.2 is);
      from_none = λ none. absurd (none s.0.1.settings s.0.1.half.committed);
      from_damaged = λ file at damaged. absurd (stands_apart (disk.files old.disk) file at _ damaged s.0.1);
    }

  -- the sink failed
  five_refuses : (status : ℕ) → status ≡ 5 → RefusesStore (disk.files old.disk) status
  five_refuses status five = record {
    no_store = λ is. absurd (not_five status 7 (inl refl) five is);
    damaged = λ is. absurd (not_five status 8 (inr refl) five is);
    from_none = λ none. inr (free_five status five);
    from_damaged = λ file at damaged. inr (free_five status five);
  }

  said_refuses : (ending : Ending) (status : ℕ) → RefusesStore (disk.files old.disk) (status_of ending) → Says old.sink new.sink (line_of ending) (status_of ending) status → RefusesStore (disk.files old.disk) status
  said_refuses ending status own said = ⊎_elim (λ is. subst (RefusesStore (disk.files old.disk)) (sym is.0) own) (λ five. five_refuses status five.0) (own_or_five _ _ _ _ _ said)

  pub import_refuses : (wants : Bool) (status : ℕ) → ImportRan wants disk old new status → IsTrue disk.told → RefusesStore (disk.files old.disk) status
  import_refuses wants status r told = said_refuses r.ending status (⊎_elim (unopened told r.ending) (λ i. stood told r.ending (imported_stood wants r.ending told i)) r.reason) r.said

  pub info_refuses : (status : ℕ) → InfoRan disk old new status → IsTrue disk.told → RefusesStore (disk.files old.disk) status
  info_refuses status r told = said_refuses r.ending status (⊎_elim (unopened told r.ending) (λ i. stood told r.ending (informed_stood r.ending told i)) r.reason) r.said

  -- a store that is there is opened, where the disk does not fail
  open_completes : (fault : OpenFault) → Opened disk old.disk (Err (fault, new.disk)) → Opens {disk = disk} old.disk (Err (fault, new.disk)) → HasStore (disk.files old.disk) → (Rose (disk.faults old.disk) (disk.faults new.disk) → ⊥)
      → (status_of (ending_of_open fault) ≡ 0) ⊎ (status_of (ending_of_open fault) ≡ 3)
  open_completes opening.NoStore told opens stands sound = absurd (told stands.1.settings stands.1.half.committed)
  open_completes opening.StoreExists told opens stands sound = absurd told
  open_completes (opening.Damaged file at) told opens stands sound = absurd (stands_apart (disk.files old.disk) file at _ told stands.1)
  open_completes opening.DiskFault told opens stands sound = absurd (sound opens.counts)
  open_completes opening.NoMemory told opens stands sound = inr refl

  not_opened_completes : (ending : Ending) → IsTrue disk.told → IsNotOpened disk old new ending → HasStore (disk.files old.disk) → (Rose (disk.faults old.disk) (disk.faults new.disk) → ⊥) → (status_of ending ≡ 0) ⊎ (status_of ending ≡ 3)
  not_opened_completes ending told n stands sound = subst (λ e. (status_of e ≡ 0) ⊎ (status_of e ≡ 3)) (sym n.ends) (open_completes n.fault (n.told told) n.opens stands sound)

  said_completes : (P : ℕ → Type 0) (ending : Ending) (status : ℕ) → P (status_of ending) → (Rose old.sink.faults new.sink.faults → ⊥) → Says old.sink new.sink (line_of ending) (status_of ending) status → P status
  said_completes P ending status own sink said = ⊎_elim (λ is. subst P (sym is.0) own) (λ five. absurd (sink five.1)) (own_or_five _ _ _ _ _ said)

  imported_completes : (wants : Bool) (ending : Ending) (bytes : List ℕ) (roots : List (List ℕ)) (sections : List Section) → IsValidImport wants disk old new bytes roots sections → IsImported wants disk old new ending → IsDoneOrFull (status_of ending)
  imported_completes wants ending bytes roots sections valid i =
      subst (λ e. IsDoneOrFull (status_of e)) (sym i.ends) (done_or_full i.outcome (comes_to disk old new wants i.outcome i.imports i.source bytes roots sections valid))

  pub import_completes : (wants : Bool) (status : ℕ) (bytes : List ℕ) (roots : List (List ℕ)) (sections : List Section) → ImportRan wants disk old new status → IsValidImport wants disk old new bytes roots sections → IsDoneOrFull status
  import_completes wants status bytes roots sections r valid =
      said_completes IsDoneOrFull r.ending status (⊎_elim (λ n. ⊎_elim (λ done. inl done) (λ memory. inr (inl memory)) (not_opened_completes r.ending valid.tells n valid.stands valid.faults)) (imported_completes wants r.ending bytes roots sections valid) r.reason) valid.sink r.said

  pub info_completes : (status : ℕ) → InfoRan disk old new status → IsValidInfo disk old new → (status ≡ 0) ⊎ (status ≡ 3)
  info_completes status r valid =
      said_completes (λ n. (n ≡ 0) ⊎ (n ≡ 3)) r.ending status (⊎_elim (λ n. not_opened_completes r.ending valid.tells n valid.stands valid.faults) (λ i. inl (ap status_of i.ends)) r.reason) valid.sink r.said
