-- The endings of a run of `trace`.
use Rattle.std.proofs.Common.{◌≡◌, ◌⊎◌, inl, inr, Bool, true, false, ℕ, ◌<◌, ◌≤◌, List, [], ◌++◌, Ok, Err, refl, sym, ap, ◌∙◌, subst, append_assoc, arith}
use Rattle.std.specs.Prelude.{IsTrue}
use Rattle.std.specs.List.{list_any}
use Rattle.std.proofs.lemmas.List.{append-nil}
use Rattle.ss_io.specs.Streams.{AppendsFront}
use Rattle.ss_device.specs.declared.disk.Disk.{Ghosts}
use Rattle.ss_device.specs.Disk.{Same}
use Rattle.ss_device.specs.Calls.{Goes}
use Rattle.ss_open.specs.declared.fault.OpenFault.{OpenFault}
use Rattle.ss_open.specs.declared.fault.OpenFault.TheVariants as opening
use Rattle.ss_open.specs.Opening.{Opened, Opens}
use Rattle.ss_open.proofs.Openings.{stands_apart}
use Rattle.ss_script.specs.declared.line.Line.{Line}
use Rattle.ss_script.specs.Text.{text}
use Rattle.ss_app.specs.declared.TheConstants.{SCRIPT_BYTES}
use Rattle.ss_app.specs.declared.ending.Ending.{Ending}
use Rattle.ss_app.specs.declared.ending.Ending.TheVariants.{Done, NoMemory, BadScript}
use Rattle.ss_app.specs.declared.ending.Ending.TheVariants as ends
use Rattle.ss_app.specs.Ending.{line_of, status_of, ending_of_open}
use Rattle.ss_history.specs.Story.{IsFulfilled, faults_in, is_refused, IsLegalFrom, IsLeft, state_behind}
use Rattle.ss_app.specs.Outcome.{Reads, Traced, CallsMade, HasReason, CountsSource, CountsDisk, IsWhole, IsValidTrace, HavePlaceOn}
use Rattle.ss_app.specs.World.{Says}
use Rattle.ss_app.specs.World.{World}
use Rattle.ss_app.proofs.Appending.{front_of_more, front_whole}
use Rattle.ss_history.proofs.Fulfilled.{fulfilled, no_faults, err_or_ok}
use Rattle.ss_app.proofs.Sayings.{says_behind, none_counted}
use Rattle.ss_history.proofs.Still.{same_disk, same_touches}
use Rattle.ss_core.proofs.Reopened.{same_state}

is_whole : (ending : Ending) (unprinted : List ℕ) → (ending ≡ Done → unprinted ≡ []) → (ending ≡ Done) ⊎ (ending ≡ NoMemory) → IsWhole ending unprinted
is_whole ending unprinted whole (inl done) = subst (λ e. IsWhole e unprinted) (sym done) (whole done)
is_whole ending unprinted whole (inr none) = subst (λ e. IsWhole e unprinted) (sym none) tt

whole_of_none : (ending : Ending) → IsWhole ending []
whole_of_none Done = refl
whole_of_none (ends.Usage word) = tt
whole_of_none NoMemory = tt
whole_of_none ends.ReadFault = tt
whole_of_none ends.DiskFault = tt
whole_of_none ends.NoStore = tt
whole_of_none ends.StoreExists = tt
whole_of_none (ends.Damaged file at) = tt
whole_of_none (BadScript line kind) = tt
whole_of_none ends.TooLong = tt
whole_of_none (ends.NotImported fault) = tt
whole_of_none (ends.Imported imported) = tt
whole_of_none (ends.Informed info) = tt

too_many : (n most : ℕ) → most < n → n ≤ most → ⊥
too_many n most more few = omega (arith, more, few)

module _ {D : Type 0} (disk : Ghosts D) (old new : World D) (status : ℕ) where
  -- a run that made no call
  no_call : (ending : Ending) → Goes disk Same old.disk new.disk → HasReason disk old new [] ending → CountsSource ending old.source.faults new.source.faults → CountsDisk ending [] (disk.faults old.disk) (disk.faults new.disk)
      → ((script : List ℕ) (lines : List Line) → IsValidTrace disk old new script lines → (ending ≡ NoMemory) ⊎ ((ending ≡ Done) × (HavePlaceOn (disk.files old.disk) [] → IsFulfilled [])))
      → Says old.sink new.sink (line_of ending) (status_of ending) status → Traced disk old new status
  no_call ending goes reason source faults valid said = record {
    ending = ending;
    history = [];
    printed = [];
    unprinted = [];
    is_history = record { legal = λ _. inl refl; rooms = (65536, (omega arith, omega arith), tt); touches = same_touches disk old.disk new.disk goes; keeps = λ told _. same_state disk old.disk new.disk goes told; still = λ _. goes };
    text_is = refl;
    whole = whole_of_none ending;
    reason = reason;
    source = source;
    faults = faults;
    complete = valid;
    said = said;
  }

  no_memory : Goes disk Same old.disk new.disk → new.source.faults ≡ old.source.faults → disk.faults new.disk ≡ disk.faults old.disk → Says old.sink new.sink (line_of NoMemory) 3 status → Traced disk old new status
  no_memory goes source faults said = no_call NoMemory goes ([], tt, λ script told. inl refl) source (none_counted _ _ faults) (λ script lines valid. inl refl) said

  -- the script is not read, and the disk was not called
  pub read_refused : (ending : Ending) → new.disk ≡ old.disk → Reads old.source new.source (Err ending) → Says old.sink new.sink (line_of ending) (status_of ending) status → Traced disk old new status
  read_refused ending same reads said = by ending reads said
    where
      goes : Goes disk Same old.disk new.disk
      goes = subst (λ d. Goes disk Same old.disk d) (sym same) (same_disk disk old.disk)

      sound : disk.faults new.disk ≡ disk.faults old.disk
      sound = ap disk.faults same

      by : (e : Ending) → Reads old.source new.source (Err e) → Says old.sink new.sink (line_of e) (status_of e) status → Traced disk old new status
      by Done reads said = absurd reads
      by (ends.Usage word) reads said = absurd reads
      by NoMemory reads said = no_memory goes reads sound said
      by ends.ReadFault reads said = no_call ends.ReadFault goes refl reads (none_counted _ _ sound) (λ script lines valid. absurd (valid.source reads)) said
      by ends.DiskFault reads said = absurd reads
      by ends.NoStore reads said = absurd reads
      by ends.StoreExists reads said = absurd reads
      by (ends.Damaged file at) reads said = absurd reads
      by (BadScript line kind) reads said = no_call (BadScript line kind) goes (refl, reads.0) reads.1 (none_counted _ _ sound)
          (λ script lines valid. absurd (err_or_ok _ _ _ (reads.0 script valid.told).1 valid.asks.1)) said
      by (ends.NotImported fault) reads said = absurd reads
      by (ends.Imported imported) reads said = absurd reads
      by (ends.Informed info) reads said = absurd reads
      by ends.TooLong reads said = no_call ends.TooLong goes (refl, reads.0) reads.1 (none_counted _ _ sound) (λ script lines valid. absurd (too_many _ SCRIPT_BYTES (reads.0 script valid.told) valid.asks.0)) said

  -- the store is not opened
  pub store_refused : (lines : List Line) (fault : OpenFault) → Reads old.source new.source (Ok lines) → (IsTrue disk.told → Opened disk old.disk (Err (fault, new.disk))) → Opens {disk = disk} old.disk (Err (fault, new.disk))
      → Says old.sink new.sink (line_of (ending_of_open fault)) (status_of (ending_of_open fault)) status → Traced disk old new status
  store_refused lines opening.NoStore read told opens said = no_call ends.NoStore opens.goes (refl, (lines, read.1), told) read.2 (none_counted _ _ opens.counts)
      (λ script asked valid. let stands = valid.stands.1 in absurd (told valid.tells stands.settings stands.half.committed)) said
  store_refused lines opening.StoreExists read told opens said = absurd (opens.errors opening.StoreExists new.disk refl)
  store_refused lines (opening.Damaged file at) read told opens said = no_call (ends.Damaged file at) opens.goes (refl, (lines, read.1), opens.errors (opening.Damaged file at) new.disk refl, told) read.2 (none_counted _ _ opens.counts)
      (λ script asked valid. absurd (stands_apart (disk.files old.disk) file at _ (told valid.tells) valid.stands.1)) said
  store_refused lines opening.DiskFault read told opens said = no_call ends.DiskFault opens.goes (refl, (lines, read.1)) read.2 opens.counts
      (λ script asked valid. absurd (valid.faults opens.counts)) said
  store_refused lines opening.NoMemory read told opens said = no_memory opens.goes read.2 opens.counts said

  module _ (lines : List Line) (read : Reads old.source new.source (Ok lines)) where
    -- why a run that made these calls ends so
    made_reason : (mid : _) (ending : Ending) (refused : Bool) (m : CallsMade disk old.disk new.disk lines old.sink mid ending refused) → (ending ≡ Done) ⊎ (ending ≡ NoMemory) → HasReason disk old new m.history ending
    made_reason mid ending refused m (inl done) =
        let all : lines ≡ m.made = m.lines_are ∙ ap (λ l. m.made ++ l) (m.all_made done) ∙ append-nil m.made in
        let why : HasReason disk old new m.history Done =
        (read.0, m.stands, m.made, m.in_order, λ script told. let asks = read.1 script told in (asks.0, asks.1 ∙ ap Ok all)) in
        subst (HasReason disk old new m.history) (sym done) why
    made_reason mid ending refused m (inr none) =
        let why : HasReason disk old new m.history NoMemory =
        (m.made, m.in_order, λ script told. let asks = read.1 script told in inr (m.left, (asks.0, asks.1 ∙ ap Ok m.lines_are))) in
        subst (HasReason disk old new m.history) (sym none) why

    -- such an ending blames neither the source nor the disk
    counts_source : (ending : Ending) → (ending ≡ Done) ⊎ (ending ≡ NoMemory) → CountsSource ending old.source.faults new.source.faults
    counts_source ending (inl done) = subst (λ e. CountsSource e old.source.faults new.source.faults) (sym done) read.2
    counts_source ending (inr none) = subst (λ e. CountsSource e old.source.faults new.source.faults) (sym none) read.2

    counts_disk : (mid : _) (ending : Ending) (refused : Bool) (m : CallsMade disk old.disk new.disk lines old.sink mid ending refused) → (ending ≡ Done) ⊎ (ending ≡ NoMemory) → CountsDisk ending m.history (disk.faults old.disk) (disk.faults new.disk)
    counts_disk mid ending refused m (inl done) = subst (λ e. CountsDisk e m.history (disk.faults old.disk) (disk.faults new.disk)) (sym done) m.faults
    counts_disk mid ending refused m (inr none) = subst (λ e. CountsDisk e m.history (disk.faults old.disk) (disk.faults new.disk)) (sym none) m.faults

    -- a valid run that made its calls was not refused any, but out of memory
    made_complete : (mid : _) (ending : Ending) (refused : Bool) (m : CallsMade disk old.disk new.disk lines old.sink mid ending refused) → (ending ≡ Done) ⊎ (ending ≡ NoMemory)
        → (script : List ℕ) (asked : List Line) → IsValidTrace disk old new script asked → (ending ≡ NoMemory) ⊎ ((ending ≡ Done) × (HavePlaceOn (disk.files old.disk) m.history → IsFulfilled m.history))
    made_complete mid ending refused m (inr none) script asked valid = inl none
    made_complete mid ending refused m (inl done) script asked valid =
        inr (done, λ place. inl (by place (m.is_history.legal valid.tells)))
      where
        by : HavePlaceOn (disk.files old.disk) m.history → (m.history ≡ []) ⊎ ((from : IsLegalFrom (disk.files old.disk) m.history) × IsLeft disk new.disk (state_behind from) from.doubt) → list_any is_refused m.history ≡ false
        by place (inl none) = subst (λ h. list_any is_refused h ≡ false) (sym none) refl
        by place (inr l) = fulfilled l.0.state m.history l.0.legal (place l.0.state l.0.stands) (no_faults (disk.faults old.disk) (disk.faults new.disk) (faults_in m.history) m.faults.enough valid.faults)

    -- a run that made calls, and wrote how it ended
    pub traced : (mid : _) (ending : Ending) → CallsMade disk old.disk new.disk lines old.sink mid ending false → Says mid new.sink (line_of ending) (status_of ending) status → Traced disk old new status
    traced mid ending m said = record {
      ending = ending;
      history = m.history;
      printed = m.printed;
      unprinted = m.unprinted;
      is_history = m.is_history;
      text_is = m.text_is;
      whole = is_whole ending m.unprinted (m.all_printed refl) m.ends;
      reason = made_reason mid ending false m m.ends;
      source = counts_source ending m.ends;
      faults = counts_disk mid ending false m m.ends;
      complete = made_complete mid ending false m m.ends;
      said = says_behind old.sink mid new.sink m.printed (line_of ending) (status_of ending) status m.wrote (m.sound refl) said;
    }

    -- the same where the sink refused a line
    pub traced_refused : (ending : Ending) → CallsMade disk old.disk new.disk lines old.sink new.sink ending true → status ≡ 5 → Traced disk old new status
    traced_refused ending m five = record {
      ending = ending;
      history = m.history;
      printed = text m.history;
      unprinted = [];
      is_history = m.is_history;
      text_is = sym (append-nil (text m.history));
      whole = is_whole ending [] (λ _. refl) m.ends;
      reason = made_reason new.sink ending true m m.ends;
      source = counts_source ending m.ends;
      faults = counts_disk new.sink ending true m m.ends;
      complete = made_complete new.sink ending true m m.ends;
      said = inr (five, subst (AppendsFront old.sink.written new.sink.written) (sym (append_assoc m.printed m.unprinted (line_of ending)) ∙ ap (λ t. t ++ line_of ending) (sym m.text_is)) (front_of_more old.sink.written new.sink.written m.printed (m.unprinted ++ line_of ending) (front_whole old.sink.written new.sink.written m.printed m.wrote)), m.rose refl);
    }
