-- What the append of a record says, by the clauses of the log.
use Rattle.std.proofs.Common.{◌≡◌, inl, inr, ⊎_elim, ◌↔◌, ℕ, ◌+◌, ◌-◌, ◌<◌, ◌≤◌, false, List, [], ◌∷◌, ◌++◌, length, take, refl, ◌∙◌, ap, subst, arith, length-append}
use Rattle.std.specs.Prelude.{Result, Ok, Err}
use Rattle.std.proofs.lemmas.List.{map-append, take_at}
use Rattle.ss_device.specs.declared.disk.Disk.{Ghosts}
use Rattle.ss_device.specs.Disk.{Rose}
use Rattle.ss_device.specs.Calls.{Touches, Leaves}
use Rattle.ss_device.proofs.Goes.{leaves, leaves_on, touches_on}
use Rattle.ss_gatelog.specs.declared.fault.LogFault.{LogFault as FaultOfLog}
use Rattle.ss_gatelog.specs.declared.fault.LogFault.TheVariants as of_log
use Rattle.ss_gatelog.specs.GateLog.{Log, IsSure, Stands, HasEither, Settled, KeepsSettled, body_of}
use Rattle.ss_gatelog.proofs.Logs.{stands_leaves}
use Rattle.ss_records.specs.declared.record.Record.{Record}
use Rattle.ss_records.specs.Record.{frame, spelling}
use Rattle.ss_store.specs.declared.fault.StoreFault.{StoreFault}
use Rattle.ss_store.specs.declared.fault.StoreFault.TheVariants.{DiskFault}
use Rattle.ss_store.specs.Append.{bodies, HasOneOf, Appends, KeepsAppended}

-- an append for which there is room fails by the disk alone
pub only_disk : (e : FaultOfLog) (need room : ℕ) → ((n r : ℕ) → (◌≡◌ {A = Result ℕ FaultOfLog} (Err e) (Err (of_log.LogFull n r))) ↔ ((n ≡ need) × (r ≡ room) × (r < n))) → need ≤ room → ((at : ℕ) → e ≡ of_log.Damaged at → ⊥) → e ≡ of_log.DiskFault
only_disk of_log.DiskFault need room full fits undamaged = refl
only_disk (of_log.LogFull n r) need room full fits undamaged = let answer = (full n r).0 refl in absurd (omega (arith, answer.0, answer.1, answer.2))
only_disk (of_log.Damaged at) need room full fits undamaged = absurd (undamaged at refl)

-- the body of the frame of a record
pub body_of-frame : (body : List ℕ) → body_of (frame body) ≡ body
body_of-frame body =
    let size : length (frame body) - 5 ≡ length body = omega (arith, length-append body (0 ∷ [])) in
    ap (λ (n : ℕ). take n (body ++ 0 ∷ [])) size ∙ take_at body (0 ∷ []) (length body) refl

pub bodies-push : (records : List Record) (r : Record) → bodies (records ++ r ∷ []) ≡ bodies records ++ spelling r ∷ []
bodies-push records r = map-append spelling records (r ∷ [])

module _ {D : Type 0} (disk : Ghosts D) where
  -- ---- over any disk, of a log that was settled and then written to

  module _ (was mid now : D) (old log new : Log) (need : ℕ) (settling : Settled disk was mid old log of_log.DiskFault (Ok tt)) (fits : need ≤ old.limit - 1 - old.end) (known : new.end + 1 ≤ disk.known now new.file) (second : Touches disk log.file mid now) where
    touches : Touches disk old.file was now
    touches = touches_on disk old.file was mid now settling.touches (subst (λ (l : Log). Touches disk l.file mid now) settling.ok second)

    kept : disk.faults mid ≡ disk.faults was
    kept = ⊎_elim (λ is. absurd (let differ : ⊥ = cc in differ)) (λ same. same) settling.counts.kept

    pub written_failed : new ≡ record log { unsure = new.unsure } → Rose (disk.faults mid) (disk.faults now) → Appends disk was now old new need (Err DiskFault)
    written_failed err rose = record {
      ok = tt;
      err = err ∙ ap (λ (l : Log). record l { unsure = new.unsure }) settling.ok;
      untouched = λ e is. inl (let same : e ≡ DiskFault = cc in same);
      full = λ file wants room is. absurd (let differ : ⊥ = cc in differ);
      roomy = λ either. fits;
      not_damaged = λ file at is. let differ : ⊥ = cc in differ;
      counts = record { later = touches.faults; rose = λ is. subst (λ (n : ℕ). Rose n (disk.faults now)) kept rose; kept = inl refl };
      known = known;
      touches = touches;
    }

    pub written_done : new ≡ record log { end = log.end + need } → disk.faults now ≡ disk.faults mid → Appends disk was now old new need (Ok tt)
    written_done ok same = record {
      ok = ok ∙ ap (λ (l : Log). record l { end = l.end + need }) settling.ok;
      err = tt;
      untouched = λ e is. absurd (let differ : ⊥ = cc in differ);
      full = λ file wants room is. absurd (let differ : ⊥ = cc in differ);
      roomy = λ either. fits;
      not_damaged = λ file at is. let differ : ⊥ = cc in differ;
      counts = record { later = touches.faults; rose = λ is. absurd (let differ : ⊥ = cc in differ); kept = inr (same ∙ kept) };
      known = known;
      touches = touches;
    }

  -- ---- over a disk that exposes its files

  -- each image of a file since has P, and so Q
  pub leaves_as : (file : ℕ) (P Q : List ℕ → Type 0) (was now : D) → ((bytes : List ℕ) → P bytes → Q bytes) → Leaves disk file P was now → Leaves disk file Q was now
  leaves_as file P Q was now wider has = leaves disk file (λ _ bytes. P bytes) Q was now has (λ left bytes image. wider bytes)

  module _ (old : Log) (records others : List Record) (r : Record) where
    abbrev One : List ℕ → Type 0
    One = HasOneOf old.limit records others (records ++ r ∷ [])

    -- the lists of a log that was settled, or was not touched
    leaves_two : (was now : D) → Leaves disk old.file (HasEither old.limit (bodies records) (bodies others)) was now → Leaves disk old.file One was now
    leaves_two was now = leaves_as old.file (HasEither old.limit (bodies records) (bodies others)) One was now (λ bytes has. ⊎_elim (λ first. inl first) (λ second. inr (inl second)) has)

    -- those of one that was written to
    leaves_more : (mid now : D) (log : Log) → log ≡ record old { unsure = false } → Leaves disk log.file (HasEither log.limit (bodies records) (bodies records ++ spelling r ∷ [])) mid now → Leaves disk old.file One mid now
    leaves_more mid now log is left =
        leaves_as old.file (HasEither old.limit (bodies records) (bodies (records ++ r ∷ []))) One mid now (λ bytes has. ⊎_elim (λ first. inl first) (λ third. inr (inr third)) has)
        (subst (λ (l : Log). Leaves disk l.file (HasEither l.limit (bodies records) (bodies (records ++ r ∷ []))) mid now) is (rw (bodies-push records r) left))

    pub full_keeps : (now : D) (e : StoreFault) → old.end < old.limit → Stands disk now old (bodies records) (bodies others) → KeepsAppended disk now now old old records others r (Err e)
    full_keeps now e within stands = record { appended = tt; failed = inl stands; stops = leaves_two now now (stands_leaves disk now old (bodies records) (bodies others) within stands) }

    pub unsettled_keeps : (was now : D) (new : Log) (cause : FaultOfLog) (e : StoreFault) → KeepsSettled disk was now old new (bodies records) (bodies others) (Err cause) → KeepsAppended disk was now old new records others r (Err e)
    unsettled_keeps was now new cause e settling = record { appended = tt; failed = inl settling.unsettled; stops = leaves_two was now settling.stops }

    -- a log was settled, and then written to
    module _ (was mid now : D) (log new : Log) (is : log ≡ record old { unsure = false }) (settling : KeepsSettled {E = FaultOfLog} disk was mid old log (bodies records) (bodies others) (Ok tt))
        (left : Leaves disk log.file (HasEither log.limit (bodies records) (bodies records ++ spelling r ∷ [])) mid now) where
      stops : Leaves disk old.file One was now
      stops = leaves_on disk old.file One was mid now (leaves_two was mid settling.stops) (leaves_more mid now log is left)

      pub failed_keeps : (e : StoreFault) → Stands disk now new (bodies records) (bodies records ++ spelling r ∷ []) → KeepsAppended disk was now old new records others r (Err e)
      failed_keeps e failed = record { appended = tt; failed = inr (rw (bodies-push records r) failed); stops = stops }

      pub done_keeps : IsSure disk now new (bodies records ++ spelling r ∷ []) → KeepsAppended disk was now old new records others r (Ok tt)
      done_keeps appended = record { appended = rw (bodies-push records r) appended; failed = tt; stops = stops }
