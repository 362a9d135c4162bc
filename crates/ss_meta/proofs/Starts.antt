-- What the start of a plan does to its log and to its disk: the log was settled, then emptied, and then appended to.
use Rattle.std.proofs.Common.{◌≡◌, inl, inr, ⊎_elim, ℕ, ◌+◌, ◌-◌, ◌≤◌, ◌<◌, length, Bool, false, List, [], ◌∷◌, refl, sym, ◌∙◌, ap, subst, arith}
use Rattle.std.specs.Prelude.{None, MatchBool, Ok, Err}
use Rattle.ss_device.specs.declared.disk.Disk.{Ghosts}
use Rattle.ss_device.specs.Disk.{Rose}
use Rattle.ss_device.specs.Calls.{Touches, Leaves}
use Rattle.ss_device.proofs.Goes.{touches_on, leaves_on}
use Rattle.ss_gatelog.specs.GateLog.{Log, IsSure, IsDoubted, Stands, HasEither}
use Rattle.ss_gatelog.proofs.Logs.{stands_sure, stands_leaves}
use Rattle.ss_records.specs.declared.record.Record.{Record}
use Rattle.ss_records.specs.Record.{spelling, Fits, IsValue}
use Rattle.ss_store.specs.Append.{bodies, HasOneOf, Appends, KeepsAppended}
use Rattle.ss_store.specs.declared.fault.StoreFault.{StoreFault}
use Rattle.ss_store.specs.declared.fault.StoreFault.TheVariants.{NoMemory, DiskFault, LogFull, Damaged}
use Rattle.ss_store.proofs.Appended.{leaves_as}
use Rattle.ss_meta.specs.Plan.{plan_after, MayFollow}
use Rattle.ss_meta.specs.Meta.{Meta, Keeps, IsKnown, IsEmptied, Settles, StillKeeps, Empties, KeepsEmptied, Starts, HasOldOrNew, KeepsStarted}

-- the store with no record
abbrev pub emptied_of : Meta → Meta
emptied_of old = record { log = record old.log { end = 0; unsure = false }; plan = None }

module _ {D : Type 0} (disk : Ghosts D) where
  -- a sure log has the one list
  pub sure_of : (now : D) (log : Log) (front more : List (List ℕ)) → log.unsure ≡ false → Stands disk now log front more → IsSure disk now log front
  sure_of now log front more sure stands = subst (λ (b : Bool). MatchBool b (IsDoubted disk now log front more) (IsSure disk now log front)) sure stands

  -- a store was settled and emptied
  pub record IsReady (was now : D) (old after : Meta) : Type 0 where
    pub is : after ≡ emptied_of old
    pub faults : disk.faults now ≡ disk.faults was
    pub touches : Touches disk old.log.file was now

  -- ---- over any disk

  module _ (was mid now : D) (old set after : Meta) (settles : Settles disk was mid old set (Ok tt)) where
    settled_kept : disk.faults mid ≡ disk.faults was
    settled_kept = ⊎_elim (λ is. absurd (let differ : ⊥ = cc (is) in differ)) (λ same. same) settles.log.counts.kept

    touched : Touches disk set.log.file mid now → Touches disk old.log.file was now
    touched second = touches_on disk old.log.file was mid now settles.log.touches (subst (λ (l : Log). Touches disk l.file mid now) settles.log.ok second)

    -- the log of a settled store, emptied
    emptied_as : IsEmptied set after → IsEmptied old after
    emptied_as is = is ∙ ap (λ (l : Log). record { log = record l { end = 0; unsure = after.log.unsure }; plan = None }) settles.log.ok

    pub unemptied_starts : (r : Record) (e : StoreFault) → Empties disk mid now set after (Err e) → Starts disk was now old after r (Err e)
    unemptied_starts r e empties =
        let is : e ≡ DiskFault = empties.errors e refl in
        let goes = touched empties.touches in
        record {
          ok = tt;
          err = inr (emptied_as empties.emptied);
          errors = λ f same. inr (empties.errors f same);
          untouched = λ same. absurd (let differ : ⊥ = cc (is, same) in differ);
          counts = record {
            later = goes.faults;
            rose = λ same. subst (λ (n : ℕ). Rose n (disk.faults now)) settled_kept (empties.counts.rose same);
            kept = ⊎_elim (λ same. inl same) (λ same. inr (same ∙ settled_kept)) empties.counts.kept;
          };
          known = empties.known;
          touches = goes;
        }

    pub ready : Empties disk mid now set after (Ok tt) → IsReady was now old after
    ready empties = record {
      is = emptied_as empties.emptied ∙ ap (λ u. record { log = record old.log { end = 0; unsure = u }; plan = None }) empties.ok;
      faults = ⊎_elim (λ is. absurd (let differ : ⊥ = cc (is) in differ)) (λ same. same) empties.counts.kept ∙ settled_kept;
      touches = touched empties.touches;
    }

  -- and then appended to
  module _ (was mid now : D) (old set : Meta) (inside log : Log) (same : inside ≡ set.log) (ready : IsReady was mid old set) where
    empty : inside ≡ record old.log { end = 0; unsure = false }
    empty = same ∙ ap (λ (s : Meta). s.log) ready.is

    touched_all : Touches disk inside.file mid now → Touches disk old.log.file was now
    touched_all second = touches_on disk old.log.file was mid now ready.touches (subst (λ (l : Log). Touches disk l.file mid now) empty second)

    pub failed_starts : (r : Record) (need : ℕ) (after : Meta) (cause : StoreFault) → after.log ≡ log → after.plan ≡ None → need ≤ 5000 → 65536 ≤ inside.limit → Appends disk mid now inside log need (Err cause) → (cause ≡ NoMemory → ⊥) → Starts disk was now old after r (Err cause)
    failed_starts r need after cause here none short large appends memory =
        let is : cause ≡ DiskFault = only cause refl in
        let goes = touched_all appends.touches in
        record {
          ok = tt;
          err = inr (let log_is : after.log ≡ record old.log { end = 0; unsure = after.log.unsure } = here ∙ appends.err ∙ ap (λ (l : Log). record l { unsure = log.unsure }) empty ∙ ap (λ (l : Log). record old.log { end = 0; unsure = l.unsure }) (sym here) in ap (λ (l : Log). record { log = l; plan = after.plan }) log_is ∙ ap (λ p. record { log = record old.log { end = 0; unsure = after.log.unsure }; plan = p }) none);
          errors = λ e same'. inr (cc (is, same'));
          untouched = λ same'. absurd (let differ : ⊥ = cc (is, same') in differ);
          counts = record {
            later = goes.faults;
            rose = λ same'. subst (λ (n : ℕ). Rose n (disk.faults now)) ready.faults (appends.counts.rose same');
            kept = inl (ap Err is);
          };
          known = subst (λ (l : Log). l.end + 1 ≤ disk.known now l.file) (sym here) appends.known;
          touches = goes;
        }
      where
        only : (f : StoreFault) → cause ≡ f → f ≡ DiskFault
        only NoMemory f = absurd (memory f)
        only DiskFault f = refl
        only (LogFull file wants room) f =
            let full = appends.full file wants room (ap Err f) in
            absurd (omega (arith, full.1, full.2, full.3, short, large, ap (λ (l : Log). l.end) empty))
        only (Damaged file at) f = absurd (appends.not_damaged file at (ap Err f))

    pub done_starts : (r : Record) (need : ℕ) (after : Meta) → after ≡ record { log = log; plan = plan_after None r } → need ≡ 5 + length (spelling r) → Appends disk mid now inside log need (Ok tt) → Starts disk was now old after r (Ok tt)
    done_starts r need after here size appends =
        let goes = touched_all appends.touches in
        let log_is : log ≡ record old.log { end = 5 + length (spelling r); unsure = false } = appends.ok ∙ ap (λ (l : Log). record l { end = l.end + need; unsure = false }) empty ∙ ap (λ (n : ℕ). record old.log { end = n; unsure = false }) (let sum : 0 + need ≡ 5 + length (spelling r) = omega (arith, size) in sum) in
        record {
          ok = here ∙ ap (λ (l : Log). record { log = l; plan = plan_after None r }) log_is;
          err = tt;
          errors = λ e is. absurd (let differ : ⊥ = cc (is) in differ);
          untouched = λ is. absurd (let differ : ⊥ = cc (is) in differ);
          counts = record {
            later = goes.faults;
            rose = λ is. absurd (let differ : ⊥ = cc (is) in differ);
            kept = inr (⊎_elim (λ is. absurd (let differ : ⊥ = cc (is) in differ)) (λ same'. same') appends.counts.kept ∙ ready.faults);
          };
          known = subst (λ (s : Meta). IsKnown disk now s) (sym here) appends.known;
          touches = goes;
        }

  -- ---- over a disk that exposes its files

  module _ (was : D) (old : Meta) (rs others : List Record) (r : Record) where
    abbrev One : List ℕ → Type 0
    One = HasOldOrNew old.log.limit rs others r

    leaves_two : (first now : D) → Leaves disk old.log.file (HasEither old.log.limit (bodies rs) (bodies others)) first now → Leaves disk old.log.file One first now
    leaves_two first now = leaves_as disk old.log.file (HasEither old.log.limit (bodies rs) (bodies others)) One first now (λ bytes has. ⊎_elim (λ one. inl (inl one)) (λ two. inl (inr (inl two))) has)

    pub wanting_started : (e : StoreFault) → Keeps disk was old rs others → KeepsStarted disk was was old old rs others r (Err e)
    wanting_started e keeps = record { kept = tt; failed = inl keeps; stops = leaves_two was was (stands_leaves disk was old.log (bodies rs) (bodies others) keeps.within keeps.stands) }

    pub unsettled_started : (now : D) (set : Meta) (e : StoreFault) → StillKeeps disk was now old set rs others → KeepsStarted disk was now old set rs others r (Err e)
    unsettled_started now set e still = record { kept = tt; failed = inl still.kept; stops = leaves_two was now still.stops }

    -- the log was settled and emptied
    module _ (mid late : D) (set none : Meta) (is : set.log ≡ record old.log { unsure = false }) (still : StillKeeps disk was mid old set rs others) where
      leaves_none : Leaves disk set.log.file (HasEither set.log.limit (bodies []) (bodies rs)) mid late → Leaves disk old.log.file One was late
      leaves_none left = leaves_on disk old.log.file One was mid late (leaves_two was mid still.stops)
          (leaves_as disk old.log.file (HasEither old.log.limit (bodies []) (bodies rs)) One mid late (λ bytes has. ⊎_elim (λ none. inl (inr (inr none))) (λ one. inl (inl one)) has)
          (subst (λ (l : Log). Leaves disk l.file (HasEither l.limit (bodies []) (bodies rs)) mid late) is left))

      pub unemptied_started : (e cause : StoreFault) → KeepsEmptied disk mid late set none rs (Err cause) → KeepsStarted disk was late old none rs others r (Err e)
      unemptied_started e cause emptied = record { kept = tt; failed = inr (inl emptied.failed); stops = leaves_none emptied.stops }

      -- and then appended to
      module _ (now : D) (inside log : Log) (same : inside ≡ none.log) (ready : none ≡ emptied_of old) (emptied : KeepsEmptied disk mid late set none rs (Ok tt)) where
        base : inside ≡ record old.log { end = 0; unsure = false }
        base = same ∙ ap (λ (s : Meta). s.log) ready

        leaves_all : Leaves disk inside.file (HasOneOf inside.limit [] (r ∷ []) (r ∷ [])) late now → Leaves disk old.log.file One was now
        leaves_all left = leaves_on disk old.log.file One was late now (leaves_none emptied.stops)
            (leaves_as disk old.log.file (HasOneOf old.log.limit [] (r ∷ []) (r ∷ [])) One late now (λ bytes has. ⊎_elim (λ none. inl (inr (inr none))) (⊎_elim (λ one. inr one) (λ one. inr one)) has)
            (subst (λ (l : Log). Leaves disk l.file (HasOneOf l.limit [] (r ∷ []) (r ∷ [])) late now) base left))

        -- the log stands for no record, sure, and so perhaps in doubt with any
        begun : Stands disk late inside (bodies []) (bodies (r ∷ []))
        begun = stands_sure disk late inside (bodies []) (bodies (r ∷ [])) (ap (λ (l : Log). l.unsure) base)
            (subst (λ (l : Log). IsSure disk late l (bodies [])) (sym same) (sure_of late none.log (bodies []) (bodies []) (ap (λ (s : Meta). s.log.unsure) ready) emptied.kept.stands))

        pub failed_started : (after : Meta) (e cause : StoreFault) → after.log ≡ log → after.plan ≡ None → 0 < inside.limit → log ≡ record inside { unsure = log.unsure }
            → (Stands disk late inside (bodies []) (bodies (r ∷ [])) → KeepsAppended disk late now inside log [] (r ∷ []) r (Err cause)) → KeepsStarted disk was now old after rs others r (Err e)
        failed_started after e cause here no_plan some log_is appends =
            let appended = appends begun in
            let stands : Stands disk now log (bodies []) (bodies (r ∷ [])) = ⊎_elim (λ one. one) (λ one. one) appended.failed in
            record {
              kept = tt;
              failed = inr (inr (record {
                are = tt;
                plan = no_plan;
                within = omega (arith, ap (λ (l : Log). l.end) here, ap (λ (l : Log). l.limit) here, ap (λ (l : Log). l.end) log_is, ap (λ (l : Log). l.limit) log_is, ap (λ (l : Log). l.end) base, some);
                stands = subst (λ (l : Log). Stands disk now l (bodies []) (bodies (r ∷ []))) (sym here) stands;
              }));
              stops = leaves_all appended.stops;
            }

        pub done_started : (after : Meta) (need : ℕ) → after ≡ record { log = log; plan = plan_after None r } → Fits r → IsValue r → MayFollow None r → log ≡ record inside { end = inside.end + need; unsure = false } → need ≤ inside.limit - 1 - inside.end → 0 < inside.limit
            → (Stands disk late inside (bodies []) (bodies (r ∷ [])) → KeepsAppended disk late now inside log [] (r ∷ []) r (Ok tt)) → KeepsStarted disk was now old after rs others r (Ok tt)
        done_started after need here fits value may log_is room some appends =
            let appended = appends begun in
            record {
              kept = subst (λ (s : Meta). Keeps disk now s (r ∷ []) []) (sym here) (record {
                are = (record { fits = fits; value = value; may_follow = may }, tt);
                plan = refl;
                within = omega (arith, ap (λ (l : Log). l.end) log_is, ap (λ (l : Log). l.limit) log_is, ap (λ (l : Log). l.end) base, room, some);
                stands = stands_sure disk now log (bodies (r ∷ [])) [] (ap (λ (l : Log). l.unsure) log_is) appended.appended;
              });
              failed = tt;
              stops = leaves_all appended.stops;
            }
