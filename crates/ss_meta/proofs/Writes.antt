-- What a write does to the log of a plan and to its disk.
use Rattle.std.proofs.Common.{◌≡◌, inl, inr, ⊎_elim, ℕ, ◌+◌, ◌-◌, ◌≤◌, ◌<◌, false, List, [], ◌∷◌, ◌++◌, sym, ◌∙◌, ap, subst, arith}
use Rattle.std.specs.Prelude.{Option, None, Ok, Err}
use Rattle.ss_device.specs.declared.disk.Disk.{Ghosts}
use Rattle.ss_device.specs.Calls.{Leaves}
use Rattle.ss_gatelog.specs.GateLog.{Log, IsSure, Stands, HasEither}
use Rattle.ss_gatelog.proofs.Logs.{stands_sure, stands_leaves}
use Rattle.ss_records.specs.declared.record.Record.{Record}
use Rattle.ss_records.specs.Record.{Fits, IsValue}
use Rattle.ss_store.specs.Append.{bodies, HasOneOf, KeepsAppended}
use Rattle.ss_store.specs.declared.fault.StoreFault.{StoreFault}
use Rattle.ss_store.proofs.Appended.{leaves_as}
use Rattle.ss_meta.specs.declared.plan.Plan.{Plan}
use Rattle.ss_meta.specs.Plan.{plan_after, MayFollow, Follows}
use Rattle.ss_meta.specs.Meta.{Meta, Keeps, KeepsWritten}
use Rattle.ss_meta.proofs.Grown.{plan_from-push, AllFollow-push}

module _ {D : Type 0} (disk : Ghosts D) where
  -- ---- a call that writes, by a store and by the log that it has inside

  module _ (old : D) (inside : Log) (store : Meta) (same : inside ≡ store.log) (rs others : List Record) (keeps : Keeps disk old store rs others) where
    stands : Stands disk old inside (bodies rs) (bodies others)
    stands = subst (λ (l : Log). Stands disk old l (bodies rs) (bodies others)) (sym same) keeps.stands

    within : inside.end < inside.limit
    within = subst (λ (l : Log). l.end < l.limit) (sym same) keeps.within

    -- the store after a record that was appended
    keeps_next : (new : D) (after : Meta) (n : ℕ) (r : Record) → after.log ≡ record inside { end = inside.end + n; unsure = false } → n ≤ inside.limit - 1 - inside.end → after.plan ≡ plan_after store.plan r
        → IsSure disk new after.log (bodies (rs ++ r ∷ [])) → Fits r → IsValue r → MayFollow store.plan r → Keeps disk new after (rs ++ r ∷ []) []
    keeps_next new after n r is room entered appended fits value may = record {
      are = AllFollow-push None rs r keeps.are (subst (λ (p : Option Plan). Follows p r) keeps.plan (record { fits = fits; value = value; may_follow = may }));
      plan = entered ∙ ap (λ (p : Option Plan). plan_after p r) keeps.plan ∙ sym (plan_from-push None rs r);
      within = omega (arith, ap (λ (l : Log). l.end) is, ap (λ (l : Log). l.limit) is, room, within);
      stands = stands_sure disk new after.log (bodies (rs ++ r ∷ [])) [] (ap (λ (l : Log). l.unsure) is) appended;
    }

    -- the store of which no more than its log's doubt changed
    keeps_doubt : (new : D) (after : Meta) (more : List Record) → after.plan ≡ store.plan → after.log ≡ record inside { unsure = after.log.unsure } → Stands disk new after.log (bodies rs) (bodies more) → Keeps disk new after rs more
    keeps_doubt new after more stays is stands = record {
      are = keeps.are;
      plan = stays ∙ keeps.plan;
      within = omega (arith, ap (λ (l : Log). l.end) is, ap (λ (l : Log). l.limit) is, within);
      stands = stands;
    }

    -- what images have of its file
    leaves_store : (new : D) (P : ℕ → List ℕ → Type 0) → Leaves disk inside.file (P inside.limit) old new → Leaves disk store.log.file (P store.log.limit) old new
    leaves_store new P leaves = subst (λ (l : Log). Leaves disk l.file (P l.limit) old new) same leaves

    -- a record that was appended
    pub done_keeps : (new : D) (log : Log) (after : Meta) (n : ℕ) (r : Record) → after.log ≡ log → after.plan ≡ plan_after store.plan r → log ≡ record inside { end = inside.end + n; unsure = false } → n ≤ inside.limit - 1 - inside.end
        → (Stands disk old inside (bodies rs) (bodies others) → KeepsAppended disk old new inside log rs others r (Ok tt)) → Fits r → IsValue r → MayFollow store.plan r → KeepsWritten disk old new store after rs others r (Ok tt)
    done_keeps new log after n r here entered is room appends fits value may =
        let appended = appends stands in
        record {
          kept = keeps_next new after n r (here ∙ is) room entered (subst (λ (l : Log). IsSure disk new l (bodies (rs ++ r ∷ []))) (sym here) appended.appended) fits value may;
          failed = tt;
          stops = leaves_store new (λ n. HasOneOf n rs others (rs ++ r ∷ [])) appended.stops;
        }

    -- one that was not
    pub failed_keeps : (new : D) (log : Log) (after : Meta) (r : Record) (cause e : StoreFault) → after.log ≡ log → after.plan ≡ store.plan → log ≡ record inside { unsure = log.unsure }
        → (Stands disk old inside (bodies rs) (bodies others) → KeepsAppended disk old new inside log rs others r (Err cause)) → KeepsWritten disk old new store after rs others r (Err e)
    failed_keeps new log after r cause e here stays is appends =
        let appended = appends stands in
        let is' : after.log ≡ record inside { unsure = after.log.unsure } = here ∙ is ∙ ap (λ (l : Log). record inside { unsure = l.unsure }) (sym here) in
        let on = λ (more : List Record) (has : Stands disk new log (bodies rs) (bodies more)). keeps_doubt new after more stays is' (subst (λ (l : Log). Stands disk new l (bodies rs) (bodies more)) (sym here) has) in
        record {
          kept = tt;
          failed = ⊎_elim (λ before. inl (on others before)) (λ perhaps. inr (on (rs ++ r ∷ []) perhaps)) appended.failed;
          stops = leaves_store new (λ n. HasOneOf n rs others (rs ++ r ∷ [])) appended.stops;
        }

  -- a record for which memory was not enough
  pub wanting_keeps : (now : D) (store : Meta) (rs others : List Record) → Keeps disk now store rs others → (r : Record) (e : StoreFault) → KeepsWritten disk now now store store rs others r (Err e)
  wanting_keeps now store rs others keeps r e = record {
    kept = tt;
    failed = inl keeps;
    stops = leaves_as disk store.log.file (HasEither store.log.limit (bodies rs) (bodies others)) (HasOneOf store.log.limit rs others (rs ++ r ∷ [])) now now
        (λ bytes has. ⊎_elim (λ first. inl first) (λ second. inr (inl second)) has) (stands_leaves disk now store.log (bodies rs) (bodies others) keeps.within keeps.stands);
  }
