use Rattle.std.proofs.Common.{◌≡◌, inl, ℕ, length, refl, sym, ap, ◌∙◌, arith}
use Rattle.std.proofs.lemmas.Result.{err_from_is_err_and}
use Rattle.std.specs.Prelude.{Option}
use Rattle.ss_records.specs.declared.record.Record.TheVariants as record_kind
use Rattle.ss_records.specs.Record.{spelling}
use Rattle.ss_meta.specs.declared.plan.Plan.{Plan}
use Rattle.ss_meta.specs.declared.log.MetaLog.TheInside.{Inside}
use Rattle.ss_meta.specs.Meta.{Meta}
use Rattle.ss_meta.specs.Plan.{plan_after}
use Rattle.ss_meta.proofs.Sizes.{length-frame, length-Purged}
use Rattle.ss_meta.proofs.Writes.{done_keeps, failed_keeps, wanting_keeps}
use Rattle.ss_meta.proofs.log.MetaLog.note_purged.Goals as goal
use Rattle.ss_meta.proofs.log.MetaLog.note_purged.Goals.{in-Some, in_default}

pub append_record-requires-clause-body : goal.append_record-requires-clause-body
append_record-requires-clause-body g c = omega (arith, ap (length {A = ℕ}) (c.deref_mut.ensures.value ∙ c.in_ok-frame.ensures), length-frame (spelling (record_kind.Purged c.args.upto)), length-Purged c.args.upto)

pub returns-in_err-frame-clause-told : goal.returns-in_err-frame-clause-told
returns-in_err-frame-clause-told g c records others told keeps =
    let fault = err_from_is_err_and c.from_residual.result c.from_residual.ensures.1 in
    rw fault.1 (wanting_keeps g.D.Disk c.args.disk.now c.args.self.now records others keeps (record_kind.Purged c.args.upto) fault.0)

pub returns-in_err-append_record-clause-told : goal.returns-in_err-append_record-clause-told
returns-in_err-append_record-clause-told g c records others told keeps =
    let fault = err_from_is_err_and c.from_residual-in_err-append_record.result c.from_residual-in_err-append_record.ensures.1 in
    rw fault.1 (failed_keeps g.D.Disk c.args.disk.now _ c.args.self.now (ap (λ (s : Meta). s.log) c.self.view_is) records others keeps _ _ _ (record_kind.Purged c.args.upto) _ fault.0 refl (ap (λ (s : Meta). s.plan) c.self.view_is) c.in_err-append_record.ensures.appended.err
    (λ stands. c.in_err-append_record.ensures.told (record_kind.Purged c.args.upto) records others (c.deref_mut.ensures.value ∙ c.in_ok-frame.ensures) told stands))

pub returns-clause-told : goal.returns-clause-told
returns-clause-told g c records others told keeps =
    let r = record_kind.Purged c.args.upto in
    let log : c.match-self.self-inside.log ≡ c.append_record.new.log = elim c.match-self.branch [
      | in-Some w ↦ ap (λ (s : Inside). s.log) w.self-inside-is
      | in_default w ↦ ap (λ (s : Inside). s.log) w.self-inside-is
    ] in
    let entered : c.match-self.self-inside.plan ≡ plan_after c.self.inside.plan r = elim c.match-self.branch [
      | in-Some w ↦ ap (λ (s : Inside). s.plan) w.self-inside-is ∙ ap (λ (p : Option Plan). plan_after p r) (sym w.in-Some.is)
      | in_default w ↦ ap (λ (s : Inside). s.plan) w.self-inside-is ∙ w.in_default.is ∙ ap (λ (p : Option Plan). plan_after p r) (sym w.in_default.is)
    ] in
    done_keeps g.D.Disk c.args.disk.now _ c.args.self.now (ap (λ (s : Meta). s.log) c.self.view_is) records others keeps _ c.append_record.new.log _ _ r log (entered ∙ ap (λ (s : Meta). plan_after s.plan r) c.self.view_is) c.in_ok-append_record.ensures.appended.ok (c.in_ok-append_record.ensures.appended.roomy (inl refl))
    (λ stands. c.in_ok-append_record.ensures.told r records others (c.deref_mut.ensures.value ∙ c.in_ok-frame.ensures) told stands) tt c.ranges.upto.fits c.requires.follows
