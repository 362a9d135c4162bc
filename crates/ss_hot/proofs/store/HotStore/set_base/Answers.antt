use Rattle.std.proofs.Common.{inl, ℕ, length, refl, ap, ◌∙◌, arith}
use Rattle.std.proofs.lemmas.Result.{err_from_is_err_and}
use Rattle.ss_records.specs.declared.record.Record.TheVariants as record_kind
use Rattle.ss_records.specs.Record.{spelling}
use Rattle.ss_hot.proofs.Grown.{length-frame}
use Rattle.ss_hot.proofs.Sizes.{length-Base}
use Rattle.ss_hot.proofs.Writes.{done_keeps, failed_keeps, wanting_keeps, within_doubt, within_more}
use Rattle.ss_hot.proofs.store.HotStore.set_base.Goals as goal

pub append_record-requires-clause-body : goal.append_record-requires-clause-body
append_record-requires-clause-body g c = omega (arith, ap (length {A = ℕ}) (c.deref_mut.ensures.value ∙ c.in_ok-frame.ensures), length-frame (spelling (record_kind.Base c.args.base c.args.ended)), length-Base c.args.base c.args.ended)

pub invariant_of-self : goal.invariant_of-self
invariant_of-self g c = within_doubt _ _ _ _ _ c.self.invariant c.in_err-append_record.ensures.appended.err

pub invariant_of-self-2 : goal.invariant_of-self-2
invariant_of-self-2 g c = within_more _ _ _ _ _ c.self.invariant c.in_ok-append_record.ensures.appended.ok

pub returns-clause-told : goal.returns-clause-told
returns-clause-told g c records others told keeps =
    done_keeps g.D.Disk c.args.disk.now _ c.args.self.now c.self.view_is records others keeps _ _ _ (record_kind.Base c.args.base c.args.ended) c.self.invariant.limit c.in_ok-append_record.ensures.appended.ok (c.in_ok-append_record.ensures.appended.roomy (inl refl))
    (λ stands. c.in_ok-append_record.ensures.told (record_kind.Base c.args.base c.args.ended) records others (c.deref_mut.ensures.value ∙ c.in_ok-frame.ensures) told stands) c.requires.base c.ranges.ended.fits tt

pub returns-in_err-frame-clause-told : goal.returns-in_err-frame-clause-told
returns-in_err-frame-clause-told g c records others told keeps =
    let fault = err_from_is_err_and c.from_residual.result c.from_residual.ensures.1 in
    rw fault.1 (wanting_keeps g.D.Disk c.args.disk.now c.args.self.now records others keeps (record_kind.Base c.args.base c.args.ended) fault.0)

pub returns-in_err-append_record-clause-told : goal.returns-in_err-append_record-clause-told
returns-in_err-append_record-clause-told g c records others told keeps =
    let fault = err_from_is_err_and c.from_residual-in_err-append_record.result c.from_residual-in_err-append_record.ensures.1 in
    rw fault.1 (failed_keeps g.D.Disk c.args.disk.now _ c.args.self.now c.self.view_is records others keeps _ _ (record_kind.Base c.args.base c.args.ended) _ fault.0 c.self.invariant.limit c.in_err-append_record.ensures.appended.err
    (λ stands. c.in_err-append_record.ensures.told (record_kind.Base c.args.base c.args.ended) records others (c.deref_mut.ensures.value ∙ c.in_ok-frame.ensures) told stands))
