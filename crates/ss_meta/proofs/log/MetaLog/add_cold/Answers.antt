use Rattle.std.proofs.Common.{inl, ℕ, length, refl, ap, ◌∙◌, arith}
use Rattle.std.proofs.lemmas.Result.{err_from_is_err_and}
use Rattle.ss_records.specs.declared.record.Record.TheVariants as record_kind
use Rattle.ss_records.specs.Record.{spelling}
use Rattle.ss_meta.specs.Meta.{Meta}
use Rattle.ss_meta.proofs.Sizes.{length-frame, length-Cold}
use Rattle.ss_meta.proofs.Writes.{done_keeps, failed_keeps, wanting_keeps}
use Rattle.ss_meta.proofs.log.MetaLog.add_cold.Goals as goal

pub append_record-requires-clause-body : goal.append_record-requires-clause-body
append_record-requires-clause-body g c = omega (arith, ap (length {A = ℕ}) (c.deref_mut.ensures.value ∙ c.in_ok-frame.ensures), length-frame (spelling (record_kind.Cold c.args.cids.now)), length-Cold c.args.cids.now c.len.ensures.cids, c.requires.cids)

pub returns-in_err-frame-clause-told : goal.returns-in_err-frame-clause-told
returns-in_err-frame-clause-told g c records others told keeps =
    let fault = err_from_is_err_and c.from_residual.result c.from_residual.ensures.1 in
    rw fault.1 (wanting_keeps g.D.Disk c.args.disk.now c.args.self.now records others keeps (record_kind.Cold c.args.cids.now) fault.0)

pub returns-in_err-extend-clause-told : goal.returns-in_err-extend-clause-told
returns-in_err-extend-clause-told g c records others told keeps =
    let fault = err_from_is_err_and c.from_residual-in_err-extend.result c.from_residual-in_err-extend.ensures.1 in
    rw (fault.1, c.in_err-extend.ensures.err) (wanting_keeps g.D.Disk c.args.disk.now c.args.self.now records others keeps (record_kind.Cold c.args.cids.now) fault.0)

pub returns-in-Ok-clause-told : goal.returns-in-Ok-clause-told
returns-in-Ok-clause-told g c records others told keeps =
    let r = record_kind.Cold c.args.cids.now in
    let more = c.self.view_is ∙ c.in_ok-extend.ensures.ok in
    done_keeps g.D.Disk c.args.disk.now _ c.args.self.now (ap (λ (s : Meta). s.log) more) records others keeps _ c.append_record.new.log _ _ r refl (ap (λ (s : Meta). s.plan) more) c.in-Ok.ensures.appended.ok (c.in-Ok.ensures.appended.roomy (inl refl))
    (λ stands. c.in-Ok.ensures.told r records others (c.deref_mut.ensures.value ∙ c.in_ok-frame.ensures) told stands) c.requires.cids c.len.ensures.cids c.requires.follows

pub returns-clause-told : goal.returns-clause-told
returns-clause-told g c records others told keeps =
    let r = record_kind.Cold c.args.cids.now in
    let more = c.self.view_is ∙ c.in_ok-extend.ensures.ok in
    let undone = c.undo.ensures c.args.self.now.plan (ap (λ (s : Meta). s.plan) more) in
    failed_keeps g.D.Disk c.args.disk.now _ c.args.self.now (ap (λ (s : Meta). s.log) more) records others keeps _ c.append_record.new.log c.undo.new.self r c.in-Err.fault _ (ap (λ (s : Meta). s.log) undone) (ap (λ (s : Meta). s.plan) undone) c.in-Err.ensures.appended.err
    (λ stands. c.in-Err.ensures.told r records others (c.deref_mut.ensures.value ∙ c.in_ok-frame.ensures) told stands)
