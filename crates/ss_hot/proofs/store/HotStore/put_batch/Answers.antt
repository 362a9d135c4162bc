use Rattle.std.proofs.Common.{◌≡◌, ◌+◌, inl, ℕ, length, refl, map, take, ap, sym, subst, ◌∙◌, arith}
use Rattle.std.proofs.lemmas.Result.{err_from_is_err_and}
use Rattle.ss_records.specs.declared.record.Record.TheVariants as record_kind
use Rattle.ss_records.specs.Record.{spelling}
use Rattle.ss_store.specs.declared.place.Place.{Place}
use Rattle.ss_store.specs.Places.{CidMap, without_cids}
use Rattle.ss_hot.specs.Store.{Hot, AreNotHot}
use Rattle.ss_hot.proofs.Grown.{length-frame}
use Rattle.ss_store.proofs.Placing.{undone-all}
use Rattle.ss_hot.proofs.Writes.{done_keeps, failed_keeps, wanting_keeps, failed_writes, within_doubt, within_put}
use Rattle.ss_hot.proofs.store.HotStore.put_batch.Goals as goal
use Rattle.ss_hot.proofs.store.HotStore.put_batch.Goals.{After-remove_blocks}
use Rattle.ss_hot.proofs.store.HotStore.put_batch.Given.{Over}

-- after a refusal the index is as before
undone_index : (g : Over) (c : After-remove_blocks g) → c.remove_blocks.new.self ≡ c.self.inside.index
undone_index g c =
    c.remove_blocks.ensures
    ∙ ap (λ (m : CidMap Place). without_cids m (map (λ p. p.0) (take c.len-in-Err.result c.args.parcel.now))) c.in_ok-insert_blocks.ensures.ok
    ∙ undone-all c.self.inside.index _ _ c.len-in-Err.result c.args.parcel.now (subst (λ (s : Hot). AreNotHot s c.args.parcel.now) (sym c.self.view_is) c.requires.new) c.len-in-Err.ensures.value

pub invariant_of-self-in-Ok : goal.invariant_of-self-in-Ok
invariant_of-self-in-Ok g c = rw (c.in_ok-insert_blocks.ensures.ok, c.file-file.ensures) (within_put _ _ _ _ _ _ c.args.parcel.now c.self.invariant c.in-Ok.ensures.appended.ok (omega (arith, c.end-body.ensures.end)) (ap (length {A = ℕ}) (c.deref_mut.ensures.value ∙ c.in_ok-frame.ensures) ∙ length-frame (spelling (record_kind.Put c.args.parcel.now))) c.requires.blocks.1)

pub invariant_of-self-in-Err : goal.invariant_of-self-in-Err
invariant_of-self-in-Err g c = rw (undone_index g c) (within_doubt _ _ _ _ _ c.self.invariant c.in-Err.ensures.appended.err)

pub returns-in-Ok-clause-told : goal.returns-in-Ok-clause-told
returns-in-Ok-clause-told g c records others told keeps =
    rw (c.in_ok-insert_blocks.ensures.ok, c.end-body.ensures.end, c.file-file.ensures)
    (done_keeps g.D.Disk c.args.disk.now _ c.args.self.now c.self.view_is records others keeps _ _ _ (record_kind.Put c.args.parcel.now) c.self.invariant.limit c.in-Ok.ensures.appended.ok (c.in-Ok.ensures.appended.roomy (inl refl))
    (λ stands. c.in-Ok.ensures.told (record_kind.Put c.args.parcel.now) records others (c.deref_mut.ensures.value ∙ c.in_ok-frame.ensures) told stands) c.requires.blocks c.len.ensures.cids tt)

pub returns-clause-told : goal.returns-clause-told
returns-clause-told g c records others told keeps =
    rw (undone_index g (goal.at.returns-clause-told g c).After-remove_blocks)
    (failed_keeps g.D.Disk c.args.disk.now _ c.args.self.now c.self.view_is records others keeps _ _ (record_kind.Put c.args.parcel.now) _ _ c.self.invariant.limit c.in-Err.ensures.appended.err
    (λ stands. c.in-Err.ensures.told (record_kind.Put c.args.parcel.now) records others (c.deref_mut.ensures.value ∙ c.in_ok-frame.ensures) told stands))

pub returns-in_err-frame-clause-told : goal.returns-in_err-frame-clause-told
returns-in_err-frame-clause-told g c records others told keeps =
    let fault = err_from_is_err_and c.from_residual.result c.from_residual.ensures.1 in
    rw fault.1 (wanting_keeps g.D.Disk c.args.disk.now c.args.self.now records others keeps (record_kind.Put c.args.parcel.now) fault.0)

pub returns-in_err-insert_blocks-clause-told : goal.returns-in_err-insert_blocks-clause-told
returns-in_err-insert_blocks-clause-told g c records others told keeps =
    let fault = err_from_is_err_and c.from_residual-in_err-insert_blocks.result c.from_residual-in_err-insert_blocks.ensures.1 in
    rw (fault.1, c.in_err-insert_blocks.ensures.err, c.self.view_is) (wanting_keeps g.D.Disk c.args.disk.now c.args.self.now records others keeps (record_kind.Put c.args.parcel.now) fault.0)

pub returns-clause-written : goal.returns-clause-written
returns-clause-written g c =
    let size : length c.deref_mut.result.now ≡ 5 + length (spelling (record_kind.Put c.args.parcel.now)) = ap (length {A = ℕ}) (c.deref_mut.ensures.value ∙ c.in_ok-frame.ensures) ∙ length-frame (spelling (record_kind.Put c.args.parcel.now)) in
    rw (undone_index g (goal.at.returns-clause-written g c).After-remove_blocks, ← c.self.view_is) (failed_writes g.D.Disk c.args.disk.now _ _ _ (record_kind.Put c.args.parcel.now) _ (rw size at c.in-Err.ensures.appended))
