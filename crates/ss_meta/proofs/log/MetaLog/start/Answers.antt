use Rattle.std.proofs.Common.{◌≡◌, inl, ℕ, [], ◌∷◌, length, ◌≤◌, ◌+◌, refl, ap, ◌∙◌, arith}
use Rattle.std.proofs.lemmas.Result.{err_from_is_err_and}
use Rattle.std.specs.Prelude.{Err}
use Rattle.ss_records.specs.declared.record.Record.TheVariants as record_kind
use Rattle.ss_records.specs.Record.{spelling}
use Rattle.ss_meta.specs.Meta.{Meta}
use Rattle.ss_meta.proofs.Sizes.{length-frame, length-Start}
use Rattle.ss_meta.proofs.Starts.{IsReady, ready, unemptied_starts, failed_starts, done_starts, wanting_started, unsettled_started, unemptied_started, failed_started, done_started}
use Rattle.ss_meta.proofs.log.MetaLog.start.Goals as goal
use Rattle.ss_meta.proofs.log.MetaLog.start.Goals.{After-deref_mut}
use Rattle.ss_meta.proofs.log.MetaLog.start.Given.{Over}

-- how many bytes the record takes
size : (g : Over) (c : After-deref_mut g) → length c.deref_mut.result.now ≡ 5 + length (spelling (record_kind.Start c.args.edge c.args.roots.now))
size g c = ap (length {A = ℕ}) (c.deref_mut.ensures.value ∙ c.in_ok-frame.ensures) ∙ length-frame (spelling (record_kind.Start c.args.edge c.args.roots.now))

short : (g : Over) (c : After-deref_mut g) → length c.deref_mut.result.now ≤ 5000
short g c = omega (arith, size g c, length-Start c.args.edge c.args.roots.now c.len.ensures.cids, c.requires.roots)

-- the log was settled and emptied
is_ready : (g : Over) (c : After-deref_mut g) → IsReady g.D.Disk c.args.disk.now c.empty.new.disk c.args.self.now c.empty.new.self
is_ready g c = ready g.D.Disk _ _ _ _ _ _ c.in_ok-settle.ensures.settled c.in_ok-empty.ensures.emptied

pub returns-in_err-frame-clause-told : goal.returns-in_err-frame-clause-told
returns-in_err-frame-clause-told g c records others told keeps =
    let fault = err_from_is_err_and c.from_residual.result c.from_residual.ensures.1 in
    rw fault.1 (wanting_started g.D.Disk c.args.disk.now c.args.self.now records others (record_kind.Start c.args.edge c.args.roots.now) fault.0 keeps)

pub returns-in_err-roots-clause-told : goal.returns-in_err-roots-clause-told
returns-in_err-roots-clause-told g c records others told keeps =
    let fault = err_from_is_err_and c.from_residual-in_err-roots.result c.from_residual-in_err-roots.ensures.1 in
    rw fault.1 (wanting_started g.D.Disk c.args.disk.now c.args.self.now records others (record_kind.Start c.args.edge c.args.roots.now) fault.0 keeps)

pub returns-in_err-settle-clause-told : goal.returns-in_err-settle-clause-told
returns-in_err-settle-clause-told g c records others told keeps =
    let fault = err_from_is_err_and c.from_residual-in_err-settle.result c.from_residual-in_err-settle.ensures.1 in
    rw fault.1 (unsettled_started g.D.Disk c.args.disk.now c.args.self.now records others (record_kind.Start c.args.edge c.args.roots.now) _ _ fault.0 (c.settle.ensures.told records others told keeps))

pub returns-in_err-empty-clause-told : goal.returns-in_err-empty-clause-told
returns-in_err-empty-clause-told g c records others told keeps =
    let fault = err_from_is_err_and c.from_residual-in_err-empty.result c.from_residual-in_err-empty.ensures.1 in
    let still = c.settle.ensures.told records others told keeps in
    rw fault.1 (unemptied_started g.D.Disk c.args.disk.now c.args.self.now records others (record_kind.Start c.args.edge c.args.roots.now) _ _ _ _ c.in_ok-settle.ensures.settled.log.ok still fault.0 _ (c.in_err-empty.ensures.told records others told still.kept))

pub returns-in_err-empty-clause-started : goal.returns-in_err-empty-clause-started
returns-in_err-empty-clause-started g c =
    let fault = err_from_is_err_and c.from_residual-in_err-empty.result c.from_residual-in_err-empty.ensures.1 in
    let was : c.empty.result ≡ Err fault.0 = cc (fault.1, fault.2, c.in_err-empty.was) in
    rw fault.1 (unemptied_starts g.D.Disk _ _ _ _ _ _ c.in_ok-settle.ensures.settled (record_kind.Start c.args.edge c.args.roots.now) fault.0 (rw was at c.empty.ensures.emptied))

pub append_record-requires-clause-body : goal.append_record-requires-clause-body
append_record-requires-clause-body g c = omega (arith, short g (goal.at.append_record-requires-clause-body g c).After-deref_mut)

pub returns-in_err-append_record-clause-told : goal.returns-in_err-append_record-clause-told
returns-in_err-append_record-clause-told g c records others told keeps =
    let r = record_kind.Start c.args.edge c.args.roots.now in
    let fault = err_from_is_err_and c.from_residual-in_err-append_record.result c.from_residual-in_err-append_record.ensures.1 in
    let still = c.settle.ensures.told records others told keeps in
    let none = is_ready g (goal.at.returns-in_err-append_record-clause-told g c).After-deref_mut in
    rw fault.1 (failed_started g.D.Disk c.args.disk.now c.args.self.now records others r _ _ _ _ c.in_ok-settle.ensures.settled.log.ok still _ c.self.inside.log c.append_record.new.log (ap (λ (s : Meta). s.log) c.self.view_is) none.is (c.in_ok-empty.ensures.told records others told still.kept) _ fault.0 _ refl
    (ap (λ (s : Meta). s.plan) (c.self.view_is ∙ none.is)) (omega (arith, c.self.invariant)) c.in_err-append_record.ensures.appended.err
    (λ stands. c.in_err-append_record.ensures.told r [] (r ∷ []) (c.deref_mut.ensures.value ∙ c.in_ok-frame.ensures) told stands))

pub returns-in_err-append_record-clause-started : goal.returns-in_err-append_record-clause-started
returns-in_err-append_record-clause-started g c =
    let r = record_kind.Start c.args.edge c.args.roots.now in
    let fault = err_from_is_err_and c.from_residual-in_err-append_record.result c.from_residual-in_err-append_record.ensures.1 in
    let was : c.append_record.result ≡ Err fault.0 = cc (fault.1, fault.2, c.in_err-append_record.was) in
    let at_end = (goal.at.returns-in_err-append_record-clause-started g c).After-deref_mut in
    let none = is_ready g at_end in
    rw fault.1 (failed_starts g.D.Disk _ _ _ _ _ c.self.inside.log c.append_record.new.log (ap (λ (s : Meta). s.log) c.self.view_is) none r _ _ fault.0 refl (ap (λ (s : Meta). s.plan) (c.self.view_is ∙ none.is)) (short g at_end) c.self.invariant (rw was at c.append_record.ensures.appended)
    (λ memory. c.append_record.ensures.memory (was ∙ ap Err memory)))

pub returns-clause-told : goal.returns-clause-told
returns-clause-told g c records others told keeps =
    let r = record_kind.Start c.args.edge c.args.roots.now in
    let still = c.settle.ensures.told records others told keeps in
    let none = is_ready g (goal.at.returns-clause-told g c).After-deref_mut in
    done_started g.D.Disk c.args.disk.now c.args.self.now records others r _ _ _ _ c.in_ok-settle.ensures.settled.log.ok still _ c.self.inside.log c.append_record.new.log (ap (λ (s : Meta). s.log) c.self.view_is) none.is (c.in_ok-empty.ensures.told records others told still.kept) _ _ (rw (c.in_ok-roots.ensures, c.new.ensures) refl)
    c.requires.roots (c.ranges.edge.fits, c.len.ensures.cids) tt c.in_ok-append_record.ensures.appended.ok (c.in_ok-append_record.ensures.appended.roomy (inl refl)) (omega (arith, c.self.invariant))
    (λ stands. c.in_ok-append_record.ensures.told r [] (r ∷ []) (c.deref_mut.ensures.value ∙ c.in_ok-frame.ensures) told stands)

pub returns-clause-started : goal.returns-clause-started
returns-clause-started g c =
    let r = record_kind.Start c.args.edge c.args.roots.now in
    let at_end = (goal.at.returns-clause-started g c).After-deref_mut in
    done_starts g.D.Disk _ _ _ _ _ c.self.inside.log c.append_record.new.log (ap (λ (s : Meta). s.log) c.self.view_is) (is_ready g at_end) r _ _ (rw (c.in_ok-roots.ensures, c.new.ensures) refl) (size g at_end) c.in_ok-append_record.ensures.appended
