use Rattle.std.proofs.Common.{◌≡◌, ℕ, length, refl, sym, ◌∙◌, ap, subst, arith}
use Rattle.std.proofs.lemmas.Bool.Decides.{when_true, when_false}
use Rattle.std.proofs.lemmas.Result.{err_from_is_err_and}
use Rattle.std.specs.Prelude.{Ok, Err, Option}
use Rattle.ss_gatelog.specs.declared.fault.RecordsFault.{RecordsFault}
use Rattle.ss_gatelog.specs.Gate.{Lends, ReadsOn}
use Rattle.ss_store.specs.declared.fault.StoreFault.TheVariants.{Damaged}
use Rattle.ss_store.specs.Append.{bodies}
use Rattle.ss_store.proofs.Faults.{damaged_reader}
use Rattle.ss_hot.specs.Half.{IsFaulty}
use Rattle.ss_hot.specs.Opening.{AreBefore, IsRead, IsMisfit}
use Rattle.ss_hot.proofs.Faults.{one_damaged, quiet_next, reads_ok, reads_damage, reads_memory, reads_fault}
use Rattle.ss_hot.proofs.Opened.{read_on, misfit_next, unfit_next, faulty_before, same_on}
use Rattle.ss_hot.proofs.Passed.{before_read}
use Rattle.ss_hot.proofs.store.opening.Opening.read_all.Goals as goal

pub returns-in_err-take-in-Ok-Some-clause-reads : goal.returns-in_err-take-in-Ok-Some-clause-reads
returns-in_err-take-in-Ok-Some-clause-reads g c =
    let fault = err_from_is_err_and c.from_residual.result c.from_residual.ensures.1 in
    reads_memory g.D.Disk _ _ c.from_residual.result (cc (fault.1, fault.2)) (quiet_next g.D.Disk _ _ _ _ c.loop-at.invariant.quiet c.next.ensures.goes c.in-Ok-Some.ensures.fault)

pub returns-then-not-branch-clause-damaged : goal.returns-then-not-branch-clause-damaged
returns-then-not-branch-clause-damaged g c file at is =
    let same = one_damaged _ _ _ _ _ is in
    let was = c.loop-at.invariant in (
      sym same.0 ∙ was.same.file,
      λ records told had.
          let old = c.loop-at.self in
          let new = c.next.new.self in
          let all = was.read records told had in
          let lends = subst (λ (o : Option ℕ). Lends g.D.Disk c.next.new.disk old.records new (bodies all.0) (Ok o)) c.in-Ok-Some.field-0-is (c.in-Ok-Some.ensures.lends (bodies all.0) told all.1.lent) in
          let reaches = subst (λ (o : Option ℕ). ReadsOn old.records new (Ok o)) c.in-Ok-Some.field-0-is c.in-Ok-Some.ensures.reaches in
          let misfit = when_false (IsRead old.file c.in-Ok-Some.at old.walk c.body.result.now c.take.new.self) (IsMisfit old.walk.count c.body.result.now) c.if-not-branch.true c.in_ok-take-in-Ok-Some.ensures.fits in
          subst (IsFaulty c.args.self.now.records.limit (g.D.Disk.files c.args.disk.now c.args.self.now.file)) same.1
          (faulty_before g.D.Disk c.args.disk.now c.loop-at.disk c.args.self.now old c.in-Ok-Some.at told was.quiet.goes was.same
          (misfit_next g.D.Disk c.loop-at.disk c.next.new.disk old new all.0 c.in-Ok-Some.at c.body.result.now told c.next.ensures.goes all.1 was.under_way.file c.next.ensures.same c.body.ensures reaches.0 lends reaches.3 reaches.2 misfit)),
    )

pub returns-then-not-branch-clause-reads : goal.returns-then-not-branch-clause-reads
returns-then-not-branch-clause-reads g c = reads_damage g.D.Disk _ _ _ _ _ (λ file need room is. let differ : ⊥ = cc (is) in differ) (quiet_next g.D.Disk _ _ _ _ c.loop-at.invariant.quiet c.next.ensures.goes c.in-Ok-Some.ensures.fault)

pub returns-in-Ok-None-clause-reads : goal.returns-in-Ok-None-clause-reads
returns-in-Ok-None-clause-reads g c = reads_ok g.D.Disk _ _ _ _ (quiet_next g.D.Disk _ _ _ _ c.loop-at.invariant.quiet c.next.ensures.goes c.in-Ok-None.ensures.fault)

pub returns-in-Err-clause-damaged : goal.returns-in-Err-clause-damaged
returns-in-Err-clause-damaged g c file at is =
    let was = c.loop-at.invariant in
    let old = c.loop-at.self in
    let fault = damaged_reader old.file c.in-Err.fault file at (sym c.of_records.ensures ∙ (let same : c.of_records.result ≡ Damaged file at = cc (is) in same)) in (
      fault.0 ∙ was.same.file,
      λ records told had.
          let all = was.read records told had in
          let lends = subst (λ (e : RecordsFault). Lends g.D.Disk c.next.new.disk old.records c.next.new.self (bodies all.0) (Err e)) fault.1 (c.in-Err.ensures.lends (bodies all.0) told all.1.lent) in
          let reaches = subst (λ (e : RecordsFault). ReadsOn old.records c.next.new.self (Err e)) fault.1 c.in-Err.ensures.reaches in
          faulty_before g.D.Disk c.args.disk.now c.loop-at.disk c.args.self.now old at told was.quiet.goes was.same
          (unfit_next g.D.Disk c.loop-at.disk c.next.new.disk old all.0 at told c.next.ensures.goes all.1 was.under_way.file reaches.1 lends.1),
    )

pub returns-in-Err-clause-reads : goal.returns-in-Err-clause-reads
returns-in-Err-clause-reads g c = rw c.of_records.ensures (reads_fault g.D.Disk _ _ _ c.loop-at.self.file c.in-Err.fault c.loop-at.invariant.quiet c.next.ensures.goes c.in-Err.ensures.fault)

pub loop-at-preserved : goal.loop-at-preserved
loop-at-preserved g c =
    let was = c.loop-at.invariant in
    let old = c.loop-at.self in
    let new = c.next.new.self in
    let reaches = subst (λ (o : Option ℕ). ReadsOn old.records new (Ok o)) c.in-Ok-Some.field-0-is c.in-Ok-Some.ensures.reaches in
    let is_read = when_true (IsRead old.file c.in-Ok-Some.at old.walk c.body.result.now c.take.new.self) (IsMisfit old.walk.count c.body.result.now) c.if-not-branch.false c.in_ok-take-in-Ok-Some.ensures.fits in
    let size = ap (length {A = ℕ}) c.body.ensures in
    record {
      under_way = record {
        file = c.next.ensures.same.file ∙ was.under_way.file;
        known = omega (arith, was.under_way.known, c.next.ensures.same.size, c.next.ensures.goes.known old.file);
        within = omega (arith, reaches.1, reaches.2);
        limit = omega (arith, was.under_way.limit, c.next.ensures.same.limit);
        count = omega (arith, was.under_way.count, c.in_ok-take-in-Ok-Some.ensures.count, reaches.0, reaches.1);
      };
      before = before_read old.file c.in-Ok-Some.at new.at old.walk c.take.new.self c.body.result.now is_read (omega (arith, reaches.0, reaches.1, size)) (subst (AreBefore old.file old.walk.index) (sym reaches.0) was.before);
      same = same_on _ _ _ was.same (record { file = refl; records = c.next.ensures.same });
      read = λ records told had.
          let all = was.read records told had in
          let lends = subst (λ (o : Option ℕ). Lends g.D.Disk c.next.new.disk old.records new (bodies all.0) (Ok o)) c.in-Ok-Some.field-0-is (c.in-Ok-Some.ensures.lends (bodies all.0) told all.1.lent) in
          (_, read_on g.D.Disk c.loop-at.disk c.next.new.disk old (record { file = old.file; records = new; walk = c.take.new.self }) all.0 c.in-Ok-Some.at c.body.result.now all.1 refl c.body.ensures reaches.0 lends is_read c.in_ok-take-in-Ok-Some.ensures.count);
      quiet = quiet_next g.D.Disk _ _ _ _ was.quiet c.next.ensures.goes c.in-Ok-Some.ensures.fault;
    }
