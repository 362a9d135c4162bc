use Rattle.std.proofs.Common.{◌≡◌, ℕ, sym, ◌∙◌, subst, arith}
use Rattle.std.proofs.lemmas.Bool.Decides.{when_true, when_false}
use Rattle.std.proofs.lemmas.Result.{err_from_is_err_and}
use Rattle.std.specs.Prelude.{Ok, Err, Option}
use Rattle.ss_device.specs.Disk.{Same}
use Rattle.ss_device.proofs.Goes.{then_same}
use Rattle.ss_gatelog.specs.declared.fault.RecordsFault.{RecordsFault}
use Rattle.ss_gatelog.specs.Gate.{Lends, ReadsOn}
use Rattle.ss_store.specs.declared.fault.StoreFault.TheVariants.{Damaged}
use Rattle.ss_store.specs.Append.{bodies}
use Rattle.ss_store.proofs.Faults.{damaged_reader}
use Rattle.ss_meta.specs.Plan.{IsFaulty}
use Rattle.ss_meta.specs.Opening.{IsRead, IsMisfit}
use Rattle.ss_meta.proofs.Faults.{one_damaged, quiet_next, reads_ok, reads_damage, reads_memory, reads_fault}
use Rattle.ss_meta.proofs.Opened.{read_on, misfit_next, unfit_next}
use Rattle.ss_meta.proofs.log.opening.read_plan.Goals as goal

pub returns-in_err-take-in-Ok-Some-clause-reads : goal.returns-in_err-take-in-Ok-Some-clause-reads
returns-in_err-take-in-Ok-Some-clause-reads g c =
    let fault = err_from_is_err_and c.from_residual.result c.from_residual.ensures.1 in
    reads_memory g.D.Disk _ _ c.from_residual.result (cc (fault.1, fault.2)) (quiet_next g.D.Disk _ _ _ _ c.loop-at.invariant.quiet c.next.ensures.goes c.in-Ok-Some.ensures.fault)

pub returns-then-not-branch-clause-damaged : goal.returns-then-not-branch-clause-damaged
returns-then-not-branch-clause-damaged g c file at is =
    let same = one_damaged _ _ _ _ _ is in
    let was = c.loop-at.invariant in (
      sym same.0,
      λ told.
          let old = c.loop-at.records in
          let new = c.next.new.self in
          let had = was.read.1 told in
          let lends = subst (λ (o : Option ℕ). Lends g.D.Disk c.next.new.disk old new (bodies was.read.0) (Ok o)) c.in-Ok-Some.field-0-is (c.in-Ok-Some.ensures.lends (bodies was.read.0) told had.lent) in
          let reaches = subst (λ (o : Option ℕ). ReadsOn old new (Ok o)) c.in-Ok-Some.field-0-is c.in-Ok-Some.ensures.reaches in
          let misfit = when_false (IsRead c.loop-at.walk c.body.result.now c.take.new.self) (IsMisfit c.loop-at.walk.plan c.body.result.now) c.if-not-branch.true c.in_ok-take-in-Ok-Some.ensures in
          let quiet = quiet_next g.D.Disk _ _ _ _ was.quiet c.next.ensures.goes c.in-Ok-Some.ensures.fault in
          subst (IsFaulty c.args.records.now.limit (g.D.Disk.files c.args.disk.now 4)) same.1
          (subst (λ (n : ℕ). IsFaulty n (g.D.Disk.files c.args.disk.now 4) c.in-Ok-Some.at) was.same.limit
          (misfit_next g.D.Disk c.args.disk.now c.next.new.disk 4 told quiet.goes old new (was.same.file ∙ c.requires.file.0) c.next.ensures.same was.read.0 c.loop-at.disk c.loop-at.walk.plan c.in-Ok-Some.at c.body.result.now had c.body.ensures reaches.0 lends reaches.3 reaches.2 misfit)),
    )

pub returns-then-not-branch-clause-reads : goal.returns-then-not-branch-clause-reads
returns-then-not-branch-clause-reads g c = reads_damage g.D.Disk _ _ _ _ (quiet_next g.D.Disk _ _ _ _ c.loop-at.invariant.quiet c.next.ensures.goes c.in-Ok-Some.ensures.fault)

pub returns-in-Ok-None-clause-reads : goal.returns-in-Ok-None-clause-reads
returns-in-Ok-None-clause-reads g c = reads_ok g.D.Disk _ _ _ _ (quiet_next g.D.Disk _ _ _ _ c.loop-at.invariant.quiet c.next.ensures.goes c.in-Ok-None.ensures.fault)

pub returns-in-Err-clause-damaged : goal.returns-in-Err-clause-damaged
returns-in-Err-clause-damaged g c file at is =
    let was = c.loop-at.invariant in
    let old = c.loop-at.records in
    let fault = damaged_reader 4 c.in-Err.fault file at (sym c.of_records.ensures ∙ (let same : c.of_records.result ≡ Damaged file at = cc (is) in same)) in (
      fault.0,
      λ told.
          let had = was.read.1 told in
          let lends = subst (λ (e : RecordsFault). Lends g.D.Disk c.next.new.disk old c.next.new.self (bodies was.read.0) (Err e)) fault.1 (c.in-Err.ensures.lends (bodies was.read.0) told had.lent) in
          let reaches = subst (λ (e : RecordsFault). ReadsOn old c.next.new.self (Err e)) fault.1 c.in-Err.ensures.reaches in
          subst (λ (n : ℕ). IsFaulty n (g.D.Disk.files c.args.disk.now 4) at) was.same.limit
          (unfit_next g.D.Disk c.args.disk.now c.next.new.disk 4 told (then_same g.D.Disk _ _ _ Same was.quiet.goes c.next.ensures.goes) old c.next.new.self (was.same.file ∙ c.requires.file.0) c.next.ensures.same was.read.0 c.loop-at.disk c.loop-at.walk.plan at was.quiet.goes had reaches.1 lends.1),
    )

pub returns-in-Err-clause-reads : goal.returns-in-Err-clause-reads
returns-in-Err-clause-reads g c = rw c.of_records.ensures (reads_fault g.D.Disk _ _ _ 4 c.in-Err.fault c.loop-at.invariant.quiet c.next.ensures.goes c.in-Err.ensures.fault)

pub loop-at-preserved : goal.loop-at-preserved
loop-at-preserved g c =
    let was = c.loop-at.invariant in
    let old = c.loop-at.records in
    let new = c.next.new.self in
    let reaches = subst (λ (o : Option ℕ). ReadsOn old new (Ok o)) c.in-Ok-Some.field-0-is c.in-Ok-Some.ensures.reaches in
    let is_read = when_true (IsRead c.loop-at.walk c.body.result.now c.take.new.self) (IsMisfit c.loop-at.walk.plan c.body.result.now) c.if-not-branch.false c.in_ok-take-in-Ok-Some.ensures in
    let same = c.next.ensures.same in
    record {
      same = record { file = same.file ∙ was.same.file; size = same.size ∙ was.same.size; limit = same.limit ∙ was.same.limit };
      known = omega (arith, was.known, same.size, c.next.ensures.goes.known 4);
      within = omega (arith, reaches.1, reaches.4);
      sound = is_read.sound;
      read = (
        _,
        λ told.
            let had = was.read.1 told in
            let lends = subst (λ (o : Option ℕ). Lends g.D.Disk c.next.new.disk old new (bodies was.read.0) (Ok o)) c.in-Ok-Some.field-0-is (c.in-Ok-Some.ensures.lends (bodies was.read.0) told had.lent) in
            read_on g.D.Disk c.loop-at.disk c.next.new.disk old new c.loop-at.walk c.take.new.self was.read.0 c.body.result.now had c.body.ensures lends is_read,
      );
      quiet = quiet_next g.D.Disk _ _ _ _ was.quiet c.next.ensures.goes c.in-Ok-Some.ensures.fault;
    }
