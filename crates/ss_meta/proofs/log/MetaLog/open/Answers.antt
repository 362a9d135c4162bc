use Rattle.std.proofs.Common.{◌≡◌, ℕ, ◌+◌, ◌≤◌, List, [], rules, refl, sym, ◌∙◌, ap, subst, arith}
use Rattle.std.proofs.lemmas.Result.{err_from_is_err_and}
use Rattle.std.specs.Prelude.{Err}
use Rattle.ss_device.specs.Disk.{Same}
use Rattle.ss_device.proofs.Goes.{then_same}
use Rattle.ss_gatelog.specs.declared.fault.LogFault.TheVariants as log_fault
use Rattle.ss_gatelog.specs.Log.{HasList}
use Rattle.ss_gatelog.proofs.Logs.{stands_sure}
use Rattle.ss_store.specs.declared.fault.StoreFault.TheVariants.{DiskFault, Damaged}
use Rattle.ss_store.specs.Append.{bodies, of_log}
use Rattle.ss_meta.specs.Plan.{IsFaulty}
use Rattle.ss_meta.proofs.Faults.{quiet_none, quiet_open, quiet_reads, makes_none, makes_later, reads_err, cause_ok, cause_err}
use Rattle.ss_meta.proofs.Opened.{same_file}
use Rattle.ss_meta.proofs.log.MetaLog.open.Goals as goal

pub returns-in_err-records-clause-reads : goal.returns-in_err-records-clause-reads
returns-in_err-records-clause-reads g c =
    let is : c.from_residual.result ≡ Err DiskFault = search rules in
    cause_err g.D.Disk _ _ _ _ _ _ is (makes_none g.D.Disk _ _ 4 c.open.ensures.goes) (quiet_none g.D.Disk _) c.in_err-records.ensures.cause

pub returns-in_err-plan-clause-damaged : goal.returns-in_err-plan-clause-damaged
returns-in_err-plan-clause-damaged g c file at is =
    let fault = err_from_is_err_and c.from_residual-in_err-plan.result c.from_residual-in_err-plan.ensures.1 in
    let was : c.read_plan.result ≡ Err (Damaged file at) = cc (fault.1, fault.2, is, c.in_err-plan.was) in
    let found = c.read_plan.ensures.damaged file at was in (
      found.0,
      λ told. subst (λ (n : ℕ). IsFaulty n (g.D.Disk.files c.args.disk.now 4) at) c.in_ok-records.ensures.start.1
          (subst (λ (f : List ℕ). IsFaulty c.in_ok-records.records.limit f at) (same_file g.D.Disk c.args.disk.now c.open.new.disk 4 told c.open.ensures.goes) (found.1 told)),
    )

pub returns-in_err-plan-clause-reads : goal.returns-in_err-plan-clause-reads
returns-in_err-plan-clause-reads g c =
    let fault = err_from_is_err_and c.from_residual-in_err-plan.result c.from_residual-in_err-plan.ensures.1 in
    let first = quiet_open g.D.Disk _ _ _ c.open.ensures.goes c.in_ok-records.ensures.cause in
    reads_err g.D.Disk _ _ _ _ _ _ c.read_plan.result c.from_residual-in_err-plan.result fault.0 (cc (fault.1, fault.2, c.in_err-plan.was)) (cc (fault.1)) (λ may. may)
    (makes_none g.D.Disk _ _ 4 (then_same g.D.Disk _ _ _ Same first.goes c.read_plan.ensures.reads.goes)) first c.read_plan.ensures.reads

pub returns-in-Ok-clause-opened : goal.returns-in-Ok-clause-opened
returns-in-Ok-clause-opened g c =
    let first = quiet_open g.D.Disk _ _ _ c.open.ensures.goes c.in_ok-records.ensures.cause in
    let quiet = quiet_reads g.D.Disk _ _ _ _ _ first c.in_ok-plan.ensures.reads in
    let reader = c.read_plan.new.records in
    let same = c.read_plan.ensures.same in
    let number : reader.file ≡ 4 = same.file ∙ c.in_ok-records.ensures.start.0 in
    let limit : reader.limit ≡ c.args.limit = same.limit ∙ c.in_ok-records.ensures.start.1 in
    let log = c.in-Ok.ensures.log in
    let all = c.in_ok-plan.ensures.read in
    record {
      keeps = λ told.
          let read = all.1 told in
          let file : g.D.Disk.files c.read_plan.new.disk reader.file ≡ g.D.Disk.files c.args.disk.now 4 = ap (g.D.Disk.files c.read_plan.new.disk) number ∙ same_file g.D.Disk c.args.disk.now c.read_plan.new.disk 4 told quiet.goes in (
            all.0,
            record {
              list = subst (λ (n : ℕ). HasList n (g.D.Disk.files c.args.disk.now 4) (bodies all.0)) limit (subst (λ (f : List ℕ). HasList reader.limit f (bodies all.0)) file (read.lent.all c.in_ok-plan.ensures.ended));
              plan = read.are;
            },
            record {
              are = read.are;
              plan = read.plan;
              within = omega (arith, log.1, log.2, read.lent.leads.within);
              stands = stands_sure g.D.Disk c.finish.new.disk c.in-Ok.log (bodies all.0) (bodies []) log.3 (c.in-Ok.ensures.sure (bodies all.0) told read.lent);
            },
          );
      settled = record {
        sure = log.3;
        log = (log.0 ∙ number, log.1 ∙ limit);
        known = subst (λ (f : ℕ). c.in-Ok.log.end + 1 ≤ g.D.Disk.known c.finish.new.disk f) (sym log.0) c.in-Ok.ensures.known;
      };
    }

pub returns-in-Ok-clause-reads : goal.returns-in-Ok-clause-reads
returns-in-Ok-clause-reads g c =
    let first = quiet_open g.D.Disk _ _ _ c.open.ensures.goes c.in_ok-records.ensures.cause in
    let quiet = quiet_reads g.D.Disk _ _ _ _ _ first c.in_ok-plan.ensures.reads in
    let all = c.in_ok-plan.ensures.read in
    cause_ok g.D.Disk _ _ _ _ _ _ _ (makes_later g.D.Disk _ _ _ 4 c.read_plan.new.records.file (c.read_plan.ensures.same.file ∙ c.in_ok-records.ensures.start.0) quiet.goes (c.finish.ensures.goes (bodies all.0) (λ told. (all.1 told).lent))) quiet c.in-Ok.ensures.cause

pub returns-in-Err-clause-reads : goal.returns-in-Err-clause-reads
returns-in-Err-clause-reads g c =
    let cause : c.in-Err.fault ≡ log_fault.DiskFault = let same = c.in-Err.ensures.fault refl in cc (same) in
    let is : Err c.of_log.result ≡ Err DiskFault = ap Err (c.of_log.ensures ∙ ap (of_log 4) cause) in
    let first = quiet_open g.D.Disk _ _ _ c.open.ensures.goes c.in_ok-records.ensures.cause in
    let quiet = quiet_reads g.D.Disk _ _ _ _ _ first c.in_ok-plan.ensures.reads in
    let all = c.in_ok-plan.ensures.read in
    cause_err g.D.Disk _ _ _ _ _ _ is (makes_later g.D.Disk _ _ _ 4 c.read_plan.new.records.file (c.read_plan.ensures.same.file ∙ c.in_ok-records.ensures.start.0) quiet.goes (c.finish.ensures.goes (bodies all.0) (λ told. (all.1 told).lent))) quiet c.in-Err.ensures.cause
