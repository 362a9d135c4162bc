use Rattle.std.proofs.Common.{◌≡◌, sym, ap, subst, arith, ℕ, List, Err}
use Rattle.ss_device.specs.Disk.{Files}
use Rattle.ss_gatelog.specs.Log.{IsDamaged, HasRecords, HasList}
use Rattle.ss_gatelog.specs.GateLog.{Log, IsSure}
use Rattle.ss_gatelog.specs.declared.fault.LogFault.{LogFault}
use Rattle.ss_gatelog.specs.declared.fault.LogFault.TheVariants as fault_kinds
use Rattle.std.proofs.lemmas.Result.{err_from_is_err_and}
use Rattle.ss_device.proofs.Goes.{then_same}
use Rattle.ss_gatelog.proofs.Logs.{settled_on, opens_reading, opens_short, opens_list}
use Rattle.ss_gatelog.proofs.log.GateLog.open.Goals as goal

pub returns-in_err-size-clause-goes : goal.returns-in_err-size-clause-goes
returns-in_err-size-clause-goes g c = opens_reading g.D.Disk c.args.file _ _ _ c.synced_size.ensures.goes

pub returns-then-size-le1-clause-goes : goal.returns-then-size-le1-clause-goes
returns-then-size-le1-clause-goes g c =
    opens_short g.D.Disk c.args.file _ _ _ c.synced_size.ensures.goes c.create.ensures.goes (λ told. omega (arith, c.in_ok-size.ensures.length told, c.if-size-le1.true)) c.in_ok-size.ensures.settled

pub returns-in_err-end-clause-damaged : goal.returns-in_err-end-clause-damaged
returns-in_err-end-clause-damaged g c at is =
    let fault = err_from_is_err_and c.from_residual-in_err-end.result c.from_residual-in_err-end.ensures.1 in
    let same : c.in_err-end.field-0.0 ≡ fault_kinds.Damaged at = cc (fault.1, fault.2, is) in
    let found = c.in_err-end.ensures.damaged at (ap (λ (e : LogFault). Err e) same) in
    let known = c.in_ok-size.ensures.known in
    let later = c.skim.ensures.reads.known c.args.file in (
      (λ told. subst (λ (f : Files). IsDamaged c.args.limit (f c.args.file) at) (c.synced_size.ensures.goes.files told) (found.0 told)),
      omega (arith, found.1, known, later),
      found.2,
    )

pub returns-in_err-end-clause-goes : goal.returns-in_err-end-clause-goes
returns-in_err-end-clause-goes g c = opens_reading g.D.Disk c.args.file _ _ _ (then_same g.D.Disk _ _ _ _ c.synced_size.ensures.goes c.skim.ensures.reads)

pub returns-clause-opened : goal.returns-clause-opened
returns-clause-opened g c told =
    let settled = settled_on g.D.Disk c.args.file _ _ _ told c.skim.ensures.reads (c.in_ok-size.ensures.settled told) in
    let found = c.in_ok-end.ensures.ok told in
    let file : g.D.Disk.files c.synced_size.new.disk c.args.file ≡ g.D.Disk.files c.args.disk.now c.args.file = ap (λ (f : Files). f c.args.file) (c.synced_size.ensures.goes.files told) in
    subst (λ (log : Log). (records : List (List ℕ)) × HasList c.args.limit (g.D.Disk.files c.args.disk.now c.args.file) records × IsSure g.D.Disk c.skim.new.disk log records) (sym c.sure.ensures)
    (opens_list g.D.Disk c.args.file c.args.limit _ _ _ settled (found.0, subst (λ (f : List ℕ). HasRecords c.args.limit f found.0) file found.1, found.2))

pub returns-clause-goes : goal.returns-clause-goes
returns-clause-goes g c = opens_reading g.D.Disk c.args.file _ _ _ (then_same g.D.Disk _ _ _ _ c.synced_size.ensures.goes c.skim.ensures.reads)
