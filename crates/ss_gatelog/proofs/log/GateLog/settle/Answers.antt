use Rattle.std.proofs.Common.{◌≡◌, rules}
use Rattle.std.specs.Prelude.{Result, Ok, Err}
use Rattle.ss_device.proofs.Goes.{touches}
use Rattle.ss_device.specs.Calls.{Touches}
use Rattle.ss_gatelog.specs.declared.fault.LogFault.{LogFault}
use Rattle.ss_gatelog.specs.declared.fault.LogFault.TheVariants as log_fault
use Rattle.ss_gatelog.specs.GateLog.{Log, Stands, Settled, KeepsSettled}
use Rattle.ss_gatelog.proofs.Logs.{sure_keeps, sure_settled, failed_keeps, failed_settled, done_keeps, done_settled}
use Rattle.ss_gatelog.proofs.log.GateLog.settle.Goals as goal

pub returns-then-not-self-clause-told : goal.returns-then-not-self-clause-told
returns-then-not-self-clause-told g c front more told stands = rw (← c.self.view_is) (sure_keeps g.D.Disk c.args.disk.now _ front more c.if-not-self.true c.self.invariant.1 (rw (← c.self.view_is) at stands))

pub returns-then-not-self-clause-settled : goal.returns-then-not-self-clause-settled
returns-then-not-self-clause-settled g c = rw (← c.self.view_is) (sure_settled g.D.Disk log_fault.DiskFault c.args.disk.now _ c.if-not-self.true)

pub returns-in_err-write_synced-clause-told : goal.returns-in_err-write_synced-clause-told
returns-in_err-write_synced-clause-told g c front more told stands =
    let is : c.from_residual.result ≡ Err log_fault.DiskFault = search rules in
    rw (is, ← c.self.view_is) (failed_keeps g.D.Disk _ c.if-not-self.false c.args.disk.now c.write_synced.new.disk front more (rw (← c.self.view_is) at stands) (c.write_synced.ensures.goes.images told) log_fault.DiskFault c.self.invariant.1)

pub returns-in_err-write_synced-clause-settled : goal.returns-in_err-write_synced-clause-settled
returns-in_err-write_synced-clause-settled g c =
    let is : c.from_residual.result ≡ Err log_fault.DiskFault = search rules in
    rw (is, ← c.self.view_is) (failed_settled g.D.Disk _ c.if-not-self.false c.args.disk.now c.write_synced.new.disk log_fault.DiskFault c.in_err-write_synced.ensures.cause.failed (touches g.D.Disk _ _ _ _ c.write_synced.ensures.goes))

pub returns-clause-told : goal.returns-clause-told
returns-clause-told g c front more told stands =
    rw (← c.self.view_is) (done_keeps g.D.Disk _ c.if-not-self.false c.args.disk.now c.write_synced.new.disk front more (rw (← c.self.view_is) at stands) (c.write_synced.ensures.goes.images told) c.self.invariant.1 (g.met.D.Disk.reads_as_image c.args.disk.now told) (c.in_ok-write_synced.ensures.durable told))

pub returns-clause-settled : goal.returns-clause-settled
returns-clause-settled g c = rw (← c.self.view_is) (done_settled g.D.Disk _ c.if-not-self.false c.args.disk.now c.write_synced.new.disk log_fault.DiskFault c.in_ok-write_synced.ensures.cause.kept (touches g.D.Disk _ _ _ _ c.write_synced.ensures.goes))
