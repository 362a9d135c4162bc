use Rattle.std.proofs.Common.{[], sym, subst}
use Rattle.ss_device.proofs.Goes.{touches}
use Rattle.ss_device.specs.Calls.{Touches, Leaves}
use Rattle.ss_gatelog.specs.GateLog.{Log, IsSure, HasEither}
use Rattle.ss_gatelog.proofs.Logs.{restart_left, restart_leaves, on_err}
use Rattle.ss_gatelog.proofs.log.GateLog.restart.Goals as goal

pub returns-in_err-write_synced-clause-failed : goal.returns-in_err-write_synced-clause-failed
returns-in_err-write_synced-clause-failed g c records told sure =
    let was = subst (λ (log : Log). IsSure g.D.Disk c.args.disk.now log records) (sym c.self.view_is) sure in
    on_err c.from_residual.result (restart_left g.D.Disk _ records c.args.disk.now c.write_synced.new.disk was c.if-self-eq0.false c.self.invariant.1 (c.write_synced.ensures.goes.images told))

pub returns-in_err-write_synced-clause-stops : goal.returns-in_err-write_synced-clause-stops
returns-in_err-write_synced-clause-stops g c records told sure =
    let was = subst (λ (log : Log). IsSure g.D.Disk c.args.disk.now log records) (sym c.self.view_is) sure in
    let leaves = restart_leaves g.D.Disk _ records c.args.disk.now c.write_synced.new.disk was c.if-self-eq0.false c.self.invariant.1 (c.write_synced.ensures.goes.images told) in
    subst (λ (log : Log). Leaves g.D.Disk log.file (HasEither log.limit [] records) c.args.disk.now c.write_synced.new.disk) c.self.view_is leaves

pub returns-in_err-write_synced-clause-touches : goal.returns-in_err-write_synced-clause-touches
returns-in_err-write_synced-clause-touches g c = subst (λ (log : Log). Touches g.D.Disk log.file c.args.disk.now c.write_synced.new.disk) c.self.view_is (touches g.D.Disk _ _ _ _ c.write_synced.ensures.goes)

pub returns-clause-stops : goal.returns-clause-stops
returns-clause-stops g c records told sure =
    let was = subst (λ (log : Log). IsSure g.D.Disk c.args.disk.now log records) (sym c.self.view_is) sure in
    let leaves = restart_leaves g.D.Disk _ records c.args.disk.now c.write_synced.new.disk was c.if-self-eq0.false c.self.invariant.1 (c.write_synced.ensures.goes.images told) in
    subst (λ (log : Log). Leaves g.D.Disk log.file (HasEither log.limit [] records) c.args.disk.now c.write_synced.new.disk) c.self.view_is leaves

pub returns-clause-touches : goal.returns-clause-touches
returns-clause-touches g c = subst (λ (log : Log). Touches g.D.Disk log.file c.args.disk.now c.write_synced.new.disk) c.self.view_is (touches g.D.Disk _ _ _ _ c.write_synced.ensures.goes)
