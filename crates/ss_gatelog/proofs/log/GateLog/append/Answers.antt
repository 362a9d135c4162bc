use Rattle.std.proofs.Common.{◌≡◌, ◌+◌, ◌<◌, ◌≤◌, ◌++◌, ◌∷◌, [], ℕ, length, sym, subst, arith, false}
use Rattle.ss_device.proofs.Goes.{touches, touches_on}
use Rattle.ss_device.specs.Calls.{Touches, Leaves}
use Rattle.ss_gatelog.specs.Log.{longest_body}
use Rattle.ss_gatelog.specs.GateLog.{Log, IsSure, HasEither, body_of}
use Rattle.ss_gatelog.proofs.Bytes.{length-body_of}
use Rattle.ss_gatelog.proofs.Logs.{behind_sure, behind_leaves, append_doubt, append_leaves, append_opened, stands_sure, on_err}
use Rattle.ss_gatelog.proofs.log.GateLog.append.Goals as goal

pub returns-in_err-write_synced-clause-failed : goal.returns-in_err-write_synced-clause-failed
returns-in_err-write_synced-clause-failed g c records told sure =
    let was = subst (λ (log : Log). IsSure g.D.Disk c.args.disk.now log records) (sym c.self.view_is) sure in
    let still = behind_sure g.D.Disk _ records (body_of c.args.frame.now) _ c.args.disk.now c.write_synced.new.disk was (c.write_synced.ensures.goes.images told) in
    let now = subst (λ (log : Log). IsSure g.D.Disk c.write_synced.new.disk log records) c.self.view_is still in
    on_err c.from_residual.result (stands_sure g.D.Disk _ c.args.self.now records _ c.requires.sure now)

pub returns-in_err-write_synced-clause-stops : goal.returns-in_err-write_synced-clause-stops
returns-in_err-write_synced-clause-stops g c records told sure =
    let was = subst (λ (log : Log). IsSure g.D.Disk c.args.disk.now log records) (sym c.self.view_is) sure in
    let body = body_of c.args.frame.now in
    let leaves = behind_leaves g.D.Disk _ records body _ c.args.disk.now c.write_synced.new.disk c.self.invariant.1 was (c.write_synced.ensures.goes.images told) in
    subst (λ (log : Log). Leaves g.D.Disk log.file (HasEither log.limit records (records ++ body ∷ [])) c.args.disk.now c.write_synced.new.disk) c.self.view_is leaves

pub returns-in_err-write_synced-clause-touches : goal.returns-in_err-write_synced-clause-touches
returns-in_err-write_synced-clause-touches g c = subst (λ (log : Log). Touches g.D.Disk log.file c.args.disk.now c.write_synced.new.disk) c.self.view_is (touches g.D.Disk _ _ _ _ c.write_synced.ensures.goes)

pub returns-in_err-write_synced-2-clause-failed : goal.returns-in_err-write_synced-2-clause-failed
returns-in_err-write_synced-2-clause-failed g c records told sure =
    let was = subst (λ (log : Log). IsSure g.D.Disk c.args.disk.now log records) (sym c.self.view_is) sure in
    let body = body_of c.args.frame.now in
    let size = length-body_of c.args.frame.now c.requires.frame in
    let short : length body ≤ longest_body = omega (arith, size, c.requires.body) in
    let within : c.self.inside.end + 5 + length body < c.self.inside.limit = omega (arith, size, c.requires.frame, c.if-need-room.false, c.self.invariant.1) in
    on_err c.from_residual-in_err-write_synced-2.result (append_doubt g.D.Disk _ records body c.args.disk.now c.write_synced.new.disk c.write_synced-2.new.disk c.seal.new.frame c.seal.ensures.sealed was (g.met.D.Disk.reads_as_image c.args.disk.now told) short within (c.write_synced.ensures.goes.images told) (c.in_ok-write_synced.ensures.durable told) (c.write_synced-2.ensures.goes.images told))

pub returns-in_err-write_synced-2-clause-stops : goal.returns-in_err-write_synced-2-clause-stops
returns-in_err-write_synced-2-clause-stops g c records told sure =
    let was = subst (λ (log : Log). IsSure g.D.Disk c.args.disk.now log records) (sym c.self.view_is) sure in
    let body = body_of c.args.frame.now in
    let size = length-body_of c.args.frame.now c.requires.frame in
    let short : length body ≤ longest_body = omega (arith, size, c.requires.body) in
    let within : c.self.inside.end + 5 + length body < c.self.inside.limit = omega (arith, size, c.requires.frame, c.if-need-room.false, c.self.invariant.1) in
    let leaves = append_leaves g.D.Disk _ records body c.args.disk.now c.write_synced.new.disk c.write_synced-2.new.disk c.seal.new.frame c.seal.ensures.sealed was (g.met.D.Disk.reads_as_image c.args.disk.now told) short within (c.write_synced.ensures.goes.images told) (c.in_ok-write_synced.ensures.durable told) (c.write_synced-2.ensures.goes.images told) in
    subst (λ (log : Log). Leaves g.D.Disk log.file (HasEither log.limit records (records ++ body ∷ [])) c.args.disk.now c.write_synced-2.new.disk) c.self.view_is leaves

pub returns-in_err-write_synced-2-clause-touches : goal.returns-in_err-write_synced-2-clause-touches
returns-in_err-write_synced-2-clause-touches g c =
    subst (λ (log : Log). Touches g.D.Disk log.file c.args.disk.now c.write_synced-2.new.disk) c.self.view_is (touches_on g.D.Disk _ _ _ _ (touches g.D.Disk _ _ _ _ c.write_synced.ensures.goes) (touches g.D.Disk _ _ _ _ c.write_synced-2.ensures.goes))

pub returns-clause-appended : goal.returns-clause-appended
returns-clause-appended g c records told sure =
    let was = subst (λ (log : Log). IsSure g.D.Disk c.args.disk.now log records) (sym c.self.view_is) sure in
    let body = body_of c.args.frame.now in
    let size = length-body_of c.args.frame.now c.requires.frame in
    let short : length body ≤ longest_body = omega (arith, size, c.requires.body) in
    let within : c.self.inside.end + 5 + length body < c.self.inside.limit = omega (arith, size, c.requires.frame, c.if-need-room.false, c.self.invariant.1) in
    let opened = append_opened g.D.Disk _ records body c.args.disk.now c.write_synced.new.disk c.write_synced-2.new.disk c.seal.new.frame c.seal.ensures.sealed was (g.met.D.Disk.reads_as_image c.args.disk.now told) short within (c.write_synced.ensures.goes.images told) (c.in_ok-write_synced.ensures.durable told) (c.write_synced-2.ensures.goes.images told) (g.met.D.Disk.reads_as_image c.write_synced.new.disk told) (c.in_ok-write_synced-2.ensures.durable told) in
    let end : c.self.inside.end + 5 + length body ≡ c.self.inside.end + length c.args.frame.now = omega (arith, size, c.requires.frame) in
    subst (λ (n : ℕ). IsSure g.D.Disk c.write_synced-2.new.disk (record { file = c.self.inside.file; limit = c.self.inside.limit; end = n; unsure = false }) (records ++ body ∷ [])) end opened

pub returns-clause-stops : goal.returns-clause-stops
returns-clause-stops g c records told sure =
    let was = subst (λ (log : Log). IsSure g.D.Disk c.args.disk.now log records) (sym c.self.view_is) sure in
    let body = body_of c.args.frame.now in
    let size = length-body_of c.args.frame.now c.requires.frame in
    let short : length body ≤ longest_body = omega (arith, size, c.requires.body) in
    let within : c.self.inside.end + 5 + length body < c.self.inside.limit = omega (arith, size, c.requires.frame, c.if-need-room.false, c.self.invariant.1) in
    let leaves = append_leaves g.D.Disk _ records body c.args.disk.now c.write_synced.new.disk c.write_synced-2.new.disk c.seal.new.frame c.seal.ensures.sealed was (g.met.D.Disk.reads_as_image c.args.disk.now told) short within (c.write_synced.ensures.goes.images told) (c.in_ok-write_synced.ensures.durable told) (c.write_synced-2.ensures.goes.images told) in
    subst (λ (log : Log). Leaves g.D.Disk log.file (HasEither log.limit records (records ++ body ∷ [])) c.args.disk.now c.write_synced-2.new.disk) c.self.view_is leaves

pub returns-clause-touches : goal.returns-clause-touches
returns-clause-touches g c =
    subst (λ (log : Log). Touches g.D.Disk log.file c.args.disk.now c.write_synced-2.new.disk) c.self.view_is (touches_on g.D.Disk _ _ _ _ (touches g.D.Disk _ _ _ _ c.write_synced.ensures.goes) (touches g.D.Disk _ _ _ _ c.write_synced-2.ensures.goes))
