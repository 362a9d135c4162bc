use Rattle.std.proofs.Common.{◌≡◌, ◌+◌, ◌≤◌, ◌++◌, ◌∷◌, ℕ, Some, length, sym, ap, subst, arith}
use Rattle.ss_gatelog.specs.GateLog.{Log, Stands}
use Rattle.ss_gatelog.proofs.Logs.{begins, entry_room, entry_length}
use Rattle.ss_gatelog.proofs.log.GateLog.entry.Goals as goal

pub returns-then-behind-lt-HEAD-clause-record : goal.returns-then-behind-lt-HEAD-clause-record
returns-then-behind-lt-HEAD-clause-record g c front rest more body told stands place =
    let was = subst (λ (log : Log). Stands g.D.Disk c.args.disk.now log (front ++ body ∷ rest) more) (sym c.self.view_is) stands in
    let begin = begins g.D.Disk c.args.disk.now _ _ more (g.met.D.Disk.reads_as_image c.args.disk.now told) was in
    let room : c.args.at + 5 + length body ≤ c.self.inside.end = entry_room front rest body _ _ c.args.at begin place in
    absurd (omega (arith, room, c.if-behind-lt-HEAD.true))

pub returns-then-from-behind-clause-record : goal.returns-then-from-behind-clause-record
returns-then-from-behind-clause-record g c front rest more body told stands place =
    let was = subst (λ (log : Log). Stands g.D.Disk c.args.disk.now log (front ++ body ∷ rest) more) (sym c.self.view_is) stands in
    let begin = begins g.D.Disk c.args.disk.now _ _ more (g.met.D.Disk.reads_as_image c.args.disk.now told) was in
    let room : c.args.at + 5 + length body ≤ c.self.inside.end = entry_room front rest body _ _ c.args.at begin place in
    let same : c.length_of-length.result ≡ length body = entry_length front rest body _ _ _ c.args.at _ begin place c.length_of-length.type_inv (c.in_ok-read.ensures.bytes told) c.length_of-length.ensures in
    absurd (omega (arith, room, same, c.from.ensures, c.if-from-behind.true))

pub returns-clause-record : goal.returns-clause-record
returns-clause-record g c front rest more body told stands place =
    let was = subst (λ (log : Log). Stands g.D.Disk c.args.disk.now log (front ++ body ∷ rest) more) (sym c.self.view_is) stands in
    let begin = begins g.D.Disk c.args.disk.now _ _ more (g.met.D.Disk.reads_as_image c.args.disk.now told) was in
    ap (λ (n : ℕ). Some (c.args.at + 5, n)) (entry_length front rest body _ _ _ c.args.at _ begin place c.length_of-length.type_inv (c.in_ok-read.ensures.bytes told) c.length_of-length.ensures)
