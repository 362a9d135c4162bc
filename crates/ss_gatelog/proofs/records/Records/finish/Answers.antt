use Rattle.std.proofs.Common.{◌≡◌, ◌≤◌, ℕ, List, sym, ap, subst, arith}
use Rattle.std.specs.Prelude.{IfOk}
use Rattle.ss_device.specs.Disk.{Changes, Torn}
use Rattle.ss_device.specs.Calls.{Goes}
use Rattle.ss_gatelog.specs.GateLog.{IsSure}
use Rattle.ss_gatelog.specs.Gate.{Reader}
use Rattle.ss_gatelog.proofs.Readers.{lent_none, lent_short}
use Rattle.ss_gatelog.proofs.records.Records.finish.Goals as goal

pub returns-then-self-le1-clause-sure : goal.returns-then-self-le1-clause-sure
returns-then-self-le1-clause-sure g c records told lent =
    let none : c.self.inside.at ≡ 0 = omega (arith, c.if-self-le1.true, c.self.invariant) in
    let at : c.args.self.at ≡ 0 = omega (arith, none, ap (λ (r : Reader). r.at) c.self.view_is) in
    subst (λ (rs : List (List ℕ)). IfOk c.create.result (λ log. IsSure g.D.Disk c.create.new.disk log rs)) (sym (lent_none g.D.Disk c.args.disk.now c.args.self records lent at)) (c.create.ensures.sure told)

pub returns-then-self-le1-clause-goes : goal.returns-then-self-le1-clause-goes
returns-then-self-le1-clause-goes g c records lent =
    let short : c.args.self.size ≤ 1 = omega (arith, c.if-self-le1.true, ap (λ (r : Reader). r.size) c.self.view_is) in
    let made = subst (λ (r : Reader). Goes g.D.Disk (Changes r.file (Torn 0 1)) c.args.disk.now c.create.new.disk) c.self.view_is c.create.ensures.goes in
    lent_short g.D.Disk c.args.disk.now c.create.new.disk c.args.self records lent short made
