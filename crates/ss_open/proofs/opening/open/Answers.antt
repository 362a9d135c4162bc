use Rattle.std.proofs.Common.{inr, Ok, Err, refl, sym, ap, subst, arith}
use Rattle.ss_open.proofs.Openings.{opened as stands, as_many, not_opened}
use Rattle.ss_core.specs.StandsFor.{KeepsState}
use Rattle.ss_core.proofs.Reopened.{same_state}
use Rattle.ss_open.proofs.opening.open.Goals as goal

pub returns-in-Ok-clause-told : goal.returns-in-Ok-clause-told
returns-in-Ok-clause-told g c = λ told.
    let opened = rw c.in-Ok-Some.field-0-is at c.in-Ok-Some.ensures.opened in
    let kept = opened.keeps told in
    stands g.D.Disk c.open.new.disk (g.D.Disk.files c.args.disk) c.in-Ok-Some.hot c.in-Ok.core kept.0 kept.1 kept.2 opened.settled.sure c.in-Ok.ensures.parts.1 c.in-Ok.ensures.few (λ s. c.in-Ok.ensures.stands kept.0 s told)

pub returns-in-Err-TooMany-default-clause-told : goal.returns-in-Err-TooMany-default-clause-told
returns-in-Err-TooMany-default-clause-told g c = λ told.
    let opened = rw c.in-Ok-Some.field-0-is at c.in-Ok-Some.ensures.opened in
    let kept = opened.keeps told in
    (refl, inr ((c.in-Ok-Some.hot.settings, kept.0, kept.1, omega (arith, c.in-Err-TooMany-default.ensures.many.1, as_many g.D.Disk c.open.new.disk c.in-Ok-Some.hot kept.0 _ kept.2)), refl))

pub returns-in-Ok-None-clause-told : goal.returns-in-Ok-None-clause-told
returns-in-Ok-None-clause-told g c = λ told. c.in-Ok-None.ensures.none told (ap Ok c.in-Ok-None.field-0-is)

pub returns-in-Err-clause-opens : goal.returns-in-Err-clause-opens
returns-in-Err-clause-opens g c =
    not_opened g.D.Disk c.args.disk c.open.new.disk c.in-Err.fault c.open_fault.result c.open_fault.ensures (c.in-Err.ensures.reads.errors c.in-Err.fault refl)
    (λ file at is. (c.in-Err.ensures.damaged file at (ap Err is)).0) c.in-Err.ensures.reads.counts c.open.ensures.reads.goes

pub returns-in-Ok-clause-keeps : goal.returns-in-Ok-clause-keeps
returns-in-Ok-clause-keeps g c = λ told. subst (λ d. KeepsState g.D.Disk c.args.disk d) (sym c.in-Ok.ensures.parts.0) (same_state g.D.Disk c.args.disk c.open.new.disk c.open.ensures.reads.goes told)

pub returns-in-Err-TooMany-default-clause-keeps : goal.returns-in-Err-TooMany-default-clause-keeps
returns-in-Err-TooMany-default-clause-keeps g c = λ told. subst (λ d. KeepsState g.D.Disk c.args.disk d) (sym c.in-Err-TooMany-default.ensures.many.2) (same_state g.D.Disk c.args.disk c.open.new.disk c.open.ensures.reads.goes told)

pub returns-in-Ok-None-clause-keeps : goal.returns-in-Ok-None-clause-keeps
returns-in-Ok-None-clause-keeps g c = same_state g.D.Disk c.args.disk c.open.new.disk c.open.ensures.reads.goes

pub returns-in-Err-clause-keeps : goal.returns-in-Err-clause-keeps
returns-in-Err-clause-keeps g c = same_state g.D.Disk c.args.disk c.open.new.disk c.open.ensures.reads.goes
