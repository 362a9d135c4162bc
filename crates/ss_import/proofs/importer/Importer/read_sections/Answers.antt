use Rattle.std.proofs.Common.{◌≡◌, Ok, Err, ap, ◌∙◌, refl, arith}
use Rattle.std.proofs.lemmas.Result.{err_from_is_err_and}
use Rattle.ss_car.specs.Bodies.{input_faults}
use Rattle.ss_import.proofs.Counted.{quiet_ok}
use Rattle.ss_import.proofs.Ends.{early}
use Rattle.ss_import.proofs.importer.Importer.read_sections.Goals as goal

pub loop-init : goal.loop-init
loop-init g c = record {
  between = c.requires;
  reading = λ input was reading. reading;
  faults = refl;
  place = refl;
}

pub loop-preserved : goal.loop-preserved
loop-preserved g c =
    let old = c.loop.invariant in
    let new = c.in_ok-step.ensures in
    record {
      between = new.between;
      reading = λ input was reading. rw c.if-branch.true at (new.step input was (old.reading input was reading));
      faults = quiet_ok (input_faults g.S.Source c.loop.reader) (input_faults g.S.Source c.step.new.reader) c.in_ok-step.field-0 new.source.0 ∙ old.faults;
      place = new.source.1 ∙ old.place;
    }

pub loop-smaller : goal.loop-smaller
loop-smaller g c =
    let more = c.step.ensures.more (c.in_ok-step.was ∙ ap Ok c.if-branch.true) in
    omega (arith, more, c.in_ok-step.ensures.between.short)

pub returns-in_err-step-clause-import : goal.returns-in_err-step-clause-import
returns-in_err-step-clause-import g c input was reading =
    let fault = err_from_is_err_and c.from_residual.result c.from_residual.ensures.1 in
    let is : c.from_residual.result ≡ Err c.in_err-step.field-0.0 = cc (fault.1, fault.2) in
    rw is (early c.args.head input was c.step.new.self c.in_err-step.field-0.0 (c.in_err-step.ensures.step input was (c.loop.invariant.reading input was reading)))

pub returns-clause-import : goal.returns-clause-import
returns-clause-import g c input was reading =
    let read = rw c.if-branch.false at (c.in_ok-step.ensures.step input was (c.loop.invariant.reading input was reading)) in
    c.finish.ensures.import input was (rw c.roots.ensures read)
