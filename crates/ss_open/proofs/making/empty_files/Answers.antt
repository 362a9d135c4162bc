use Rattle.std.proofs.Common.{◌≡◌, refl, sym, ◌∙◌, arith}
use Rattle.ss_device.specs.Disk.{Rose}
use Rattle.ss_open.proofs.Makings.{created, emptied_more, first_stays, none_yet, when_ok, when_err}
use Rattle.ss_open.proofs.making.empty_files.Goals as goal

pub loop-file-init : goal.loop-file-init
loop-file-init g c = record { some = omega arith; faults = refl; goes = none_yet g.D.Disk c.args.disk.now; emptied = λ told left now file low high. absurd (omega (arith, low, high)) }

pub returns-then-is_err-clause-goes : goal.returns-then-is_err-clause-goes
returns-then-is_err-clause-goes g c = first_stays g.D.Disk c.loop-file.file c.args.disk.now c.loop-file.disk c.create.new.disk c.loop-file.invariant.some c.loop-file.invariant.goes c.create.ensures.goes

pub returns-then-is_err-clause-cause : goal.returns-then-is_err-clause-cause
returns-then-is_err-clause-cause g c =
    let same = c.loop-file.invariant.faults in
    let rose : Rose (g.D.Disk.faults c.loop-file.disk) (g.D.Disk.faults c.create.new.disk) = when_err c.create.result _ (sym c.is_err.ensures.value ∙ c.if-is_err.true) c.create.ensures.cause.failed in record {
      later = omega (arith, c.create.ensures.cause.later, same);
      failed = omega (arith, rose, same);
      kept = tt;
    }

pub loop-file-preserved : goal.loop-file-preserved
loop-file-preserved g c =
    let ok = sym c.is_err.ensures.value ∙ c.if-is_err.false in record {
      some = omega arith;
      faults = when_ok c.create.result (g.D.Disk.faults c.create.new.disk ≡ g.D.Disk.faults c.loop-file.disk) ok c.create.ensures.cause.kept ∙ c.loop-file.invariant.faults;
      goes = first_stays g.D.Disk c.loop-file.file c.args.disk.now c.loop-file.disk c.create.new.disk c.loop-file.invariant.some c.loop-file.invariant.goes c.create.ensures.goes;
      emptied = λ told.
          emptied_more g.D.Disk told c.args.limit c.loop-file.file c.loop-file.disk c.create.new.disk c.requires.0 c.create.ensures.goes
          (created g.D.Disk c.create.new.disk c.create.result c.loop-file.file c.args.limit ok c.create.ensures.ok (c.create.ensures.sure told)) (c.loop-file.invariant.emptied told);
    }

pub returns-clause-emptied : goal.returns-clause-emptied
returns-clause-emptied g c = λ told left now file low high. c.loop-file.invariant.emptied told left now file low (omega (arith, high, c.loop-file-test.false))

pub returns-clause-goes : goal.returns-clause-goes
returns-clause-goes g c = c.loop-file.invariant.goes

pub returns-clause-cause : goal.returns-clause-cause
returns-clause-cause g c = let same = c.loop-file.invariant.faults in record { later = omega (arith, same); failed = tt; kept = same }
