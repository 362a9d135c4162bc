use Rattle.std.proofs.Common.{[], ◌∷◌, ◌++◌, length, false, refl, sym, ap, arith}
use Rattle.ss_app.proofs.Steps.{begun, stopped, cut_of, moved_on, all_made, all_done}
use Rattle.ss_script.specs.Views.{no_views}
use Rattle.ss_app.proofs.run.make_calls.Goals as goal

pub returns-in_default : goal.returns-in_default
returns-in_default g c = λ was story.
    rw c.into_disk.ensures (stopped was c.args.core false [] _ _ _ _ (cut_of was c.args.core no_views 0 false [] _ _ (begun was c.args.core no_views 0 false _ story (refl, refl, refl))) refl)

pub loop-line-init : goal.loop-line-init
loop-line-init g c =
    let gives = c.into_iter-line-iterator.ensures.into_iter_gives in (
      omega (arith, ap length gives),
      [],
      sym gives,
      λ was story. begun was c.args.core _ 0 false _ story (c.in-Ok.ensures, refl, refl),
    )

pub returns-in-Err : goal.returns-in-Err
returns-in-Err g c = λ was story.
    let i = c.loop-line.invariant in
    rw c.ended.ensures (stopped was c.step.new.self.core _ _ _ _ _ _ (c.in-Err.ensures.step was i.1 _ (i.3 was story)) (moved_on _ _ _ _ _ i.2 c.in-Some.ensures.steps.0))

pub loop-line-preserved : goal.loop-line-preserved
loop-line-preserved g c =
    let i = c.loop-line.invariant in
    let next = c.in-Some.ensures.steps.0 in (
      omega (arith, i.0, ap length next, c.in_default-step.ensures.place),
      i.1 ++ c.in-Some.line ∷ [],
      moved_on _ _ _ _ _ i.2 next,
      λ was story. c.in_default-step.ensures.step was i.1 _ (i.3 was story),
    )

pub returns : goal.returns
returns g c = λ was story.
    let i = c.loop-line.invariant in
    rw c.ended-2.ensures (all_made was c.loop-line.session.core _ _ _ i.1 _ _ _ (i.3 was story) (all_done _ _ _ i.2 (omega (arith, c.in-None.ensures.steps.0, c.loop-line.line-iterator.rest.ok.0))))
