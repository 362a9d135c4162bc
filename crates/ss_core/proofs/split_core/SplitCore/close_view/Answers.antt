use Rattle.std.proofs.Common.{refl, sym, ap, ◌∙◌}
use Rattle.std.specs.FinSet as finite_set
use Rattle.ss_model.specs.declared.call.Call.TheVariants as call
use Rattle.ss_model.specs.declared.call.Answer.TheVariants as answer
use Rattle.ss_model.specs.declared.call.CloseReply.TheVariants as close
use Rattle.ss_core.proofs.Idle.{idle, with_views, stands_still}
use Rattle.ss_core.proofs.split_core.SplitCore.close_view.Goals as goal

pub returns-then-close-clause-told : goal.returns-then-close-clause-told
returns-then-close-clause-told g c = λ told s doubt stands.
    idle g.D.Disk c.args.self.now _ s doubt (call.CloseView c.args.view) (answer.Close close.Closed) refl refl (record { settles = refl; stands = refl; roomy = refl }) stands (ap (λ views. finite_set.contains views c.args.view) stands.views ∙ sym c.close.ensures.open ∙ c.if-close.true)
    (with_views g.D.Disk c.args.self.now _ s doubt refl refl stands (finite_set.remove s.views c.args.view) (ap (λ views. finite_set.remove views c.args.view) stands.views ∙ sym c.close.ensures.closed))

pub returns-else-close-clause-told : goal.returns-else-close-clause-told
returns-else-close-clause-told g c = λ told s doubt stands.
    idle g.D.Disk c.args.self.now _ s doubt (call.CloseView c.args.view) (answer.Close close.BadView) refl refl (record { settles = refl; stands = refl; roomy = refl }) stands (ap (λ views. finite_set.contains views c.args.view) stands.views ∙ sym c.close.ensures.open ∙ c.if-close.false)
    (stands_still g.D.Disk c.args.self.now _ s doubt refl refl stands (c.close.ensures.still c.if-close.false))
