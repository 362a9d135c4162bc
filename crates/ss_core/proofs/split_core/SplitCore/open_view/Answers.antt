use Rattle.std.proofs.Common.{refl, sym, ap, ◌∙◌}
use Rattle.std.specs.FinSet as finite_set
use Rattle.ss_model.specs.declared.call.Call.TheVariants as call_kind
use Rattle.ss_model.specs.declared.call.Answer.TheVariants as answer
use Rattle.ss_model.specs.declared.call.ViewReply.TheVariants as view
use Rattle.ss_core.proofs.Idle.{idle, with_views, stands_still}
use Rattle.ss_core.proofs.split_core.SplitCore.open_view.Goals as goal

pub returns-in-Some-clause-told : goal.returns-in-Some-clause-told
returns-in-Some-clause-told g c = λ told s doubt stands.
    let n = c.in-Some.view in
    let least = rw c.in-Some.is at c.open.ensures.least in
    let opened = rw c.in-Some.is at c.open.ensures.opened in
    idle g.D.Disk c.args.self.now _ s doubt call_kind.OpenView (answer.View (view.Opened n)) refl refl (record { settles = refl; stands = refl; roomy = refl }) stands
    (least.0, ap (λ v. finite_set.contains v n) stands.views ∙ least.1, λ k below. ap (λ v. finite_set.contains v k) stands.views ∙ least.2 k below)
    (with_views g.D.Disk c.args.self.now _ s doubt refl refl stands (finite_set.insert s.views n) (ap (λ v. finite_set.insert v n) stands.views ∙ sym opened))

pub returns-in-None-clause-told : goal.returns-in-None-clause-told
returns-in-None-clause-told g c = λ told s doubt stands.
    let all = c.open.ensures.all c.in-None.is in
    idle g.D.Disk c.args.self.now _ s doubt call_kind.OpenView (answer.View view.TooManyViews) refl refl (record { settles = refl; stands = refl; roomy = refl }) stands
    (λ k below. ap (λ v. finite_set.contains v k) stands.views ∙ all.1 k below)
    (stands_still g.D.Disk c.args.self.now _ s doubt refl refl stands all.0)
