use Rattle.std.proofs.Common.{refl, sym, ap, ◌∙◌}
use Rattle.std.specs.Prelude.{is_some}
use Rattle.std.specs.FinSet as finite_set
use Rattle.ss_model.specs.declared.call.Call.TheVariants as call
use Rattle.ss_model.specs.declared.call.Answer.TheVariants as answer
use Rattle.ss_model.specs.declared.call.HasReply.TheVariants as has
use Rattle.ss_core.proofs.Asked.{some_len, none_len}
use Rattle.ss_core.proofs.Idle.{idle}
use Rattle.ss_core.proofs.split_core.SplitCore.has.Goals as goal

pub returns-then-not-contains-clause-told : goal.returns-then-not-contains-clause-told
returns-then-not-contains-clause-told g c = λ told s doubt stands.
    idle g.D.Disk c.args.self.now c.args.self.now s doubt (call.Has c.args.view c.args.cid.now) (answer.Has has.BadView) refl refl (record { settles = refl; stands = refl; roomy = refl }) stands (ap (λ views. finite_set.contains views c.args.view) stands.views ∙ sym c.if-not-contains.ensures) stands

pub returns-in-Some-clause-told : goal.returns-in-Some-clause-told
returns-in-Some-clause-told g c = λ told s doubt stands.
    idle g.D.Disk c.args.self.now c.args.self.now s doubt (call.Has c.args.view c.args.cid.now) (answer.Has has.Yes) refl refl (record { settles = refl; stands = refl; roomy = refl }) stands ((ap (λ views. finite_set.contains views c.args.view) stands.views ∙ sym c.if-not-contains.ensures), some_len _ _ (c.in-Some.ensures.block s doubt stands)) stands

pub returns-in-None-clause-told : goal.returns-in-None-clause-told
returns-in-None-clause-told g c = λ told s doubt stands.
    idle g.D.Disk c.args.self.now c.args.self.now s doubt (call.Has c.args.view c.args.cid.now) (answer.Has has.No) refl refl (record { settles = refl; stands = refl; roomy = refl }) stands ((ap (λ views. finite_set.contains views c.args.view) stands.views ∙ sym c.if-not-contains.ensures), ap is_some (none_len _ (c.in-None.ensures.block s doubt stands))) stands
