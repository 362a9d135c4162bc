use Rattle.std.proofs.Common.{sym, subst}
use Rattle.ss_model.specs.declared.call.Call.{Call}
use Rattle.ss_model.specs.declared.call.Answer.TheVariants as answer
use Rattle.ss_core.specs.Calls.{Steps}
use Rattle.ss_core.proofs.split_core.SplitCore.answer.Goals as goal

pub returns-in-OpenView-clause-told : goal.returns-in-OpenView-clause-told
returns-in-OpenView-clause-told g c = λ told s doubt stands.
    subst (λ (call : Call). Steps c.args.self.now c.open_view.new.self s doubt call (answer.View c.open_view.result)) (sym c.in-OpenView.is) (c.open_view.ensures.told told s doubt stands)

pub returns-in-Put-clause-told : goal.returns-in-Put-clause-told
returns-in-Put-clause-told g c = λ told s doubt stands.
    subst (λ (call : Call). Steps c.args.self.now c.put.new.self s doubt call (answer.Put c.put.result)) (sym c.in-Put.is) (c.put.ensures.told told s doubt stands)

pub returns-in-Get-clause-told : goal.returns-in-Get-clause-told
returns-in-Get-clause-told g c = λ told s doubt stands.
    subst (λ (call : Call). Steps c.args.self.now c.get.new.self s doubt call (answer.Get c.get.result)) (sym c.in-Get.is) (c.get.ensures.told told s doubt stands)

pub returns-in-CloseView-clause-told : goal.returns-in-CloseView-clause-told
returns-in-CloseView-clause-told g c = λ told s doubt stands.
    subst (λ (call : Call). Steps c.args.self.now c.close_view.new.self s doubt call (answer.Close c.close_view.result)) (sym c.in-CloseView.is) (c.close_view.ensures.told told s doubt stands)

pub returns-in-Has-clause-told : goal.returns-in-Has-clause-told
returns-in-Has-clause-told g c = λ told s doubt stands.
    subst (λ (call : Call). Steps c.args.self.now c.has.new.self s doubt call (answer.Has c.has.result)) (sym c.in-Has.is) (c.has.ensures.told told s doubt stands)

pub returns-in-Size-clause-told : goal.returns-in-Size-clause-told
returns-in-Size-clause-told g c = λ told s doubt stands.
    subst (λ (call : Call). Steps c.args.self.now c.size.new.self s doubt call (answer.Size c.size.result)) (sym c.in-Size.is) (c.size.ensures.told told s doubt stands)

pub returns-in-SetHead-clause-told : goal.returns-in-SetHead-clause-told
returns-in-SetHead-clause-told g c = λ told s doubt stands.
    subst (λ (call : Call). Steps c.args.self.now c.set_head.new.self s doubt call (answer.Head c.set_head.result)) (sym c.in-SetHead.is) (c.set_head.ensures.told told s doubt stands)

pub returns-in-Info-clause-told : goal.returns-in-Info-clause-told
returns-in-Info-clause-told g c = λ told s doubt stands.
    subst (λ (call : Call). Steps c.args.self.now c.args.self.now s doubt call (answer.Info c.info.result)) (sym c.in-Info.is) (c.info.ensures.told told s doubt stands)
