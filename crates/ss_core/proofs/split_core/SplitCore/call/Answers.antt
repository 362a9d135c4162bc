use Rattle.std.proofs.Common.{sym, subst}
use Rattle.ss_model.specs.declared.call.Call.{Call}
use Rattle.ss_model.specs.declared.call.Answer.TheVariants as answer
use Rattle.ss_core.specs.Calls.{Steps}
use Rattle.ss_core.proofs.split_core.SplitCore.call.Goals as goal

pub returns-in-OpenView-clause-told : goal.returns-in-OpenView-clause-told
returns-in-OpenView-clause-told g c = λ told s doubt stands. subst (λ (call : Call). Steps c.args.self.now c.open_view-reply.new.self s doubt call (answer.View c.open_view-reply.result)) (sym c.in-OpenView.is) (c.open_view-reply.ensures.told told s doubt stands)

pub returns-in-CloseView-clause-told : goal.returns-in-CloseView-clause-told
returns-in-CloseView-clause-told g c = λ told s doubt stands. subst (λ (call : Call). Steps c.args.self.now c.close_view-reply.new.self s doubt call (answer.Close c.close_view-reply.result)) (sym c.in-CloseView.is) (c.close_view-reply.ensures.told told s doubt stands)

pub returns-in-Put-clause-told : goal.returns-in-Put-clause-told
returns-in-Put-clause-told g c = λ told s doubt stands. subst (λ (call : Call). Steps c.args.self.now c.put-reply.new.self s doubt call (answer.Put c.put-reply.result)) (sym c.in-Put.is) (c.put-reply.ensures.told told s doubt stands)

pub returns-in-Get-clause-told : goal.returns-in-Get-clause-told
returns-in-Get-clause-told g c = λ told s doubt stands. subst (λ (call : Call). Steps c.args.self.now c.get_twice-reply.new.self s doubt call (answer.Get c.get_twice-reply.result.0)) (sym c.in-Get.is) (c.get_twice-reply.ensures.told told s doubt stands)

pub returns-in-Has-clause-told : goal.returns-in-Has-clause-told
returns-in-Has-clause-told g c = λ told s doubt stands. subst (λ (call : Call). Steps c.args.self.now c.has-reply.new.self s doubt call (answer.Has c.has-reply.result)) (sym c.in-Has.is) (c.has-reply.ensures.told told s doubt stands)

pub returns-in-Size-clause-told : goal.returns-in-Size-clause-told
returns-in-Size-clause-told g c = λ told s doubt stands. subst (λ (call : Call). Steps c.args.self.now c.size-reply.new.self s doubt call (answer.Size c.size-reply.result)) (sym c.in-Size.is) (c.size-reply.ensures.told told s doubt stands)

pub returns-in-SetHead-clause-told : goal.returns-in-SetHead-clause-told
returns-in-SetHead-clause-told g c = λ told s doubt stands. subst (λ (call : Call). Steps c.args.self.now c.set_head-reply.new.self s doubt call (answer.Head c.set_head-reply.result)) (sym c.in-SetHead.is) (c.set_head-reply.ensures.told told s doubt stands)

pub returns-in-Info-clause-told : goal.returns-in-Info-clause-told
returns-in-Info-clause-told g c = λ told s doubt stands. subst (λ (call : Call). Steps c.args.self.now c.args.self.now s doubt call (answer.Info c.info-reply.result)) (sym c.in-Info.is) (c.info-reply.ensures.told told s doubt stands)
