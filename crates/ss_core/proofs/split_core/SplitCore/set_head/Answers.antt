use Rattle.std.proofs.Common.{◌≡◌, None, Err, refl, sym, ap, ◌∙◌, subst, arith}
use Rattle.ss_device.specs.Disk.{Same}
use Rattle.ss_device.specs.Calls.{Goes}
use Rattle.ss_device.proofs.Goes.{stays, same_files, leaves_same}
use Rattle.ss_store.specs.declared.fault.StoreFault.TheVariants as fault
use Rattle.ss_gatelog.specs.GateLog.{Log}
use Rattle.ss_hot.specs.Store.{Hot, SameButDoubt}
use Rattle.ss_model.specs.Head.{unread_refusal}
use Rattle.ss_model.specs.declared.call.Call.TheVariants as call
use Rattle.ss_model.specs.declared.call.Answer.TheVariants as answer
use Rattle.ss_model.specs.declared.call.HeadReply.{HeadReply}
use Rattle.ss_model.specs.declared.call.HeadReply.TheVariants as head
use Rattle.ss_core.specs.Calls.{Steps, Makes}
use Rattle.ss_core.specs.Replies.{head_fault}
use Rattle.ss_core.specs.StandsFor.{no_doubt, HasEitherState}
use Rattle.ss_core.specs.LogFiles.{log_files}
use Rattle.ss_core.proofs.HeadSteps.{refused, refused_makes, not_settled, failed_makes, then_steps, then_makes, stands_after, judged_steps, judged_makes, judged_reaches}
use Rattle.ss_core.proofs.LogFiles.{touches_then}
use Rattle.ss_core.proofs.Made.{counted_kept}
use Rattle.ss_core.proofs.split_core.SplitCore.set_head.Goals as goal

pub returns-in-Some-clause-told : goal.returns-in-Some-clause-told
returns-in-Some-clause-told g c = λ told s doubt stands. refused g.D.Disk s doubt c.args.cids.now c.args.self.now c.in-Some.refusal c.in-Some.ensures.early (c.in-Some.ensures.decides s doubt stands) stands

pub returns-in-Some-clause-made : goal.returns-in-Some-clause-made
returns-in-Some-clause-made g c = refused_makes g.D.Disk c.args.cids.now c.args.self.now c.in-Some.refusal c.in-Some.ensures.early

pub returns-in-Err-clause-told : goal.returns-in-Err-clause-told
returns-in-Err-clause-told g c = λ told s doubt stands.
    let reply : c.head_fault.result ≡ head.DiskFault = c.head_fault.ensures ∙ ap head_fault (c.in-Err.ensures.settled.hot.log.errors c.in-Err.fault refl) in
    let settled = c.in-Err.ensures.told told s doubt stands in
    subst (λ (r : HeadReply). Steps c.args.self.now c.settle.new.self s doubt (call.SetHead c.args.cids.now) (answer.Head r)) (sym reply)
    (not_settled g.D.Disk s doubt c.args.cids.now c.args.self.now c.settle.new.self (sym (c.in_default.ensures.decides s doubt stands)) c.settle.ensures.settled.hot.same settled.stops settled.after)

pub returns-in-Err-clause-made : goal.returns-in-Err-clause-made
returns-in-Err-clause-made g c =
    let fault : c.in-Err.fault ≡ fault.DiskFault = c.in-Err.ensures.settled.hot.log.errors c.in-Err.fault refl in
    let reply : c.head_fault.result ≡ head.DiskFault = c.head_fault.ensures ∙ ap head_fault fault in
    subst (λ (r : HeadReply). Makes c.args.self.now c.settle.new.self (call.SetHead c.args.cids.now) (answer.Head r)) (sym reply)
    (failed_makes g.D.Disk c.args.cids.now c.args.self.now c.settle.new.self (ap (λ (h : Hot). h.settings) c.settle.ensures.settled.hot.same) c.settle.ensures.settled.touches (omega (arith, ap (λ (h : Hot). h.log.end) c.settle.ensures.settled.hot.same)) (c.in-Err.ensures.settled.hot.log.counts.rose (ap Err fault)))

pub returns-in-Ok-clause-told : goal.returns-in-Ok-clause-told
returns-in-Ok-clause-told g c = λ told s doubt stands.
    let settled = c.in_default-settle.ensures.told told s doubt stands in
    let known : unread_refusal s.kept c.args.cids.now ≡ None = sym (c.in_default.ensures.decides s doubt stands) in
    let reads = c.judge.ensures.reads in
    then_steps g.D.Disk c.args.self.now c.judge.new.self _ (subst (λ (h : Hot). SameButDoubt c.args.self.now.hot h) (sym reads.hot) c.settle.ensures.settled.hot.same) s doubt (call.SetHead c.args.cids.now) (answer.Head c.write_head.result)
    (leaves_same g.D.Disk log_files (HasEitherState s doubt) c.args.self.now.disk c.settle.new.self.disk c.judge.new.self.disk told settled.stops reads.goes) c.write_head.ensures.reaches
    (c.write_head.ensures.told told s (stands_after g.D.Disk told c.settle.new.self c.judge.new.self reads s c.args.cids.now settled.after known) (record { known = known; tipset = c.in-Ok.ensures.judged told s no_doubt settled.after known }))

pub returns-in-Ok-clause-made : goal.returns-in-Ok-clause-made
returns-in-Ok-clause-made g c =
    let reads = c.judge.ensures.reads in
    then_makes g.D.Disk c.args.self.now c.judge.new.self _ (subst (λ (h : Hot). SameButDoubt c.args.self.now.hot h) (sym reads.hot) c.settle.ensures.settled.hot.same) c.args.cids.now c.write_head.result
    (touches_then g.D.Disk c.args.self.now.disk c.settle.new.self.disk c.judge.new.self.disk c.settle.ensures.settled.touches (same_files g.D.Disk log_files c.settle.new.self.disk c.judge.new.self.disk reads.goes))
    (counted_kept _ _ _ c.in-Ok.ensures.counts.kept ∙ counted_kept _ _ _ c.in_default-settle.ensures.settled.hot.log.counts.kept) (ap (λ (h : Hot). h.log.unsure) reads.hot ∙ ap (λ (l : Log). l.unsure) c.in_default-settle.ensures.settled.hot.log.ok)
    (λ sure. subst (λ d. Goes g.D.Disk Same d c.judge.new.self.disk) (c.settle.ensures.settled.hot.log.sure sure).2 reads.goes) c.write_head.ensures.reaches c.write_head.ensures.made

pub returns-in-Err-judge-clause-told : goal.returns-in-Err-judge-clause-told
returns-in-Err-judge-clause-told g c = λ told s doubt stands.
    let e = c.in-Err-judge in
    let settled = c.in_default-settle.ensures.told told s doubt stands in
    let known : unread_refusal s.kept c.args.cids.now ≡ None = sym (c.in_default.ensures.decides s doubt stands) in
    then_steps g.D.Disk c.args.self.now c.settle.new.self c.judge.new.self c.settle.ensures.settled.hot.same s doubt (call.SetHead c.args.cids.now) (answer.Head e.refusal) settled.stops (judged_reaches e.refusal e.ensures.judgement)
    (judged_steps g.D.Disk told c.settle.new.self c.judge.new.self c.judge.ensures.reads s c.args.cids.now settled.after known e.refusal e.ensures.judgement (e.ensures.judged told s no_doubt settled.after known))

pub returns-in-Err-judge-clause-made : goal.returns-in-Err-judge-clause-made
returns-in-Err-judge-clause-made g c =
    let e = c.in-Err-judge in
    then_makes g.D.Disk c.args.self.now c.settle.new.self c.judge.new.self c.settle.ensures.settled.hot.same c.args.cids.now e.refusal c.settle.ensures.settled.touches (counted_kept _ _ _ c.in_default-settle.ensures.settled.hot.log.counts.kept) (ap (λ (l : Log). l.unsure) c.in_default-settle.ensures.settled.hot.log.ok)
    (λ sure. subst (λ d. Goes g.D.Disk Same c.args.self.now.disk d) (sym (c.settle.ensures.settled.hot.log.sure sure).2) (stays g.D.Disk c.args.self.now.disk Same (λ files. refl))) (judged_reaches e.refusal e.ensures.judgement)
    (judged_makes g.D.Disk c.settle.new.self c.judge.new.self c.judge.ensures.reads c.args.cids.now (ap (λ (l : Log). l.unsure) c.in_default-settle.ensures.settled.hot.log.ok) e.refusal e.ensures.judgement e.ensures.counts)
