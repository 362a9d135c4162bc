use Rattle.std.proofs.Common.{ap, ◌∙◌}
use Rattle.ss_script.specs.declared.line.Line.{Line}
use Rattle.ss_script.specs.Views.{closing_view}
use Rattle.ss_app.proofs.Steps.{stepped, recorded_is}
use Rattle.ss_history.proofs.Stories.{story_more}
use Rattle.ss_app.proofs.run.Session.step.Goals as goal

pub returns-clause-step : goal.returns-clause-step
returns-clause-step g c = λ was made old p.
    let m = c.make_call-entry.ensures in
    let recorded = recorded_is _ _ _ c.args.line _ _ _ (ap (λ (l : Line). l.client) c.line.view_is) (c.closing_view-closing.ensures ∙ ap (λ (l : Line). closing_view l.call) c.line.view_is) c.record.ensures.ok in
    stepped was _ _ _ _ _ _ _ made old _ _ c.args.line c.make_call-entry.result _ p m.client m.line m.call (λ h story. story_more was _ _ h _ story m.told m.made) c.print-self.ensures recorded
