use Rattle.std.proofs.Common.{◌<◌, sym, ap, ◌∙◌, length, arith}
use Rattle.std.specs.FinSet as set
use Rattle.ss_core.proofs.Marked.{within_marks, removed, removed_none}
use Rattle.ss_core.proofs.views.Views.close.Goals as goal

pub bounds-self-inside-view : goal.bounds-self-inside-view
bounds-self-inside-view c =
    let within : c.args.view < length c.self.inside.open = within_marks c.self.inside.open c.args.view (sym c.if-open.true ∙ c.contains-open.ensures ∙ ap (λ s. set.contains s c.args.view) (sym c.self.view_is)) in
    omega (arith, within, c.self.told)

pub returns-then-open-clause-closed : goal.returns-then-open-clause-closed
returns-then-open-clause-closed c =
    let within : c.args.view < length c.self.inside.open = within_marks c.self.inside.open c.args.view (sym c.if-open.true ∙ c.contains-open.ensures ∙ ap (λ s. set.contains s c.args.view) (sym c.self.view_is)) in
    removed c.self.inside.open c.args.view within ∙ ap (λ s. set.remove s c.args.view) c.self.view_is

pub returns-else-open-clause-closed : goal.returns-else-open-clause-closed
returns-else-open-clause-closed c = removed_none c.args.self.now c.args.view (sym c.contains-open.ensures ∙ c.if-open.false)
