use Rattle.std.proofs.Common.{sym, ap, ◌∙◌, arith}
use Rattle.std.specs.FinSet as set
use Rattle.std.proofs.lemmas.Bool.{le-ltb}
use Rattle.ss_core.proofs.Marked.{contains_marked, none_past}
use Rattle.ss_core.proofs.views.Views.contains.Goals as goal

pub returns-then-view-lt-VIEWS : goal.returns-then-view-lt-VIEWS
returns-then-view-lt-VIEWS c = sym (contains_marked c.self.inside.open c.args.view) ∙ ap (λ s. set.contains s c.args.view) c.self.view_is

pub returns-else-view-lt-VIEWS : goal.returns-else-view-lt-VIEWS
returns-else-view-lt-VIEWS c =
    le-ltb c.args.view 1024 c.if-view-lt-VIEWS.false ∙ sym (none_past c.self.inside.open c.args.view (omega (arith, c.self.told, c.if-view-lt-VIEWS.false))) ∙ ap (λ s. set.contains s c.args.view) c.self.view_is
