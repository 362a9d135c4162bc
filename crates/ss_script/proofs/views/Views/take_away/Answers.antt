use Rattle.std.proofs.Common.{◌≤◌, length, set, refl, sym, arith}
use Rattle.std.proofs.lemmas.List.{set_past}
use Rattle.ss_model.specs.declared.TheConstants.{NO_VIEW}
use Rattle.ss_script.proofs.ClientViews.{one_changed}
use Rattle.ss_script.proofs.views.Views.take_away.Goals as goal
use Rattle.ss_script.proofs.views.Views.take_away.Goals.{in-Some, in_default}

pub returns : goal.returns
returns c =
    let old = c.index_mut-views.result.now in
    elim c.match-get_mut.branch [
      | in-Some w ↦
          rw (w.self-inside-is, ← c.self.view_is, c.from.ensures) (one_changed (λ views. views.items) c.self.inside.by_client.items c.args.client old _ (λ l. set l c.args.view NO_VIEW) (omega (arith, c.self.invariant, c.requires)) (rw c.from.ensures at c.index_mut-views.ensures.value) refl)
      | in_default w ↦
          let past : length old.items ≤ c.args.view = grind (arith, w.in_default.ensures) in
          rw (w.self-inside-is, ← c.self.view_is, c.from.ensures) (one_changed (λ views. views.items) c.self.inside.by_client.items c.args.client old old (λ l. set l c.args.view NO_VIEW) (omega (arith, c.self.invariant, c.requires)) (rw c.from.ensures at c.index_mut-views.ensures.value) (sym (set_past old.items c.args.view NO_VIEW past)))
    ]
