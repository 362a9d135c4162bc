use Rattle.std.proofs.Common.{[], ◌∷◌, ◌++◌, arith}
use Rattle.ss_script.proofs.ClientViews.{one_changed}
use Rattle.ss_script.proofs.views.Views.add.Goals as goal

pub returns-clause-ok : goal.returns-clause-ok
returns-clause-ok c =
    rw (← c.self.view_is, c.from.ensures) (one_changed (λ views. views.items) c.self.inside.by_client.items c.args.client c.index_mut-views.result.now c.push.new.self (λ l. l ++ c.args.number ∷ []) (omega (arith, c.self.invariant, c.requires)) (rw c.from.ensures at c.index_mut-views.ensures.value) c.in_ok-push.ensures.items)
