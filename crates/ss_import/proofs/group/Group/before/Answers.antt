use Rattle.std.proofs.Common.{ℕ, List, [], ◌∷◌, ◌++◌, ap, sym, ◌∙◌}
use Rattle.ss_store.proofs.Placing.{take-next}
use Rattle.ss_import.proofs.group.Group.before.Goals as goal

pub loop-i-preserved : goal.loop-i-preserved
loop-i-preserved c =
    let pair : List ℕ × List ℕ = (c.at-cid.result.0, c.at-cid.result.1.now) in
    c.in_ok-add.ensures.ok ∙ ap (λ l. l ++ pair ∷ []) c.loop-i.invariant ∙ sym (take-next c.args.self.now.parcel c.loop-i.i pair c.at-cid.ensures)
