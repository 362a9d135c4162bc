use Rattle.std.proofs.Common.{◌∷◌, [], subst}
use Rattle.ss_txn.specs.Marked.{Protects}
use Rattle.ss_txn.proofs.Marking.{protects_marked, protects_rows}
use Rattle.ss_txn.proofs.transaction.Txn.protect.Goals as goal

pub returns-clause-marked : goal.returns-clause-marked
returns-clause-marked c kept roots m =
    protects_marked c.args.self.now kept roots c.args.marks.now c.protect_one.new.marks c.args.cid.now
    (subst (λ edge. Protects edge (c.args.cid.now ∷ []) c.args.marks.now c.protect_one.new.marks) c.self.view_is c.protect_one.ensures) m

pub returns-clause-rows : goal.returns-clause-rows
returns-clause-rows c = protects_rows c.self.inside.edge (c.args.cid.now ∷ []) c.args.marks.now c.protect_one.new.marks c.protect_one.ensures
