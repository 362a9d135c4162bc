use Rattle.ss_node.proofs.Rows.{picking-this, picking-other, picking-stop, picking-end}
use Rattle.ss_node.proofs.picking.pick_item.Goals as goal
use Rattle.ss_node.proofs.picking.pick_item.Goals.{then-i-index, else-i-index}

pub returns-in_err-item : goal.returns-in_err-item
returns-in_err-item c =
    rw c.from_residual.ensures (picking-stop _ _ _ _ _ _ _ _ c.loop-i.invariant _ c.loop-i-test.true c.in_err-item.ensures)

pub loop-i-preserved : goal.loop-i-preserved
loop-i-preserved c =
    elim c.if-i-index.branch [
      | then-i-index w ↦ rw w.picked-is (picking-this _ _ _ _ _ _ _ _ c.loop-i.invariant _ c.in_ok-item.item c.loop-i-test.true w.if-i-index.true c.in_ok-item.ensures)
      | else-i-index w ↦ rw w.picked-is (picking-other _ _ _ _ _ _ _ _ c.loop-i.invariant _ c.in_ok-item.item c.loop-i-test.true w.if-i-index.false c.in_ok-item.ensures)
    ]

pub returns : goal.returns
returns c = picking-end _ _ _ _ _ _ _ _ c.loop-i.invariant c.loop-i-test.false
