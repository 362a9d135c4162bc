use Rattle.ss_node.proofs.Rows.{picking-this, picking-other, picking-stop, picking-end, taken-read}
use Rattle.ss_node.proofs.picking.pick_link.Goals as goal
use Rattle.ss_node.proofs.picking.pick_link.Goals.{then-i-index, else-i-index}

pub returns-in_err-link : goal.returns-in_err-link
returns-in_err-link c =
    rw c.from_residual.ensures (picking-stop _ _ _ _ _ _ _ _ c.loop-i.invariant _ c.loop-i-test.true (taken-read _ _ _ _ _ c.in_err-link.ensures))

pub loop-i-preserved : goal.loop-i-preserved
loop-i-preserved c =
    elim c.if-i-index.branch [
      | then-i-index w ↦ rw w.picked-is (picking-this _ _ _ _ _ _ _ _ c.loop-i.invariant _ c.in_ok-link.link c.loop-i-test.true w.if-i-index.true (taken-read _ _ _ _ _ c.in_ok-link.ensures))
      | else-i-index w ↦ rw w.picked-is (picking-other _ _ _ _ _ _ _ _ c.loop-i.invariant _ c.in_ok-link.link c.loop-i-test.true w.if-i-index.false (taken-read _ _ _ _ _ c.in_ok-link.ensures))
    ]

pub returns : goal.returns
returns c = picking-end _ _ _ _ _ _ _ _ c.loop-i.invariant c.loop-i-test.false
