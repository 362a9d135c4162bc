use Rattle.ss_node.proofs.Rows.{picking-this, picking-other, picking-stop, picking-end}
use Rattle.ss_hamt.proofs.Buckets.{pointer-read, pointer-unread, picks-pointer}
use Rattle.ss_hamt.proofs.pointer.pick_pointer.Goals as goal
use Rattle.ss_hamt.proofs.pointer.pick_pointer.Goals.{then-i-index, else-i-index}

pub returns-in_default : goal.returns-in_default
returns-in_default c = picks-pointer _ _ _ _ _ _ (picking-stop _ _ _ _ _ _ _ _ c.loop-i.invariant _ c.loop-i-test.true (pointer-unread _ _ _ c.in_default.ensures))

pub loop-i-preserved : goal.loop-i-preserved
loop-i-preserved c =
    let reads = pointer-read _ _ _ c.in-Some.entry c.in-Some.ensures in
    elim c.if-i-index.branch [
      | then-i-index w ↦ rw w.picked-is (picking-this _ _ _ _ _ _ _ _ c.loop-i.invariant _ c.in-Some.entry c.loop-i-test.true w.if-i-index.true reads)
      | else-i-index w ↦ rw w.picked-is (picking-other _ _ _ _ _ _ _ _ c.loop-i.invariant _ c.in-Some.entry c.loop-i-test.true w.if-i-index.false reads)
    ]

pub returns : goal.returns
returns c = picks-pointer _ _ _ _ _ _ (picking-end _ _ _ _ _ _ _ _ c.loop-i.invariant c.loop-i-test.false)
