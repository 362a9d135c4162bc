use Rattle.ss_node.proofs.Rows.{Picking}
use Rattle.ss_hamt.specs.Node.{found_of}
use Rattle.ss_hamt.proofs.Buckets.{found_from}
use Rattle.ss_hamt.proofs.pointer.pick_pointer.Given as goal

abbrev pub invariant-loop-i : goal.invariant-loop-i
invariant-loop-i l = Picking found_of (found_from l.key) l.fn.n l.fn.index l.i l.fn.cursor l.cursor l.picked
