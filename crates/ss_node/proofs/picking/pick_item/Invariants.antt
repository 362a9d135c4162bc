use Rattle.ss_chain.specs.HeaderReading.{item_from}
use Rattle.ss_node.proofs.Rows.{Picking}
use Rattle.ss_node.proofs.picking.pick_item.Given as goal

abbrev pub invariant-loop-i : goal.invariant-loop-i
invariant-loop-i l = Picking (λ item. item.now) item_from l.fn.n l.fn.index l.i l.fn.cursor l.cursor l.picked
