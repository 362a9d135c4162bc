use Rattle.ss_cbor.specs.Reading.{link_from}
use Rattle.ss_node.proofs.Rows.{Picking}
use Rattle.ss_node.proofs.picking.pick_link.Given as goal

abbrev pub invariant-loop-i : goal.invariant-loop-i
invariant-loop-i l = Picking (λ cid. cid) link_from l.fn.n l.fn.index l.i l.fn.cursor l.cursor l.picked
