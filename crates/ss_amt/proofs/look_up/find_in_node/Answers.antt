use Rattle.std.proofs.Common.{sym, ◌∙◌}
use Rattle.std.proofs.lemmas.Result.{err_from_is_err_and}
use Rattle.ss_node.specs.Blocks.{node, bad}
use Rattle.ss_amt.specs.Node.{slot_of}
use Rattle.ss_amt.proofs.Nodes.{node-here}
use Rattle.ss_amt.proofs.Looking.{entry-not_found}
use Rattle.ss_amt.proofs.look_up.find_in_node.Goals as goal

pub returns-in_err-block-clause-finds : goal.returns-in_err-block-clause-finds
returns-in_err-block-clause-finds g c =
    let p = err_from_is_err_and c.from_residual.result c.from_residual.ensures.1 in
    rw (p.1, p.2) (entry-not_found _ _ _ (slot_of c.args.width c.args.height c.args.index) _ c.in_err-block.ensures.finds)

pub returns-in-Some-clause-finds : goal.returns-in-Some-clause-finds
returns-in-Some-clause-finds g c =
    let at = node-here c.args.width c.args.height c.new-cursor.result _ _ c.new-cursor.ensures c.as_slice.ensures.value in
    let read = c.in-Some.ensures in
    let copy = c.in_ok-copy-in-Some.ensures in
    (read.0, node _ _ c.in_ok-block.ensures.finds.0 c.in_ok-block.ensures.finds.1 (sym at ∙ read.1), rw (copy.0, copy.1, ← c.slot_of-slot.ensures.value) read.2)

pub returns-clause-finds : goal.returns-clause-finds
returns-clause-finds g c =
    let at = node-here c.args.width c.args.height c.new-cursor.result _ _ c.new-cursor.ensures c.as_slice.ensures.value in
    bad _ c.in_ok-block.ensures.finds.0 c.in_ok-block.ensures.finds.1 (sym at ∙ c.in-None.ensures)
