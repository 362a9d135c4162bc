use Rattle.std.proofs.Common.{sym, ◌∙◌}
use Rattle.std.proofs.lemmas.Result.{err_from_is_err_and}
use Rattle.ss_node.specs.Blocks.{node, bad}
use Rattle.ss_amt.proofs.Nodes.{node-here}
use Rattle.ss_amt.proofs.Walking.{node-not_found}
use Rattle.ss_amt.proofs.walk.walk_node.Goals as goal

pub returns-in_err-block-clause-walks : goal.returns-in_err-block-clause-walks
returns-in_err-block-clause-walks g c =
    let p = err_from_is_err_and c.from_residual.result c.from_residual.ensures.1 in
    rw (p.1, p.2) (node-not_found _ c.args.width c.args.next.now c.args.pending.now.items c.args.pending.now.items c.args.values.now c.args.values.now _ c.in_err-block.ensures.finds)

pub returns-in-Ok-clause-walks : goal.returns-in-Ok-clause-walks
returns-in-Ok-clause-walks g c =
    let at = node-here c.args.width c.args.next.now.height c.new-cursor.result _ _ c.new-cursor.ensures c.as_slice.ensures.value in
    let lists = c.in-Ok.ensures in
    (lists.0, node _ _ c.in_ok-block.ensures.finds.0 c.in_ok-block.ensures.finds.1 (sym at ∙ lists.1), lists.2, lists.3)

pub returns-in-Err-NotANode-clause-walks : goal.returns-in-Err-NotANode-clause-walks
returns-in-Err-NotANode-clause-walks g c =
    let at = node-here c.args.width c.args.next.now.height c.new-cursor.result _ _ c.new-cursor.ensures c.as_slice.ensures.value in
    let none = rw c.in-Err-NotANode.field-0-is at c.in-Err-NotANode.ensures in
    bad _ c.in_ok-block.ensures.finds.0 c.in_ok-block.ensures.finds.1 (sym at ∙ none)
