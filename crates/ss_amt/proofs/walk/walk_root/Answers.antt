use Rattle.std.proofs.Common.{◌≡◌, Some, None, refl, ◌∙◌}
use Rattle.std.proofs.lemmas.Result.{err_from_is_err_and}
use Rattle.ss_node.specs.Blocks.{node, bad}
use Rattle.ss_amt.specs.Node.{root_in}
use Rattle.ss_amt.proofs.Nodes.{root-here, root-shapeless}
use Rattle.ss_amt.proofs.Walking.{root-not_found}
use Rattle.ss_amt.proofs.walk.walk_root.Goals as goal

pub returns-in_err-block-clause-walks : goal.returns-in_err-block-clause-walks
returns-in_err-block-clause-walks g c =
    let p = err_from_is_err_and c.from_residual.result c.from_residual.ensures.1 in
    rw (p.1, p.2) (root-not_found _ _ c.args.pending.now.items c.args.pending.now.items c.args.values.now c.args.values.now _ c.in_err-block.ensures.finds)

pub returns-in_default-clause-walks : goal.returns-in_default-clause-walks
returns-in_default-clause-walks g c =
    bad _ c.in_ok-block.ensures.finds.0 c.in_ok-block.ensures.finds.1
    (root-shapeless c.new-cursor.result _ _ _ c.new-cursor.ensures c.as_slice.ensures.value c.in_default.ensures.reads)

pub returns-in-Ok-clause-walks : goal.returns-in-Ok-clause-walks
returns-in-Ok-clause-walks g c =
    let at = root-here c.new-cursor.result c.read_root.new.cursor _ _ c.in-Some.shape c.new-cursor.ensures c.as_slice.ensures.value c.in-Some.ensures.reads in
    let lists = c.in-Ok.ensures in
    let whole : root_in c.in_ok-block.block ≡ Some (c.in-Some.shape, lists.0) = at ∙ rw lists.1 refl in
    (lists.0, node _ _ c.in_ok-block.ensures.finds.0 c.in_ok-block.ensures.finds.1 whole, lists.2, lists.3)

pub returns-in-Err-NotANode-clause-walks : goal.returns-in-Err-NotANode-clause-walks
returns-in-Err-NotANode-clause-walks g c =
    let at = root-here c.new-cursor.result c.read_root.new.cursor _ _ c.in-Some.shape c.new-cursor.ensures c.as_slice.ensures.value c.in-Some.ensures.reads in
    let unread = rw c.in-Err-NotANode.field-0-is at c.in-Err-NotANode.ensures in
    let none : root_in c.in_ok-block.block ≡ None = at ∙ rw unread refl in
    bad _ c.in_ok-block.ensures.finds.0 c.in_ok-block.ensures.finds.1 none
