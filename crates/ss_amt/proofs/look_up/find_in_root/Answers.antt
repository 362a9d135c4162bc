use Rattle.std.proofs.Common.{◌≡◌, Some, None, refl, ◌∙◌}
use Rattle.std.proofs.lemmas.Result.{err_from_is_err_and}
use Rattle.ss_node.specs.Blocks.{node, bad}
use Rattle.ss_amt.specs.Node.{root_in}
use Rattle.ss_amt.proofs.Nodes.{root-here, root-shapeless}
use Rattle.ss_amt.proofs.Looking.{root-not_found}
use Rattle.ss_amt.proofs.look_up.find_in_root.Goals as goal

pub returns-in_err-block-clause-finds : goal.returns-in_err-block-clause-finds
returns-in_err-block-clause-finds g c =
    let p = err_from_is_err_and c.from_residual.result c.from_residual.ensures.1 in
    rw (p.1, p.2) (root-not_found _ _ c.args.index _ c.in_err-block.ensures.finds)

pub returns-in_default-clause-finds : goal.returns-in_default-clause-finds
returns-in_default-clause-finds g c =
    let none = root-shapeless c.new-cursor.result _ _ _ c.new-cursor.ensures c.as_slice.ensures.value c.in_default.ensures.reads in
    bad _ c.in_ok-block.ensures.finds.0 c.in_ok-block.ensures.finds.1 none

pub returns-in-Some-read_entry-clause-finds : goal.returns-in-Some-read_entry-clause-finds
returns-in-Some-read_entry-clause-finds g c =
    let at = root-here c.new-cursor.result c.read_root.new.cursor _ _ c.in-Some.shape c.new-cursor.ensures c.as_slice.ensures.value c.in-Some.ensures.reads in
    let read = c.in-Some-read_entry.ensures in
    let copy = c.in_ok-copy-in-Some-read_entry.ensures in
    let whole : root_in c.in_ok-block.block ≡ Some (c.in-Some.shape, read.0) = at ∙ rw read.1 refl in
    (read.0, node _ _ c.in_ok-block.ensures.finds.0 c.in_ok-block.ensures.finds.1 whole, rw (copy.0, copy.1, ← c.slot_of-slot.ensures.value) read.2)

pub returns-clause-finds : goal.returns-clause-finds
returns-clause-finds g c =
    let at = root-here c.new-cursor.result c.read_root.new.cursor _ _ c.in-Some.shape c.new-cursor.ensures c.as_slice.ensures.value c.in-Some.ensures.reads in
    let none : root_in c.in_ok-block.block ≡ None = at ∙ rw c.in-None.ensures refl in
    bad _ c.in_ok-block.ensures.finds.0 c.in_ok-block.ensures.finds.1 none
