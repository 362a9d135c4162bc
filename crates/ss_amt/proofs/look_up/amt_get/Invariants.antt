use Rattle.std.proofs.Common.{◌≤◌}
use Rattle.ss_node.specs.Blocks.{held_by}
use Rattle.ss_node.proofs.Visiting.{Stays}
use Rattle.ss_amt.proofs.Looking.{Reached}
use Rattle.ss_amt.proofs.look_up.amt_get.Given as goal

abbrev pub invariant-loop-height : goal.invariant-loop-height
invariant-loop-height g l = record {
  low : l.height ≤ l.shape.height;
  stays : Stays g.B.Blocks l.fn.blocks l.blocks;
  reached : Reached (held_by g.B.Blocks l.fn.blocks) l.fn.root l.fn.index l.shape.width l.height l.found;
}

abbrev pub decreases-loop-height : goal.decreases-loop-height
decreases-loop-height g l = l.height
