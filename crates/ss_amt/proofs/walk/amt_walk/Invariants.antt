use Rattle.std.specs.List.{All, sum_by}
use Rattle.ss_node.specs.Blocks.{held_by}
use Rattle.ss_node.proofs.Visiting.{Stays}
use Rattle.ss_amt.specs.Walks.{IsPending}
use Rattle.ss_amt.proofs.Walking.{Walking, weight_of}
use Rattle.ss_amt.proofs.walk.amt_walk.Given as goal

abbrev pub invariant-loop-next : goal.invariant-loop-next
invariant-loop-next g l = record {
  stays : Stays g.B.Blocks l.fn.blocks l.blocks;
  walking : Walking (held_by g.B.Blocks l.fn.blocks) l.fn.root l.shape.width l.pending.items l.values;
  pending : All (IsPending l.shape.width) l.pending.items;
}

abbrev pub decreases-loop-next : goal.decreases-loop-next
decreases-loop-next g l = sum_by (weight_of l.shape.width) l.pending.items
