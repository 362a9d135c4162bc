use Rattle.std.proofs.Common.{◌≤◌, ◌-◌}
use Rattle.ss_node.specs.Blocks.{held_by}
use Rattle.ss_node.proofs.Visiting.{Stays}
use Rattle.ss_hamt.proofs.Looking.{Reached}
use Rattle.ss_hamt.proofs.look_up.hamt_get.Given as goal

abbrev pub invariant-loop-level : goal.invariant-loop-level
invariant-loop-level g l = record {
  low : l.level ≤ 50;
  stays : Stays g.B.Blocks l.fn.blocks l.blocks;
  reached : Reached (held_by g.B.Blocks l.fn.blocks) l.fn.root l.key l.level l.cid;
}

abbrev pub decreases-loop-level : goal.decreases-loop-level
decreases-loop-level g l = 50 - l.level
