use Rattle.std.proofs.Common.{◌≡◌, ◌*◌, ◌≤◌}
use Rattle.ss_node.specs.Bits.{ones_below}
use Rattle.ss_node.proofs.bitmap.ones_below.Given as goal

abbrev pub invariant-loop-byte : goal.invariant-loop-byte
invariant-loop-byte l = record {
  count : l.ones ≡ ones_below l.bits (8 * l.byte-index);
  few : l.ones ≤ 8 * l.byte-index;
}
