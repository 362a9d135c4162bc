use Rattle.std.proofs.Common.{◌≡◌, ◌+◌, ◌*◌, ◌≤◌, length, take}
use Rattle.std.specs.Prelude.{sum_by}
use Rattle.ss_core.proofs.split_core.head.head_need.Given as goal

abbrev pub invariant-loop-cid : goal.invariant-loop-cid
invariant-loop-cid l = record {
  is : l.need ≡ 15 + sum_by length (take l.cid-index l.cids);
  few : l.need ≤ 15 + 72 * l.cid-index;
}
