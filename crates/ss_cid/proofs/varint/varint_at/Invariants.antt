use Rattle.std.proofs.Common.{◌≡◌, ◌+◌, ◌^◌, ◌≤◌, length, take, drop}
use Rattle.ss_cid.specs.Varint.{groups_value}
use Rattle.ss_cid.proofs.Varints.{AllHigh}
use Rattle.ss_cid.proofs.varint.varint_at.Given as goal

abbrev pub invariant-loop-k : goal.invariant-loop-k
invariant-loop-k l = record {
  within : l.at + l.k ≤ length l.bytes;
  weight : l.weight ≡ 128 ^ l.k;
  number : l.number ≡ groups_value (take l.k (drop l.at l.bytes));
  high : AllHigh l.bytes l.at l.k;
}
