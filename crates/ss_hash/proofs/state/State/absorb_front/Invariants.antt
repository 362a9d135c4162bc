use Rattle.std.proofs.Common.{◌≡◌, ℕ, ◌+◌, ◌-◌, ◌<◌, ◌≤◌, ◌^◌, List, ◌++◌, length, take, drop}
use Rattle.ss_hash.specs.State.{IsAbsorbed}
use Rattle.ss_hash.proofs.state.State.absorb_front.Given as goal

abbrev pub invariant-loop-rest : goal.invariant-loop-rest
invariant-loop-rest l = record {
  left : l.rest ≡ drop (length l.bytes - length l.rest) l.bytes;
  at_most : length l.rest ≤ length l.bytes;
  waits : 0 < length l.bytes → 0 < length l.rest;
  absorbed : (n : ℕ) (m : List ℕ) → IsAbsorbed l.fn.self n m → length m + length l.bytes < 2 ^ 64
      → IsAbsorbed l.self n (m ++ take (length l.bytes - length l.rest) l.bytes);
}

abbrev pub decreases-loop-rest : goal.decreases-loop-rest
decreases-loop-rest l = length l.rest
