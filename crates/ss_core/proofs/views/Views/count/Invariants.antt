use Rattle.std.proofs.Common.{◌≡◌, ◌+◌, ◌≤◌, drop}
use Rattle.std.specs.FinSet as set
use Rattle.ss_core.specs.Calls.{marked_from}
use Rattle.ss_core.proofs.views.Views.count.Given as goal

abbrev pub invariant-loop-open : goal.invariant-loop-open
invariant-loop-open l = record {
  is : l.count + set.len (marked_from l.open-index (drop l.open-index l.open-items)) ≡ set.len (marked_from 0 l.open-items);
  few : l.count ≤ l.open-index;
}
