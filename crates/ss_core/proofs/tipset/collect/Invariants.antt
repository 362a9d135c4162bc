use Rattle.std.proofs.Common.{◌≡◌, ◌++◌}
use Rattle.ss_core.proofs.tipset.collect.Given as goal

abbrev pub invariant-loop-link : goal.invariant-loop-link
invariant-loop-link l = record {
  can : (goal.iterator-loop-link).can_next l.links;
  ends : (goal.iterator-loop-link).is_finite l.links;
  is : l.cids ++ l.links ≡ l.fn.links;
}
