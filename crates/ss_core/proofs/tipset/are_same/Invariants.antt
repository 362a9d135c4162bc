use Rattle.std.proofs.Common.{◌≡◌}
use Rattle.ss_chain.specs.Tipset.{same_cids}
use Rattle.ss_core.proofs.tipset.are_same.Given as goal

abbrev pub invariant-loop-link : goal.invariant-loop-link
invariant-loop-link l = record {
  can : (goal.iterator-loop-link).can_next l.links;
  ends : (goal.iterator-loop-link).is_finite l.links;
  same : same_cids l.fn.links l.fn.cids ≡ same_cids l.links l.others.rest.now;
}
