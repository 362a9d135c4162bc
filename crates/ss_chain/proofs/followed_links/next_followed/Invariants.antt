use Rattle.std.proofs.Common.{◌≡◌, filter}
use Rattle.ss_chain.specs.Follows.{is_followed}
use Rattle.ss_chain.proofs.followed_links.next_followed.Given as goal

abbrev pub invariant-loop-cid : goal.invariant-loop-cid
invariant-loop-cid l = record {
  can : (goal.iterator-loop-cid).can_next l.links;
  ends : (goal.iterator-loop-cid).is_finite l.links;
  same : filter is_followed l.fn.links ≡ filter is_followed l.links;
}
