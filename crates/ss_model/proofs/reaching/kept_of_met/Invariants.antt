use Rattle.std.proofs.Common.{◌≡◌, ◌++◌, is_some}
use Rattle.std.specs.Prelude.{filter}
use Rattle.std.specs.Ordering.{nat_cmp}
use Rattle.std.specs.Cmp.Lexicographic.{slice_cmp}
use Rattle.std.specs.BTreeMap.{get}
use Rattle.ss_model.proofs.reaching.kept_of_met.Given as goal

abbrev pub invariant-loop-cid : goal.invariant-loop-cid
invariant-loop-cid l = l.cids ++ filter (λ cid. is_some (get (slice_cmp nat_cmp) l.places cid)) l.cid-iterator ≡ filter (λ cid. is_some (get (slice_cmp nat_cmp) l.places cid)) l.met.cids.keys
