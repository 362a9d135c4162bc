use Rattle.std.proofs.Common.{◌≤◌, length}
use Rattle.ss_model.proofs.Placing.{PlacedFrom}
use Rattle.ss_model.proofs.reaching.places_of.Given as goal

abbrev pub invariant-loop-left : goal.invariant-loop-left
invariant-loop-left l = record {
  within : l.left ≤ length l.kept;
  placed : PlacedFrom l.kept l.left l.places;
}

abbrev pub decreases-loop-left : goal.decreases-loop-left
decreases-loop-left l = l.left
