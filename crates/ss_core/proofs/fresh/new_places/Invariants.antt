use Rattle.std.proofs.Common.{◌<◌, length}
use Rattle.std.specs.Prelude.{All}
use Rattle.ss_model.specs.State.{CidSet}
use Rattle.ss_core.specs.Seen.{AreSeen, seen_in}
use Rattle.ss_core.proofs.NewPairs.{IsWalked}
use Rattle.ss_core.proofs.fresh.new_places.Given as goal

abbrev pub invariant-loop-i : goal.invariant-loop-i
invariant-loop-i l = record {
  within : All (λ i. i < length l.parcel) l.places.items;
  walked : (hot : CidSet) → AreSeen (seen_in hot) l.parcel l.seen → IsWalked hot l.parcel l.met l.places.items l.i;
}
