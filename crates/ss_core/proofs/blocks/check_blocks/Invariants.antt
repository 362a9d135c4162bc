use Rattle.std.proofs.Common.{◌≡◌, ℕ, List, ◌<◌, ◌≤◌, Some, length}
use Rattle.std.specs.Prelude.{slice_get}
use Rattle.ss_model.specs.State.{CidSet}
use Rattle.ss_model.specs.Lawful.{IsSound}
use Rattle.ss_model.specs.declared.TheConstants.{PUT_BLOCKS}
use Rattle.ss_core.specs.Seen.{AreSeen, held_in, seen_in}
use Rattle.ss_core.proofs.blocks.check_blocks.Given as goal

abbrev pub invariant-loop-i : goal.invariant-loop-i
invariant-loop-i l = record {
  sound : (k : ℕ) (pair : List ℕ × List ℕ) → k < l.i → slice_get l.parcel k ≡ Some pair → IsSound pair;
  room : length l.seen ≡ PUT_BLOCKS;
  before : (hot : CidSet) → AreSeen (held_in hot) l.parcel l.fn.seen → (k : ℕ) (pair : List ℕ × List ℕ) → k < l.i → slice_get l.parcel k ≡ Some pair → slice_get l.seen k ≡ Some (seen_in hot pair.0);
  after : (hot : CidSet) → AreSeen (held_in hot) l.parcel l.fn.seen → (k : ℕ) (pair : List ℕ × List ℕ) → l.i ≤ k → slice_get l.parcel k ≡ Some pair → slice_get l.seen k ≡ Some (held_in hot pair.0);
}
