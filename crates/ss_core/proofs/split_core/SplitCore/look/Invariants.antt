use Rattle.std.proofs.Common.{◌≡◌, ℕ, ◌-◌, ◌^◌, ◌<◌, ◌≤◌, List, length, Some, min, take}
use Rattle.std.specs.Prelude.{slice_get}
use Rattle.ss_hot.specs.Store.{AreNotHot}
use Rattle.ss_model.specs.State.{State}
use Rattle.ss_model.specs.Lawful.{body_bytes, put_bytes}
use Rattle.ss_model.specs.declared.TheConstants.{PUT_BLOCKS}
use Rattle.ss_core.specs.Seen.{held_in}
use Rattle.ss_core.specs.Replies.{held_put_bytes, cids_of}
use Rattle.ss_core.specs.StandsFor.{Doubt, StandsFor}
use Rattle.ss_core.proofs.split_core.SplitCore.look.Given as goal

abbrev pub invariant-loop-i : goal.invariant-loop-i
invariant-loop-i g l = record {
  least : min (body_bytes (take l.i l.parcel)) (2 ^ 64 - 1) ≤ l.bytes;
  held : l.bytes ≡ min (held_put_bytes l.self (take l.i l.parcel)) (2 ^ 64 - 1);
  all : (s : State) (doubt : Doubt) → StandsFor l.self s doubt → l.bytes ≡ min (put_bytes s.kept (take l.i l.parcel)) (2 ^ 64 - 1);
  own : AreNotHot l.self.hot l.parcel → l.bytes ≡ min (body_bytes (take l.i l.parcel)) (2 ^ 64 - 1);
  room : length l.seen ≡ PUT_BLOCKS;
  noted : (k : ℕ) (p : List ℕ × List ℕ) → k < l.i → slice_get l.parcel k ≡ Some p → slice_get l.seen k ≡ Some (held_in (cids_of l.self.hot.places) p.0);
}
