use Rattle.std.proofs.Common.{◌≡◌, ℕ, ◌<◌, List, None, Some, length}
use Rattle.std.specs.Prelude.{slice_get}
use Rattle.ss_chain.specs.Steps.{first_of}
use Rattle.ss_model.specs.State.{State}
use Rattle.ss_model.specs.Head.{absent_at}
use Rattle.ss_core.specs.declared.found.Found.{Found}
use Rattle.ss_core.specs.Found.{IsFound}
use Rattle.ss_core.specs.StandsFor.{Doubt, StandsFor}
use Rattle.ss_core.proofs.split_core.SplitCore.refuse_head.Given as goal

abbrev pub invariant-loop-i : goal.invariant-loop-i
invariant-loop-i g l = record {
  kept : (s : State) (doubt : Doubt) → StandsFor l.self s doubt → first_of (absent_at s.kept l.cids) l.i ≡ None;
  room : length l.found ≡ 64;
  found : (k : ℕ) (c : List ℕ) → k < l.i → slice_get l.cids k ≡ Some c → (f : Found) × (slice_get l.found k ≡ Some f) × IsFound l.self.hot c f;
}
