use Rattle.std.proofs.Common.{◌≡◌, None}
use Rattle.std.specs.Prelude.{IsTrue}
use Rattle.ss_model.specs.State.{State}
use Rattle.ss_model.specs.Head.{unread_refusal}
use Rattle.ss_core.specs.Replies.{OnlyReads}
use Rattle.ss_core.specs.StandsFor.{Doubt, StandsFor}
use Rattle.ss_core.proofs.Judging.{IsJudgedTo}
use Rattle.ss_core.proofs.split_core.SplitCore.judge.Given as goal

abbrev pub invariant-loop-i : goal.invariant-loop-i
invariant-loop-i g l = record {
  reads : OnlyReads l.fn.self l.self;
  kept : g.D.Disk.faults l.self.disk ≡ g.D.Disk.faults l.fn.self.disk;
  judged : IsTrue g.D.Disk.told → (s : State) (doubt : Doubt) → StandsFor l.fn.self s doubt → unread_refusal s.kept l.cids ≡ None → IsJudgedTo s.kept l.cids l.first.height l.first.parents l.i;
}
