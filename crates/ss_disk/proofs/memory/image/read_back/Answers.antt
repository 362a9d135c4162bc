use Rattle.std.proofs.Common.{◌∙◌, ap, sym, subst, IsTrue, List, ℕ}
use Rattle.ss_disk.specs.Memory.{placed, replayed}
use Rattle.ss_disk.proofs.Images.{read_more, placed_more, reads_all}
use Rattle.ss_disk.proofs.memory.image.read_back.Goals as goal

pub replay-requires : goal.replay-requires
replay-requires c =
    subst (λ (b : List ℕ). IsTrue (placed c.args.file c.call-item.result b)) (sym c.loop-call.invariant) (placed_more c.args.first.now c.args.file c.args.calls.now _ c.call-item.result c.loop-call-test.true c.call-item.is c.requires)

pub loop-call-preserved : goal.loop-call-preserved
loop-call-preserved c =
    c.in_ok-replay.ensures ∙ ap (replayed c.args.file c.call-item.result) c.loop-call.invariant ∙ sym (read_more c.args.first.now c.args.file c.args.calls.now _ c.call-item.result c.loop-call-test.true c.call-item.is)

pub returns : goal.returns
returns c = reads_all _ _ _ _ _ c.loop-call-test.false c.loop-call.invariant
