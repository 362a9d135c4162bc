use Rattle.std.proofs.Common.{◌≤◌, ◌+◌, ℕ, ◌∙◌, sym, subst, arith, IsTrue, drop, take}
use Rattle.ss_disk.specs.Memory.{unsynced}
use Rattle.ss_disk.proofs.Images.{unsynced_more, unsynced_none, unsynced_all}
use Rattle.ss_disk.proofs.memory.image.settled_calls.Goals as goal
use Rattle.ss_disk.proofs.memory.image.settled_calls.Goals.{then-is_sync, else-is_sync}

pub loop-index-preserved : goal.loop-index-preserved
loop-index-preserved c =
    let holds : ℕ → Type 0 = λ s. (s ≤ c.loop-index.index + 1) × IsTrue (unsynced c.args.file (drop s (take (c.loop-index.index + 1) c.args.calls.now))) in
    elim c.if-is_sync.branch [
      | then-is_sync w ↦ subst holds (sym w.settled-is) (omega arith, unsynced_none c.args.file c.args.calls.now c.loop-index.index c.loop-index-test.true)
      | else-is_sync w ↦
          let old = c.loop-index.invariant in
          subst holds (sym w.settled-is) (omega (arith, old.0), unsynced_more c.args.file c.args.calls.now c.loop-index.settled c.loop-index.index c.index-calls-index.result c.loop-index-test.true c.index-calls-index.is old.0 old.1 (sym c.is_sync.ensures ∙ w.if-is_sync.false))
    ]

pub returns-clause-after : goal.returns-clause-after
returns-clause-after c = unsynced_all _ _ _ _ c.loop-index-test.false c.loop-index.invariant.1
