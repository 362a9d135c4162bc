use Rattle.ss_disk.proofs.Images.{left_more, left_all}
use Rattle.ss_disk.proofs.memory.image.tear_all.Goals as goal

pub loop-index-init : goal.loop-index-init
loop-index-init c = λ first earlier left. left

pub loop-index-preserved : goal.loop-index-preserved
loop-index-preserved c = λ first earlier left.
    left_more first earlier c.args.file c.args.calls.now c.loop-index.index c.index-calls-index.result c.loop-index.bytes.items c.tear.new.bytes.items c.requires c.loop-index-test.true c.index-calls-index.is (c.loop-index.invariant first earlier left) c.in_ok-tear.ensures

pub returns : goal.returns
returns c = λ first earlier left. left_all first earlier _ _ _ _ c.loop-index-test.false (c.loop-index.invariant first earlier left)
