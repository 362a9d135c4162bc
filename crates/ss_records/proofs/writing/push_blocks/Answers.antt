use Rattle.ss_records.specs.Record.{block}
use Rattle.ss_records.proofs.Frames.{appends_next, flat_map_next}
use Rattle.ss_records.proofs.writing.push_blocks.Goals as goal

pub loop-i-preserved : goal.loop-i-preserved
loop-i-preserved c =
    appends_next c.args.out.now.items c.loop-i.out.items _ _ _ _ c.loop-i.invariant c.in_ok-push_block.ensures
    (flat_map_next block c.args.blocks.now c.loop-i.i _ c.at-cid.ensures)
