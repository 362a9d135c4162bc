use Rattle.ss_io.proofs.Told.{Appends-onward}
use Rattle.ss_io.proofs.std_sink.write_whole.Goals as goal

pub loop-rest-preserved : goal.loop-rest-preserved
loop-rest-preserved g c = Appends-onward _ _ _ _ _ _ c.loop-rest.invariant c.in_ok-count.ensures.bytes
