use Rattle.ss_io.proofs.Buffers.{Keeps-before_none}
use Rattle.ss_io.proofs.buffered.Buffered.new.Goals as goal

pub returns-in-Ok-clause-left : goal.returns-in-Ok-clause-left
returns-in-Ok-clause-left g c = Keeps-before_none _
