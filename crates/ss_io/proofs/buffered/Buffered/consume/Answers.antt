use Rattle.std.proofs.Common.{sym}
use Rattle.std.proofs.lemmas.List.{drop-drop}
use Rattle.ss_io.proofs.Buffers.{Consumes-buffered}
use Rattle.ss_io.proofs.buffered.Buffered.consume.Goals as goal

pub returns-clause-left : goal.returns-clause-left
returns-clause-left g c = Consumes-buffered _ _ _ c.args.count (sym (drop-drop c.args.count c.args.self.now.start _))
