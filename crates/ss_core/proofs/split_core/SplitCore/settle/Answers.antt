use Rattle.std.proofs.Common.{refl}
use Rattle.ss_core.proofs.LogFiles.{touches_hot}
use Rattle.ss_core.proofs.Settling.{settles}
use Rattle.ss_core.proofs.split_core.SplitCore.settle.Goals as goal

pub returns-clause-told : goal.returns-clause-told
returns-clause-told g c = λ told s doubt stands. settles g.D.Disk c.args.self.now _ s doubt c.settle.result c.settle.ensures.settled refl (λ records others. c.settle.ensures.told records others told) stands

pub returns-clause-settled : goal.returns-clause-settled
returns-clause-settled g c = record { hot = c.settle.ensures.settled; views = refl; touches = touches_hot g.D.Disk _ _ _ c.args.self.now.file c.settle.ensures.settled.log.touches }
