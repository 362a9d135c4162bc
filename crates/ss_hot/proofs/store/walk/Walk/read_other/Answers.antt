use Rattle.ss_store.proofs.Puts.{put_body}
use Rattle.ss_hot.proofs.PutReadings.{entered_or_not}
use Rattle.ss_hot.proofs.store.walk.Walk.read_other.Goals as goal

pub enter-requires : goal.enter-requires
enter-requires c blocks is = c.requires (put_body _ c.in-Ok.entry blocks c.in-Ok.ensures.found.0 is)

pub returns-in-Ok-clause-fits : goal.returns-in-Ok-clause-fits
returns-in-Ok-clause-fits c =
    let found = c.in-Ok.ensures.found in
    entered_or_not c.enter.result c.args.file c.args.at c.args.self.now c.enter.new.self c.args.body.now c.in-Ok.entry found.0 found.1 found.2 (c.enter.ensures.fits c.args.file c.args.at)
