use Rattle.ss_app.proofs.WordLimits.{init_fits, alone_fits}
use Rattle.ss_app.proofs.words.command_of.Goals as goal

pub returns-in-init-clause-fits : goal.returns-in-init-clause-fits
returns-in-init-clause-fits c = rw c.init.ensures (init_fits _)

pub returns-in-text-2-clause-fits : goal.returns-in-text-2-clause-fits
returns-in-text-2-clause-fits c = rw c.alone-in-text-2.ensures (alone_fits _ _ _ tt)
