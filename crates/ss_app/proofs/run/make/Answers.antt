use Rattle.std.proofs.Common.{refl, sym}
use Rattle.ss_app.proofs.Sayings.{made_store, made_none}
use Rattle.ss_app.proofs.run.make.Goals as goal

pub returns-in-Ok : goal.returns-in-Ok
returns-in-Ok g c = made_store g.D.Disk _ _ _ _ refl c.in-Ok.core (sym c.into_disk.ensures) c.in-Ok.ensures.told c.in-Ok.ensures.inits c.say.ensures

pub returns-in-Err : goal.returns-in-Err
returns-in-Err g c =
    let said = rw c.from.ensures at c.finish.ensures in
    made_none g.D.Disk _ _ _ _ refl c.in-Err.fault c.in-Err.ensures.told c.in-Err.ensures.inits said
