use Rattle.std.proofs.Common.{refl, sym}
use Rattle.ss_app.proofs.Imports.{info_ran}
use Rattle.ss_app.proofs.importing.run_info.Goals as goal

pub returns : goal.returns
returns g c = info_ran g.D.Disk _ _ _ c.in-Ok.core c.info.result refl (sym c.into_disk.ensures) c.in-Ok.ensures.told c.in-Ok.ensures.opens c.info.ensures.told c.finish.ensures
