use Rattle.std.proofs.Common.{sym}
use Rattle.ss_history.proofs.Stories.{begun_story}
use Rattle.ss_app.proofs.Imports.{import_ran}
use Rattle.ss_app.proofs.importing.run_import.Goals as goal

pub returns : goal.returns
returns g c =
    let opens = c.in-Ok.ensures.opens in
    let story = begun_story c.args.disk c.in-Ok.core opens.goes c.in-Ok.ensures.told opens.counts opens.fits in
    import_ran g.D.Disk _ _ _ c.import-result.result.1 _ _ c.of_import.result c.of_import.ensures (sym c.into_disk.ensures) (c.import-result.ensures.import c.args.disk story) c.import-result.ensures.faults c.import-result.ensures.ended c.finish.ensures
