use Rattle.std.proofs.Common.{sym, subst}
use Rattle.ss_history.specs.Story.{Story}
use Rattle.ss_import.specs.Import.{IsImport}
use Rattle.ss_import.proofs.importer.import.Goals as goal

pub returns-clause-import : goal.returns-clause-import
returns-clause-import g c = λ was story.
    subst (λ core. IsImport (Story {disk = g.D.Disk} was core) c.args.head (g.S.Source.left c.args.source.now) c.read-result.result) (sym c.into_core.ensures) (c.read-result.ensures.import was (c.new-importer.ensures.putting was story) c.new-importer.ensures.holds)
