use Rattle.std.proofs.Common.{refl}
use Rattle.ss_records.specs.declared.record.Record.TheVariants as record_kind
use Rattle.ss_meta.proofs.Walks.{entered}
use Rattle.ss_meta.proofs.log.walk.Walk.note_purged.Goals as goal

pub returns-in-Some : goal.returns-in-Some
returns-in-Some c = entered c.note_purged.result c.args.self.now c.in-Some.plan c.note_purged.new.self (record c.in-Some.plan { purged = c.args.up_to }) (record_kind.Purged c.args.up_to) c.requires c.in-Some.is refl refl c.note_purged.ensures
