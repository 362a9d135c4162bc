use Rattle.std.proofs.Common.{refl}
use Rattle.ss_records.specs.declared.record.Record.TheVariants as record_kind
use Rattle.ss_meta.proofs.Walks.{entered}
use Rattle.ss_meta.proofs.log.walk.Walk.note_copied.Goals as goal

pub returns-in-Some : goal.returns-in-Some
returns-in-Some c = entered c.note_copied.result c.args.self.now c.in-Some.plan c.note_copied.new.self (record c.in-Some.plan { copied = c.args.up_to }) (record_kind.Copied c.args.up_to) c.requires c.in-Some.is refl refl c.note_copied.ensures
