use Rattle.std.proofs.Common.{true, refl}
use Rattle.ss_records.specs.declared.record.Record.TheVariants as record_kind
use Rattle.ss_meta.proofs.Walks.{entered}
use Rattle.ss_meta.proofs.log.walk.Walk.seal.Goals as goal

pub returns-in-Some : goal.returns-in-Some
returns-in-Some c = entered c.seal.result c.args.self.now c.in-Some.plan c.seal.new.self (record c.in-Some.plan { sealed = true }) (record_kind.Sealed c.args.total) c.requires c.in-Some.is refl refl c.seal.ensures
