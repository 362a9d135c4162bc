use Rattle.std.proofs.Common.{ℕ, ◌∙◌, subst}
use Rattle.std.specs.Prelude.{Ok, Err, Option}
use Rattle.ss_gatelog.specs.declared.fault.RecordsFault.{RecordsFault}
use Rattle.ss_gatelog.specs.Gate.{Lends, ReadsOn}
use Rattle.ss_hot.proofs.Opened.{none_ended, none_unfit}
use Rattle.ss_hot.proofs.store.opening.Opening.read_early.Goals as goal

pub returns-in-Ok-None-clause-none : goal.returns-in-Ok-None-clause-none
returns-in-Ok-None-clause-none g c lent told has few is settings committed =
    let old = c.args.self.now in
    let new = c.next.new.self in
    let lends = subst (λ (o : Option ℕ). Lends g.D.Disk c.next.new.disk old.records new lent (Ok o)) c.in-Ok-None.field-0-is (c.in-Ok-None.ensures.lends lent told has) in
    let reaches = subst (λ (o : Option ℕ). ReadsOn old.records new (Ok o)) c.in-Ok-None.field-0-is c.in-Ok-None.ensures.reaches in
    none_ended g.D.Disk c.args.disk.now c.next.new.disk new old.file lent settings told c.next.ensures.goes (c.next.ensures.same.file ∙ c.requires.under_way.file) lends reaches.1 few committed

pub returns-in-Err-Damaged-clause-none : goal.returns-in-Err-Damaged-clause-none
returns-in-Err-Damaged-clause-none g c lent told has few is settings committed =
    let old = c.args.self.now in
    let new = c.next.new.self in
    let lends = subst (λ (e : RecordsFault). Lends g.D.Disk c.next.new.disk old.records new lent (Err e)) c.in-Err-Damaged.field-0-is (c.in-Err-Damaged.ensures.lends lent told has) in
    let reaches = subst (λ (e : RecordsFault). ReadsOn old.records new (Err e)) c.in-Err-Damaged.field-0-is c.in-Err-Damaged.ensures.reaches in
    none_unfit g.D.Disk c.args.disk.now c.next.new.disk old.records new old.file c.in-Err-Damaged.field-0-0 lent settings told c.next.ensures.goes c.requires.under_way.file c.next.ensures.same c.requires.limit reaches.0 reaches.1 lends.0 lends.1 few committed
