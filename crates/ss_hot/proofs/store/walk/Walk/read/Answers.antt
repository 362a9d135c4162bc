use Rattle.std.proofs.Common.{sym, subst, arith, refl}
use Rattle.std.specs.Prelude.{IsSome, IfSome, Option}
use Rattle.ss_records.specs.declared.places.PutBlocks.{PutBlocks}
use Rattle.ss_records.specs.Fields.{read_record}
use Rattle.ss_records.specs.Places.{ArePlaces, places_left}
use Rattle.ss_hot.proofs.PutReadings.{too_early, put_read}
use Rattle.ss_hot.proofs.store.walk.Walk.read.Goals as goal

pub returns-in-Ok-Some-clause-fits : goal.returns-in-Ok-Some-clause-fits
returns-in-Ok-Some-clause-fits c =
    let put = c.in-Ok-Some.ensures.kind.0 (subst (λ (o : Option PutBlocks). IsSome o) (sym c.in-Ok-Some.field-0-is) refl) in
    too_early c.args.self.now.count c.args.body.now (λ i. omega (arith, c.type_inv.body i)) put c.if-self-lt2.true

pub returns-in_ok-insert_all-in-Ok-Some-2-clause-fits : goal.returns-in_ok-insert_all-in-Ok-Some-2-clause-fits
returns-in_ok-insert_all-in-Ok-Some-2-clause-fits c =
    let put = c.in-Ok-Some.ensures.kind.0 (subst (λ (o : Option PutBlocks). IsSome o) (sym c.in-Ok-Some.field-0-is) refl) in
    let are = subst (λ (o : Option PutBlocks). IfSome o (λ b. ArePlaces (read_record c.args.body.now) (places_left b))) c.in-Ok-Some.field-0-is c.in-Ok-Some.ensures.places in
    put_read c.args.file c.args.at c.args.self.now (record c.args.self.now { index = c.insert_all.new.self }) c.args.body.now (places_left c.in-Ok-Some.field-0-0) (λ i. omega (arith, c.type_inv.body i)) put are (omega arith) (omega (arith, c.requires)) refl refl refl c.in_ok-insert_all-in-Ok-Some-2.field-0 c.in_ok-insert_all-in-Ok-Some-2.ensures.whole c.in_ok-insert_all-in-Ok-Some-2.ensures.places
