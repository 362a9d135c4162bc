use Rattle.std.proofs.Common.{ap, subst, ◌∙◌, arith}
use Rattle.ss_records.specs.Fields.{read_record, Answers}
use Rattle.ss_records.proofs.Records.{read_again, is_found}
use Rattle.ss_records.proofs.reading.decode.Goals as goal

pub returns-clause-found : goal.returns-clause-found
returns-clause-found c = is_found c.args.body.now c.read.result (λ i. omega (arith, c.type_inv.body i)) c.read.ensures

pub returns-clause-only : goal.returns-clause-only
returns-clause-only c = λ r is fits e. subst (Answers c.read.result) (ap read_record e ∙ read_again r is fits) c.read.ensures
