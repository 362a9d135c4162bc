use Rattle.std.proofs.Common.{sym, ap, ◌∙◌}
use Rattle.std.specs.Option.{ok_or}
use Rattle.ss_script.specs.declared.fault.ScriptKind.TheVariants.{BadNumber}
use Rattle.ss_script.proofs.Decimals.{number_text, number_parsed}
use Rattle.ss_script.proofs.field.read_number.Goals as goal

pub returns-in-Ok : goal.returns-in-Ok
returns-in-Ok c =
    let parses = rw c.in-Ok.ensures.cases.0 at c.parse.ensures.value.0 in
    c.ok_or.ensures.value ∙ ap (λ o. ok_or o BadNumber) c.ok.ensures.value ∙ number_parsed _ _ (sym c.if-not-is_number.ensures) parses

pub returns-in-Err : goal.returns-in-Err
returns-in-Err c = absurd (c.in-Err.ensures.cases.0 (number_text _ (sym c.if-not-is_number.ensures)))
