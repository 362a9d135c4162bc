use Rattle.std.proofs.Common.{sym, ap, ◌∙◌, arith}
use Rattle.ss_script.specs.Fields.{is_number}
use Rattle.ss_app.proofs.WordNumbers.{number_beyond}
use Rattle.ss_app.proofs.words.decimal.Goals as goal

pub returns-in_err-number-clause-value : goal.returns-in_err-number-clause-value
returns-in_err-number-clause-value c =
    let none = sym c.ok.ensures.value ∙ c.in_err-number.was in
    let digits = ap is_number (sym c.as_bytes.ensures.value) ∙ sym c.is_number.ensures ∙ c.if-not-is_number.false in
    c.from_residual.ensures ∙ number_beyond c.args.least c.args.most c.args.value.now c.parse.result digits c.parse.ensures.value.0 none (omega arith)
