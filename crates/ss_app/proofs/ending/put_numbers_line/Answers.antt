use Rattle.std.proofs.Common.{[], ◌∷◌, ◌++◌, append_assoc}
use Rattle.ss_script.specs.Text.{numbers_text}
use Rattle.ss_script.proofs.Parts.{cut, after}
use Rattle.ss_app.proofs.ending.put_numbers_line.Goals as goal

pub returns-in_err-put_numbers : goal.returns-in_err-put_numbers
returns-in_err-put_numbers g c = rw (← append_assoc) (cut _ (c.args.label.now ++ numbers_text c.args.numbers.now) (10 ∷ []) c.from_residual.ensures.0 c.in_err-put_numbers.ensures)

pub returns : goal.returns
returns g c = rw (← append_assoc) (after (c.args.label.now ++ numbers_text c.args.numbers.now) (10 ∷ []) c.in_ok-put_numbers.ensures (record { bytes = c.put.ensures.bytes; cause = c.put.ensures.cause }))
