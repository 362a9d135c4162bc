use Rattle.ss_script.specs.Text.{numbers_text}
use Rattle.ss_script.proofs.Parts.{cut, after, cut_at}
use Rattle.ss_script.proofs.numbers.put_numbers.Goals as goal

pub returns-in_err-put : goal.returns-in_err-put
returns-in_err-put g c = cut _ c.args.label.now (numbers_text c.args.numbers.now) c.from_residual.ensures.0 (record { bytes = c.in_err-put.ensures.bytes; cause = c.in_err-put.ensures.cause })

pub returns-in_err-put_number : goal.returns-in_err-put_number
returns-in_err-put_number g c =
    rw (cut_at c.args.label.now c.args.numbers.now c.loop-number.number-index c.loop-number-test.true)
    (after _ _ c.loop-number.invariant (cut _ _ _ c.from_residual-in_err-put_number.ensures.0 c.in_err-put_number.ensures))
