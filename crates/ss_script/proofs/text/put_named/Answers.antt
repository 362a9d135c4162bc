use Rattle.ss_script.specs.Text.{number_text}
use Rattle.ss_script.proofs.Parts.{cut, after}
use Rattle.ss_script.proofs.text.put_named.Goals as goal

pub returns-in_err-put : goal.returns-in_err-put
returns-in_err-put g c = cut _ c.args.name.now (number_text c.args.number) c.from_residual.ensures.0 (record { bytes = c.in_err-put.ensures.bytes; cause = c.in_err-put.ensures.cause })

pub returns : goal.returns
returns g c = after c.args.name.now (number_text c.args.number) (record { bytes = c.in_ok-put.ensures.bytes; cause = c.in_ok-put.ensures.cause }) c.put_number.ensures
