use Rattle.std.specs.Prelude.{codes}
use Rattle.ss_script.specs.Text.{bytes_text}
use Rattle.ss_script.proofs.Parts.{cut, after}
use Rattle.ss_script.proofs.text.put_found.Goals as goal

pub returns-in_err-put : goal.returns-in_err-put
returns-in_err-put g c = cut _ (codes "found ") (bytes_text c.args.bytes.now) c.from_residual.ensures.0 (record { bytes = c.in_err-put.ensures.bytes; cause = c.in_err-put.ensures.cause })

pub returns : goal.returns
returns g c = after (codes "found ") (bytes_text c.args.bytes.now) (record { bytes = c.in_ok-put.ensures.bytes; cause = c.in_ok-put.ensures.cause }) c.put_bytes.ensures
