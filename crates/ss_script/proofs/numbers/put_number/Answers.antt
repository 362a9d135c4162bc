use Rattle.std.proofs.Common.{[], ◌∷◌}
use Rattle.std.specs.Fmt.{decimal}
use Rattle.ss_script.proofs.Parts.{after, cut}
use Rattle.ss_script.proofs.numbers.put_number.Goals as goal

pub returns-in_err-put : goal.returns-in_err-put
returns-in_err-put g c = cut _ (32 ∷ []) (decimal c.args.number) c.from_residual.ensures.0 (record { bytes = c.in_err-put.ensures.bytes; cause = c.in_err-put.ensures.cause })

pub returns : goal.returns
returns g c = after (32 ∷ []) (decimal c.args.number) (record { bytes = c.in_ok-put.ensures.bytes; cause = c.in_ok-put.ensures.cause }) c.put_decimal.ensures
