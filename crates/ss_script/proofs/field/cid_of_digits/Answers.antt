use Rattle.std.proofs.Common.{sym, arith}
use Rattle.ss_script.proofs.CidDigits.{digits_too_long}
use Rattle.ss_script.proofs.field.cid_of_digits.Goals as goal

pub returns-then-len-gt-CID_BYTES : goal.returns-then-len-gt-CID_BYTES
returns-then-len-gt-CID_BYTES c = sym (digits_too_long c.args.field.now (omega (arith, c.if-len-gt-CID_BYTES.true)))
