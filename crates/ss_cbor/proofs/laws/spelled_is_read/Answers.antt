use Rattle.std.proofs.Common.{arith}
use Rattle.ss_cbor.proofs.Fronts.{item_again}
use Rattle.ss_cbor.proofs.Parts.{part_again}
use Rattle.ss_cbor.proofs.laws.spelled_is_read.Goals as goal

pub returns-clause-part : goal.returns-clause-part
returns-clause-part c end front rest part fits is = part_again 0 end front rest part is (omega arith)

pub returns-clause-item : goal.returns-clause-item
returns-clause-item c = item_again
