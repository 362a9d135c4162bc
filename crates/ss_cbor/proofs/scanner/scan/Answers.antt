use Rattle.std.proofs.Common.{arith}
use Rattle.ss_cbor.proofs.Scanned.{accepts, refuses, few}
use Rattle.ss_cbor.proofs.scanner.scan.Goals as goal

pub returns-clause-accepts : goal.returns-clause-accepts
returns-clause-accepts c = accepts c.args.bytes.now _ (λ i. omega (arith, c.type_inv.bytes i)) (omega arith) c.links_of_item.ensures

pub returns-clause-refuses : goal.returns-clause-refuses
returns-clause-refuses c = refuses c.args.bytes.now _ (λ i. omega (arith, c.type_inv.bytes i)) (omega arith) c.links_of_item.ensures

pub returns-clause-few : goal.returns-clause-few
returns-clause-few c = few c.args.bytes.now _ (λ i. omega (arith, c.type_inv.bytes i)) (omega arith) c.links_of_item.ensures
