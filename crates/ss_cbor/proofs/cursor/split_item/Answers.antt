use Rattle.std.proofs.Common.{arith}
use Rattle.std.proofs.lemmas.Result.{err_from_is_err_and}
use Rattle.ss_cbor.proofs.Fronts.{item_spelled, item_refused, item_read, item_fault}
use Rattle.ss_cbor.proofs.cursor.split_item.Goals as goal

pub returns-in_err-rest-clause-value : goal.returns-in_err-rest-clause-value
returns-in_err-rest-clause-value c =
    let p = err_from_is_err_and c.from_residual.result c.from_residual.ensures.1 in
    rw (p.1, p.2) (item_fault c.args.end c.args.bytes.now (λ i. omega (arith, c.type_inv.bytes i)) _ c.in_err-rest.ensures.value)

pub returns-in_err-rest-clause-refused : goal.returns-in_err-rest-clause-refused
returns-in_err-rest-clause-refused c =
    let p = err_from_is_err_and c.from_residual.result c.from_residual.ensures.1 in
    rw (p.1, p.2) (item_refused c.args.end c.args.bytes.now (λ i. omega (arith, c.type_inv.bytes i)) _ c.in_err-rest.ensures.value)

pub returns-clause-value : goal.returns-clause-value
returns-clause-value c =
    rw c.split_at.ensures.front (item_read c.args.end c.args.bytes.now (λ i. omega (arith, c.type_inv.bytes i)) _ c.in_ok-rest.ensures.value)

pub returns-clause-item : goal.returns-clause-item
returns-clause-item c =
    rw c.split_at.ensures.front (item_spelled c.args.end c.args.bytes.now (λ i. omega (arith, c.type_inv.bytes i)) _ c.in_ok-rest.ensures.value)
