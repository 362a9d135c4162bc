use Rattle.std.proofs.Common.{◌∙◌, sym, ap, Ok, Err, arith}
use Rattle.std.proofs.lemmas.Bool.{eqb-true, eqb-false}
use Rattle.std.proofs.lemmas.Result.{err_from_is_err_and}
use Rattle.ss_cbor.proofs.Scanned.{scanned-fault, scanned-trailing, scanned-closed}
use Rattle.ss_cbor.proofs.scanner.links_of_item.Goals as goal

pub returns-in_err-rest : goal.returns-in_err-rest
returns-in_err-rest c =
    let p = err_from_is_err_and c.from_residual.result c.from_residual.ensures.1 in
    rw (p.1, p.2) (sym (scanned-fault c.args.bytes.now _ c.in_err-rest.ensures.value))

pub returns-then-not-is_empty : goal.returns-then-not-is_empty
returns-then-not-is_empty c =
    ap Err c.at.ensures ∙ sym (scanned-trailing c.args.bytes.now c.in_ok-rest.rest.now c.in_ok-rest.ensures.value (eqb-false _ _ (sym c.is_empty.ensures ∙ c.if-not-is_empty.true)))

pub returns : goal.returns
returns c =
    ap Ok c.of.ensures ∙ sym (scanned-closed c.args.bytes.now c.in_ok-rest.rest.now (λ i. omega (arith, c.type_inv.bytes i)) (omega arith) c.in_ok-rest.ensures.value (eqb-true _ _ (sym c.is_empty.ensures ∙ c.if-not-is_empty.false)))
