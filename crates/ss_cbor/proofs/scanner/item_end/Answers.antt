use Rattle.std.proofs.Common.{arith}
use Rattle.std.proofs.lemmas.Result.{err_from_is_err_and}
use Rattle.ss_cbor.proofs.Ends.{StillDue-start, StillDue-after, StillDue-fault, StillDue-none}
use Rattle.ss_cbor.proofs.scanner.item_end.Goals as goal

pub loop-due-init : goal.loop-due-init
loop-due-init c = StillDue-start c.args.bytes.now c.args.end (λ i. omega (arith, c.type_inv.bytes i))

pub returns-in_err-part-clause-value : goal.returns-in_err-part-clause-value
returns-in_err-part-clause-value c =
    let p = err_from_is_err_and c.from_residual.result c.from_residual.ensures.1 in
    rw (p.1, p.2) (StillDue-fault _ _ _ _ _ c.loop-due.invariant (omega arith) c.in_err-part.ensures.value)

pub loop-due-preserved : goal.loop-due-preserved
loop-due-preserved c =
    StillDue-after _ _ _ _ _ _ _ c.loop-due.invariant (omega arith) c.in_ok-part.ensures.value (omega (arith, c.in_ok-part.ensures.due, c.items_in.ensures))

pub returns-clause-value : goal.returns-clause-value
returns-clause-value c = StillDue-none _ _ _ _ c.loop-due.invariant c.loop-due-test.false
