use Rattle.std.proofs.Common.{arith}
use Rattle.std.proofs.lemmas.Result.{err_from_is_err_and}
use Rattle.ss_car.proofs.Lengths.{unframed-length, unframed-large, unframed-body}
use Rattle.ss_car.proofs.framed.next_framed.Goals as goal

pub returns-in_err-len-clause-refused : goal.returns-in_err-len-clause-refused
returns-in_err-len-clause-refused g c =
    let p = err_from_is_err_and c.from_residual.result c.from_residual.ensures.1 in
    rw (p.1, p.2) (unframed-length _ _ _ c.in_err-len.ensures.refused)

pub returns-then-len-limit-clause-refused : goal.returns-then-len-limit-clause-refused
returns-then-len-limit-clause-refused g c = unframed-large _ _ _ _ c.in_ok-len.ensures.taken c.in_ok-len.ensures.count.0 c.if-len-limit.true

pub returns-in_err-body-clause-refused : goal.returns-in_err-body-clause-refused
returns-in_err-body-clause-refused g c =
    let p = err_from_is_err_and c.from_residual-in_err-body.result c.from_residual-in_err-body.ensures.1 in
    rw (p.1, p.2) (unframed-body _ _ _ _ c.in_ok-len.ensures.taken (omega arith) _ c.in_err-body.ensures.refused)
