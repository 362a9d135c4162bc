use Rattle.std.proofs.lemmas.Result.{err_from_is_err_and}
use Rattle.ss_car.proofs.Bodies.{section-unframed, section-fault}
use Rattle.ss_car.proofs.section.next_section.Goals as goal

pub returns-in_err-body-clause-refused : goal.returns-in_err-body-clause-refused
returns-in_err-body-clause-refused g c =
    let p = err_from_is_err_and c.from_residual.result c.from_residual.ensures.1 in
    rw (p.1, p.2) (section-unframed _ _ c.in_err-body.ensures.refused)

pub returns-in_err-cid-clause-refused : goal.returns-in_err-cid-clause-refused
returns-in_err-cid-clause-refused g c =
    let p = err_from_is_err_and c.from_residual-in_err-cid.result c.from_residual-in_err-cid.ensures.1 in
    let is = c.in_err-cid.ensures.refused in
    rw (p.1, p.2) (section-fault _ _ _ c.in_ok-body.ensures.taken c.in_ok-body.ensures.count.1 _ is)
