use Rattle.std.proofs.Common.{ℕ, List, subst}
use Rattle.std.proofs.lemmas.Result.{err_from_is_err_and}
use Rattle.ss_car.specs.Bodies.{HeaderFault}
use Rattle.ss_car.proofs.Bodies.{start-unframed, start-fault}
use Rattle.ss_car.proofs.section.next_start.Goals as goal

pub returns-in_err-header-clause-refused : goal.returns-in_err-header-clause-refused
returns-in_err-header-clause-refused g c =
    let p = err_from_is_err_and c.from_residual.result c.from_residual.ensures.1 in
    rw (p.1, p.2) (start-unframed _ _ c.in_err-header.ensures.refused)

pub returns-in_err-roots-clause-refused : goal.returns-in_err-roots-clause-refused
returns-in_err-roots-clause-refused g c =
    let p = err_from_is_err_and c.from_residual-in_err-roots.result c.from_residual-in_err-roots.ensures.1 in
    let is = subst (λ (b : List ℕ). HeaderFault b c.in_err-roots.field-0.0) c.deref.ensures.value c.in_err-roots.ensures.refused in
    rw (p.1, p.2) (start-fault _ _ _ c.in_ok-header.ensures.taken c.in_ok-header.ensures.count.1 _ is)
