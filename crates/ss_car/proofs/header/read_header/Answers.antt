use Rattle.std.proofs.Common.{subst, arith}
use Rattle.ss_car.specs.Car.{IsHeader}
use Rattle.ss_car.proofs.Headers.{header-found, header-none}
use Rattle.ss_car.proofs.header.read_header.Goals as goal

pub returns-then-version-eq-VERSION-clause-roots : goal.returns-then-version-eq-VERSION-clause-roots
returns-then-version-eq-VERSION-clause-roots c =
    subst (IsHeader c.args.header.now c.in-Some.roots) c.if-version-eq-VERSION.true
    (header-found c.args.header.now (λ i. omega (arith, c.type_inv.header i)) c.in_ok-roots.field-0 c.in_ok-roots.ensures c.in-Some.roots c.in-Some.version c.in-Some.is)

pub returns-else-version-eq-VERSION-clause-refused : goal.returns-else-version-eq-VERSION-clause-refused
returns-else-version-eq-VERSION-clause-refused c =
    (c.in-Some.roots, (header-found c.args.header.now (λ i. omega (arith, c.type_inv.header i)) c.in_ok-roots.field-0 c.in_ok-roots.ensures c.in-Some.roots c.in-Some.version c.in-Some.is, c.if-version-eq-VERSION.false))

pub returns-in-None-clause-refused : goal.returns-in-None-clause-refused
returns-in-None-clause-refused c = header-none c.args.header.now (omega arith) c.in_ok-roots.field-0 c.in_ok-roots.ensures c.in-None.is
