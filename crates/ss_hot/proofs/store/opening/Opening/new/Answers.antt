use Rattle.std.proofs.Common.{refl, arith}
use Rattle.ss_hot.proofs.store.opening.Opening.new.Goals as goal

pub returns-clause-start : goal.returns-clause-start
returns-clause-start g c =
    let start = c.in_ok-records.ensures.start in
    let none = c.new.ensures.gathers 0 in record {
      file = refl;
      at = start.2;
      count = none.count;
      limit = start.1;
      under_way = record { file = start.0; known = c.in_ok-records.ensures.known; within = omega (arith, start.1, start.2); limit = omega (arith, start.1); count = omega (arith, none.count, start.2) };
      before = c.new.ensures.before c.args.file 0;
      read = λ told. record { lent = c.in_ok-records.ensures.lent told; gathers = c.new.ensures.gathers c.args.file };
    }
