use Rattle.std.proofs.Common.{◌≡◌, Err, arith}
use Rattle.std.proofs.lemmas.Result.{err_from_is_err_and}
use Rattle.ss_import.proofs.Steps.{takes_some, goes_on, take_ended, was_read, last_ended, read_refused}
use Rattle.ss_import.proofs.importer.Importer.step.Goals as goal

pub returns-in_err-take-in-Ok-Some-clause-step : goal.returns-in_err-take-in-Ok-Some-clause-step
returns-in_err-take-in-Ok-Some-clause-step g c input was r =
    let found = rw c.in-Ok-Some.field-0-is at c.in-Ok-Some.ensures.found in
    let fault = err_from_is_err_and c.from_residual.result c.from_residual.ensures.1 in
    let is : c.from_residual.result ≡ Err c.in_err-take-in-Ok-Some.field-0.0 = cc (fault.1, fault.2) in
    rw is (take_ended g.S.Source input was c.args.self.now c.take.new.self c.args.reader.now c.next.new.self r c.in-Ok-Some.cid c.in-Ok-Some.block found.0 found.1 c.taken-offset.result c.taken.result c.taken-offset.ensures c.taken.ensures c.in_err-take-in-Ok-Some.field-0.0 (c.in_err-take-in-Ok-Some.ensures.takes was r.sections r.left r.putting r.holds))

pub returns-in_err-put-in-Ok-None-clause-step : goal.returns-in_err-put-in-Ok-None-clause-step
returns-in_err-put-in-Ok-None-clause-step g c input was r =
    let fault = err_from_is_err_and c.from_residual-in_err-put-in-Ok-None.result c.from_residual-in_err-put-in-Ok-None.ensures.1 in
    let is : c.from_residual-in_err-put-in-Ok-None.result ≡ Err c.in_err-put-in-Ok-None.field-0.0 = cc (fault.1, fault.2) in
    rw is (last_ended g.S.Source input was c.args.self.now c.put.new.self c.args.reader.now c.next.new.self r c.in_err-put-in-Ok-None.field-0.0 (c.in_err-put-in-Ok-None.ensures.puts was r.sections r.left r.putting r.holds))

pub returns-in_ok-take-in-Ok-Some-clause-between : goal.returns-in_ok-take-in-Ok-Some-clause-between
returns-in_ok-take-in-Ok-Some-clause-between g c =
    let found = rw c.in-Ok-Some.field-0-is at c.in-Ok-Some.ensures.found in
    let some = takes_some c.in-Ok-Some.cid c.in-Ok-Some.block in
    record {
      ready = c.in_ok-take-in-Ok-Some.ensures.continues;
      fresh = c.in-Ok-Some.ensures.fresh;
      count = omega (arith, found.1, some, c.in_ok-take-in-Ok-Some.ensures.count, c.requires.count);
      short = omega (arith, c.taken.ensures, c.in_ok-take-in-Ok-Some.ensures.short);
    }

pub returns-in_ok-put-in-Ok-None-clause-between : goal.returns-in_ok-put-in-Ok-None-clause-between
returns-in_ok-put-in-Ok-None-clause-between g c =
    let found = rw c.in-Ok-None.field-0-is at c.in-Ok-None.ensures.found in
    record {
      ready = c.in_ok-put-in-Ok-None.ensures.continues;
      fresh = c.in-Ok-None.ensures.fresh;
      count = omega (arith, found.3, c.put.ensures.count, c.requires.count);
      short = omega (arith, found.3, c.requires.short);
    }

pub returns-in_ok-take-in-Ok-Some-clause-more : goal.returns-in_ok-take-in-Ok-Some-clause-more
returns-in_ok-take-in-Ok-Some-clause-more g c _ =
    let found = rw c.in-Ok-Some.field-0-is at c.in-Ok-Some.ensures.found in
    omega (arith, found.1, takes_some c.in-Ok-Some.cid c.in-Ok-Some.block)

pub returns-in_ok-take-in-Ok-Some-clause-step : goal.returns-in_ok-take-in-Ok-Some-clause-step
returns-in_ok-take-in-Ok-Some-clause-step g c input was r =
    let found = rw c.in-Ok-Some.field-0-is at c.in-Ok-Some.ensures.found in
    let took = rw c.taken-offset.ensures at (c.in_ok-take-in-Ok-Some.ensures.takes was r.sections r.left r.putting r.holds) in
    goes_on g.S.Source input was c.args.self.now c.take.new.self c.args.reader.now c.next.new.self r c.in-Ok-Some.cid c.in-Ok-Some.block found.0 found.1 c.next.ensures.roots c.in_ok-take-in-Ok-Some.ensures.count (omega (arith, c.taken.ensures, c.in_ok-take-in-Ok-Some.ensures.short)) took

pub returns-in_ok-put-in-Ok-None-clause-step : goal.returns-in_ok-put-in-Ok-None-clause-step
returns-in_ok-put-in-Ok-None-clause-step g c input was r =
    let found = rw c.in-Ok-None.field-0-is at c.in-Ok-None.ensures.found in
    was_read g.S.Source input was c.args.self.now c.put.new.self c.args.reader.now c.next.new.self r found.0 c.next.ensures.roots c.put.ensures.count (c.in_ok-put-in-Ok-None.ensures.puts was r.sections r.left r.putting r.holds)

pub returns-in-Err-clause-step : goal.returns-in-Err-clause-step
returns-in-Err-clause-step g c input was r =
    let refused = c.in-Err.ensures.refused c.requires.fresh in
    read_refused g.S.Source input was c.args.self.now c.refuse.new.self c.args.reader.now c.next.new.self r c.in-Err.refusal c.refuse.result refused.0 refused.1 (c.refuse.ensures.refuses was r.sections r.left r.putting r.holds)
