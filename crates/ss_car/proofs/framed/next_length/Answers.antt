use Rattle.std.proofs.Common.{arith, ◌∙◌}
use Rattle.ss_car.proofs.Lengths.{byte-taken, none-taken, length-cut, length-long, length-byte, length-more, refused-whole}
use Rattle.ss_car.proofs.framed.next_length.Goals as goal

pub returns-in_default-clause-refused : goal.returns-in_default-clause-refused
returns-in_default-clause-refused g c =
    let none = none-taken _ _ _ c.in_default.is c.in_ok-byte.ensures.taken in
    length-cut _ _ _ _ c.loop-i.invariant.0 _ c.loop-i-test.true none.0 none.1

pub returns-then-byte-lt128-clause-refused : goal.returns-then-byte-lt128-clause-refused
returns-then-byte-lt128-clause-refused g c =
    let taken = byte-taken _ _ _ _ c.in-Some.is c.in_ok-byte.ensures.taken in
    refused-whole _ _ _ _ (length-byte _ _ _ _ c.loop-i.invariant.0 _ _ c.loop-i-test.true taken) c.length_of.ensures.refused

pub loop-i-preserved : goal.loop-i-preserved
loop-i-preserved g c =
    let taken = byte-taken _ _ _ _ c.in-Some.is c.in_ok-byte.ensures.taken in
    (length-more _ _ _ _ c.loop-i.invariant.0 _ _ c.loop-i-test.true (omega arith) taken, c.in_ok-byte.ensures.cause.kept ∙ c.loop-i.invariant.1, c.in_ok-byte.ensures.place ∙ c.loop-i.invariant.2)

pub returns-clause-refused : goal.returns-clause-refused
returns-clause-refused g c = length-long _ _ _ _ c.loop-i.invariant.0 (omega arith)
