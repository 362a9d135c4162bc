use Rattle.std.proofs.Common.{arith}
use Rattle.ss_io.proofs.Buffers.{IsAtEnd-before_none, none_read}
use Rattle.ss_io.proofs.buffered.Buffered.fill.Goals as goal

pub returns-clause-ended : goal.returns-clause-ended
returns-clause-ended g c none =
    let bound = c.in_ok-self.ensures.bound in
    IsAtEnd-before_none _ _ none (c.in_ok-self.ensures.bytes.1 (none_read _ _ _ _ bound.0 (grind arith) none) (grind arith))
