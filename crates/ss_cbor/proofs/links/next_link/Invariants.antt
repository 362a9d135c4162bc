use Rattle.std.proofs.Common.{length}
use Rattle.ss_cbor.proofs.LinkRows.{StillLinked}
use Rattle.ss_cbor.proofs.links.next_link.Given as goal

abbrev pub invariant-loop-part : goal.invariant-loop-part
invariant-loop-part l = StillLinked l.bytes l.rest

abbrev pub decreases-loop-part : goal.decreases-loop-part
decreases-loop-part l = length l.rest
