use Rattle.std.proofs.Common.{length}
use Rattle.ss_cbor.proofs.Ends.{StillDue}
use Rattle.ss_cbor.proofs.scanner.item_end.Given as goal

abbrev pub invariant-loop-due : goal.invariant-loop-due
invariant-loop-due l = StillDue l.bytes l.rest l.end l.due

abbrev pub decreases-loop-due : goal.decreases-loop-due
decreases-loop-due l = length l.rest
