use Rattle.std.proofs.Common.{length}
use Rattle.ss_marks.proofs.Walks.{HasMissed}
use Rattle.ss_marks.proofs.index.Index.find.Given as goal

abbrev pub invariant-loop-last : goal.invariant-loop-last
invariant-loop-last l = HasMissed l.rows l.cid (length l.self.heads.items) (length l.self.below.items) l.last

abbrev pub decreases-loop-last : goal.decreases-loop-last
decreases-loop-last l = l.last
