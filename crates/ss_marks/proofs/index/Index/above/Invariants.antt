use Rattle.ss_marks.proofs.Walks.{HasCome}
use Rattle.ss_marks.proofs.index.Index.above.Given as goal

abbrev pub invariant-loop-last : goal.invariant-loop-last
invariant-loop-last l = HasCome l.self.heads.items l.self.below.items l.slot l.row l.above l.last

abbrev pub decreases-loop-last : goal.decreases-loop-last
decreases-loop-last l = l.last
