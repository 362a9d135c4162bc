use Rattle.std.proofs.Common.{drop}
use Rattle.ss_model.proofs.Meeting.{Leaves}
use Rattle.ss_model.proofs.met.Met.meet_each.Given as goal

abbrev pub invariant-loop-cid : goal.invariant-loop-cid
invariant-loop-cid l = Leaves l.cids (drop l.cid-index l.cids) l.fn.self l.self
