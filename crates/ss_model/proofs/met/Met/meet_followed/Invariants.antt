use Rattle.ss_chain.specs.Follows.{followed}
use Rattle.ss_model.proofs.Meeting.{Leaves}
use Rattle.ss_model.proofs.met.Met.meet_followed.Given as goal

abbrev pub invariant-loop-link : goal.invariant-loop-link
invariant-loop-link l = record {
  can : (goal.iterator-loop-link).can_next l.link-iterator;
  ends : (goal.iterator-loop-link).is_finite l.link-iterator;
  leaves : Leaves (followed l.edge l.cid l.block) l.link-iterator l.fn.self l.self;
}
