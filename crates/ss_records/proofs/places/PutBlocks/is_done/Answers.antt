use Rattle.ss_records.proofs.Placed.{done_at_end, not_done}
use Rattle.ss_records.proofs.places.PutBlocks.is_done.Goals as goal

pub returns-then-self-eq0 : goal.returns-then-self-eq0
returns-then-self-eq0 c = rw c.is_empty.ensures (done_at_end c.args.self.now.end c.args.self.now.due c.args.self.now.rest.now c.if-self-eq0.true)

pub returns-else-self-eq0 : goal.returns-else-self-eq0
returns-else-self-eq0 c = not_done c.args.self.now.end c.args.self.now.due c.args.self.now.rest.now c.if-self-eq0.false
