use Rattle.ss_model.proofs.Meeting.{meets_new}
use Rattle.ss_model.proofs.met.Met.meet.Goals as goal

pub returns-in_ok-push : goal.returns-in_ok-push
returns-in_ok-push c = meets_new c.args.cid c.args.self.now (record { cids = c.insert.new.self; waiting = c.push.new.self }) c.in_ok-insert.ensures.updates.0 (rw c.if-branch.true at c.in_ok-insert.ensures.len) c.in_ok-push.ensures.items
