use Rattle.std.proofs.Common.{sym, ◌∙◌}
use Rattle.ss_meta.proofs.Walks.{started, no_plan}
use Rattle.ss_meta.proofs.log.walk.Walk.start.Goals as goal

pub returns : goal.returns
returns c = started c.args.self.now c.args.edge c.args.roots c.new.result c.requires (no_plan c.args.self.now.plan (sym c.is_some.ensures ∙ c.if-is_some.false)) c.new.ensures
