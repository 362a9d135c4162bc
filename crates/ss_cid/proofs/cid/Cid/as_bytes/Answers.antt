use Rattle.std.proofs.Common.{subst}
use Rattle.ss_cid.specs.Cid.{IsCid}
use Rattle.ss_cid.proofs.Grammar.{IsCid-length}
use Rattle.ss_cid.proofs.cid.Cid.as_bytes.Goals as goal

pub returns-clause-bounds : goal.returns-clause-bounds
returns-clause-bounds c = IsCid-length c.args.self.now (subst IsCid c.self.view_is c.self.invariant)
