use Rattle.std.proofs.Common.{◌+◌, ◌*◌}
use Rattle.std.proofs.lemmas.Nat.{pow_pos}
use Rattle.ss_amt.proofs.Widths.{no_quotient}
use Rattle.ss_amt.proofs.shape.Shape.has.Goals as goal

pub returns : goal.returns
returns c = no_quotient c.args.index _ (pow_pos (c.args.self.now.width * (c.args.self.now.height + 1)))
