use Rattle.std.proofs.Common.{◌∙◌, sym}
use Rattle.ss_marks.proofs.Calls.{has_here}
use Rattle.ss_marks.proofs.marks.Marks.each_row_has_one_cid.Goals as goal

pub returns : goal.returns
returns c = λ a b row in_a in_b.
    sym (has_here c.self.inside c.args.self.now c.self.view_is row a in_a).is ∙ (has_here c.self.inside c.args.self.now c.self.view_is row b in_b).is
