use Rattle.std.proofs.Common.{ℕ, List, ◌∙◌, ap}
use Rattle.std.specs.Prelude.{slice_range}
use Rattle.ss_gatelog.specs.Gate.{Reader}
use Rattle.ss_gatelog.proofs.Pieces.{body_range}
use Rattle.ss_gatelog.proofs.records.Records.body.Goals as goal

pub returns : goal.returns
returns c =
    let n = c.self.inside.lent in
    ap (λ (l : List ℕ). slice_range l c.min-start.result n) c.bytes.ensures ∙ ap (λ (k : ℕ). slice_range c.self.inside.window k n) c.min-start.ensures ∙ body_range c.self.inside.window n ∙ ap (λ (r : Reader). r.body) c.self.view_is
