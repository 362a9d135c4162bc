use Rattle.std.proofs.Common.{◌≡◌, subst}
use Rattle.ss_marks.specs.declared.row.Row.{Row}
use Rattle.ss_marks.specs.Marks.{MarkTable, row_of}
use Rattle.ss_marks.specs.Rows.{HasCid}
use Rattle.std.specs.Prelude.{ℕ, List, MatchOption}
use Rattle.ss_marks.proofs.Calls.{row_found}
use Rattle.ss_marks.proofs.marks.Marks.row.Goals as goal

pub returns : goal.returns
returns c =
    let cid = c.args.cid.now in
    let found = subst (λ (rows : List Row). MatchOption c.find.result ((row : ℕ) → HasCid rows row cid → ⊥) (λ row. HasCid rows row cid)) c.as_slice.ensures.value c.find.ensures in
    subst (λ (t : MarkTable). c.find.result ≡ row_of t cid) c.self.view_is
    (row_found c.self.inside.rows.items c.self.invariant.distinct cid c.find.result found)
