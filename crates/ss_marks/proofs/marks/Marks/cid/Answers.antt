use Rattle.std.proofs.Common.{◌≡◌, Some, sym, ap, subst, ◌∙◌, arith}
use Rattle.std.specs.Prelude.{option_map}
use Rattle.std.proofs.lemmas.List.{get_or_read}
use Rattle.ss_marks.specs.declared.row.Row.{Row}
use Rattle.ss_marks.specs.Marks.{Mark, MarkTable, row_of}
use Rattle.ss_marks.specs.Rows.{no_row}
use Rattle.ss_marks.proofs.Calls.{row_here, live_here, has_here, mark_of_has}
use Rattle.ss_marks.proofs.marks.Marks.cid.Goals as goal

pub index-requires : goal.index-requires
index-requires c =
    let here = row_here c.self.inside c.args.self.now c.self.view_is c.args.row c.requires in
    omega (arith, c.self.inside.rows.ok.0)

pub returns-clause-value : goal.returns-clause-value
returns-clause-value c =
    let rows = c.self.inside.rows.items in
    let here = row_here c.self.inside c.args.self.now c.self.view_is c.args.row c.requires in
    let live = live_here c.self.inside c.args.self.now c.self.view_is c.args.row c.requires in
    let cid = ap (λ (row : Row). row.cid) (get_or_read rows c.args.row _ here c.index.ensures no_row) in
    let at = mark_of_has rows c.self.invariant.distinct c.args.row c.index.result.now.cid (record { live = live.1.live; is = sym cid }) in
    subst (λ (x : MarkTable). row_of x c.index.result.now.cid ≡ Some c.args.row) c.self.view_is (ap (option_map (λ (mark : Mark). mark.row)) at.2)

pub returns-clause-only : goal.returns-clause-only
returns-clause-only c = λ cid is.
    let here = row_here c.self.inside c.args.self.now c.self.view_is c.args.row c.requires in
    let read = ap (λ (row : Row). row.cid) (get_or_read c.self.inside.rows.items c.args.row _ here c.index.ensures no_row) in
    sym (has_here c.self.inside c.args.self.now c.self.view_is c.args.row cid is).is ∙ sym read
