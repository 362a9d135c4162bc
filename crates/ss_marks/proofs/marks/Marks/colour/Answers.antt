use Rattle.std.proofs.Common.{◌≡◌, Some, None, sym, ap, subst, ◌∙◌, arith}
use Rattle.std.specs.Prelude.{option_map}
use Rattle.std.proofs.lemmas.List.{get_or_read}
use Rattle.std.proofs.lemmas.Bool.{true≢false}
use Rattle.std.specs.Prelude.{is_some}
use Rattle.ss_marks.specs.declared.row.Row.{Row}
use Rattle.ss_marks.specs.Marks.{Mark, MarkTable, colour_of}
use Rattle.ss_marks.specs.Rows.{no_row}
use Rattle.ss_marks.proofs.Calls.{row_here, live_here, has_here, mark_of_has}
use Rattle.ss_marks.proofs.marks.Marks.colour.Goals as goal

pub index-requires : goal.index-requires
index-requires c =
    let here = row_here c.self.inside c.args.self.now c.self.view_is c.args.row c.requires in
    omega (arith, c.self.inside.rows.ok.0)

pub unreachable-requires : goal.unreachable-requires
unreachable-requires c =
    let rows = c.self.inside.rows.items in
    let here = row_here c.self.inside c.args.self.now c.self.view_is c.args.row c.requires in
    let live = (live_here c.self.inside c.args.self.now c.self.view_is c.args.row c.requires).1.live in
    true≢false (sym live ∙ ap (λ (row : Row). is_some row.colour) (sym (get_or_read rows c.args.row _ here c.index.ensures no_row)) ∙ ap is_some c.in-None.is)

pub returns : goal.returns
returns c = λ cid is.
    let rows = c.self.inside.rows.items in
    let t = c.args.self.now in
    let here = row_here c.self.inside t c.self.view_is c.args.row c.requires in
    let at = mark_of_has rows c.self.invariant.distinct c.args.row cid (has_here c.self.inside t c.self.view_is c.args.row cid is) in
    subst (λ (x : MarkTable). colour_of x cid ≡ Some c.in-Some.colour) c.self.view_is
    (ap (option_map (λ (mark : Mark). mark.colour)) at.2 ∙ sym at.1 ∙ ap (λ (row : Row). row.colour) (sym (get_or_read rows c.args.row _ here c.index.ensures no_row)) ∙ c.in-Some.is)
