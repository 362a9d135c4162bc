use Rattle.std.proofs.Common.{◌≡◌, ◌∙◌, sym, subst}
use Rattle.std.specs.Prelude.{◌↔◌}
use Rattle.ss_marks.specs.declared.colour.Colour.TheVariants.{Grey, Out}
use Rattle.ss_marks.specs.Marks.{MarkTable, NoneIs}
use Rattle.ss_marks.specs.Rows.{marks_of}
use Rattle.ss_marks.proofs.Colours.{none_of_count, count_of_none}
use Rattle.ss_marks.proofs.marks.Marks.counts.Goals as goal

pub returns-clause-none_grey : goal.returns-clause-none_grey
returns-clause-none_grey c =
    let marks = marks_of c.self.inside.rows.items in
    let count = c.len.ensures ∙ c.self.invariant.grey in
    subst (λ (t : MarkTable). (c.len.result ≡ 0) ↔ NoneIs Grey t) c.self.view_is
    (λ e. none_of_count Grey marks (sym count ∙ e), λ none. count ∙ count_of_none Grey marks none)

pub returns-clause-none_out : goal.returns-clause-none_out
returns-clause-none_out c =
    let marks = marks_of c.self.inside.rows.items in
    let count = c.self.invariant.out in
    subst (λ (t : MarkTable). (c.self.inside.out ≡ 0) ↔ NoneIs Out t) c.self.view_is
    (λ e. none_of_count Out marks (sym count ∙ e), λ none. count ∙ count_of_none Out marks none)
