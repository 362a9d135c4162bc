use Rattle.std.proofs.Common.{◌≡◌, ◌+◌, length, take, is_some, sym, ap, subst, ◌∙◌}
use Rattle.std.proofs.lemmas.List.{get_or_default}
use Rattle.ss_marks.specs.declared.row.Row.{Row}
use Rattle.ss_marks.specs.declared.index.Index.{Index}
use Rattle.ss_marks.specs.Rows.{no_row, row_at}
use Rattle.ss_marks.specs.Index.{IsChained, Indexes}
use Rattle.ss_marks.proofs.Rows.{none_from_is_some}
use Rattle.ss_marks.proofs.Prefixes.{one_left_out, one_vacant}
use Rattle.ss_marks.proofs.index.Index.build.Goals as goal
use Rattle.ss_marks.proofs.index.Index.build.Goals.{then-is_some, else-is_some}

pub insert-requires-clause-index : goal.insert-requires-clause-index
insert-requires-clause-index c =
    let index = c.loop-i.index in
    subst (λ f. IsChained f index.heads.items index.below.items) (one_left_out c.args.rows.now c.loop-i.i (length index.heads.items)) c.loop-i.invariant.2

pub loop-i-preserved : goal.loop-i-preserved
loop-i-preserved c =
    let rows = c.args.rows.now in
    let i = c.loop-i.i in
    let old = c.loop-i.index in
    let in' = c.loop-i-test.true in
    let P : Index → Type 0 = λ index. (length index.heads.items ≡ c.args.slots) × (length index.below.items ≡ c.args.slots) × Indexes (take (i + 1) rows) index in
    elim c.if-is_some.branch [
      | then-is_some w ↦ subst P (sym w.index-is) (w.insert.ensures.slots ∙ c.loop-i.invariant.0, w.insert.ensures.below ∙ c.loop-i.invariant.1, w.insert.ensures.index)
      | else-is_some w ↦ let vacant = none_from_is_some (row_at rows i).colour (ap (λ (row : Row). is_some row.colour) (get_or_default rows i no_row c.index-rows-i.result in') ∙ sym c.is_some.ensures ∙ w.if-is_some.false) in
          subst P (sym w.index-is) (
            c.loop-i.invariant.0,
            c.loop-i.invariant.1,
            subst (λ f. IsChained f old.heads.items old.below.items) (one_vacant rows i (length old.heads.items) vacant) c.loop-i.invariant.2,
          )
    ]
