use Rattle.std.proofs.Common.{◌<◌, length, get_or, set, ap, ◌∙◌, arith}
use Rattle.std.proofs.lemmas.List.{get_or_default}
use Rattle.std.proofs.lemmas.List.Edits.{map_over_more}
use Rattle.ss_marks.specs.Rows.{whitened_row}
use Rattle.ss_marks.proofs.row.whiten.Goals as goal

pub loop-row-preserved : goal.loop-row-preserved
loop-row-preserved c =
    let ys = c.loop-row.rows in
    let i = c.loop-row.row-index in
    let x = get_or ys i c.row-item.result in
    let in' : i < length ys = omega (arith, c.loop-row.auto.rows, c.loop-row-test.true) in
    ap (λ o. set ys i (record { cid = x.cid; colour = o })) c.whitened-row.ensures
    ∙ map_over_more whitened_row c.args.rows.now ys i x c.loop-row-test.true c.loop-row.invariant (get_or_default ys i c.row-item.result x in')
