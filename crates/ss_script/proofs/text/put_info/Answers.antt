use Rattle.std.proofs.Common.{◌++◌}
use Rattle.std.specs.Prelude.{codes}
use Rattle.ss_script.specs.Text.{named_text, height_text, flag_number}
use Rattle.ss_script.proofs.Parts.{cut, after}
use Rattle.ss_script.proofs.text.put_info.Goals as goal

pub returns-in_err-put : goal.returns-in_err-put
returns-in_err-put g c =
    let i = c.args.info.now in
    (cut _ (codes "info height") (height_text i.height ++ (named_text (codes " base") i.base ++ (named_text (codes " ended") i.ended ++ (named_text (codes " hot") i.hot ++ (named_text (codes " kept") i.kept ++ (named_text (codes " views") i.views ++ (named_text (codes " running") (flag_number i.running) ++ (named_text (codes " due") (flag_number i.due))))))))) c.from_residual.ensures.0 (record { bytes = c.in_err-put.ensures.bytes; cause = c.in_err-put.ensures.cause }))

pub returns-in_err-put_height : goal.returns-in_err-put_height
returns-in_err-put_height g c =
    let i = c.args.info.now in
    (after (codes "info height") _ (record { bytes = c.in_ok-put.ensures.bytes; cause = c.in_ok-put.ensures.cause })
    (cut _ (height_text i.height) (named_text (codes " base") i.base ++ (named_text (codes " ended") i.ended ++ (named_text (codes " hot") i.hot ++ (named_text (codes " kept") i.kept ++ (named_text (codes " views") i.views ++ (named_text (codes " running") (flag_number i.running) ++ (named_text (codes " due") (flag_number i.due)))))))) c.from_residual-in_err-put_height.ensures.0 c.in_err-put_height.ensures))

pub returns-in_err-put_named : goal.returns-in_err-put_named
returns-in_err-put_named g c =
    let i = c.args.info.now in
    (after (codes "info height") _ (record { bytes = c.in_ok-put.ensures.bytes; cause = c.in_ok-put.ensures.cause })
    (after (height_text i.height) _ c.in_ok-put_height.ensures
    (cut _ (named_text (codes " base") i.base) (named_text (codes " ended") i.ended ++ (named_text (codes " hot") i.hot ++ (named_text (codes " kept") i.kept ++ (named_text (codes " views") i.views ++ (named_text (codes " running") (flag_number i.running) ++ (named_text (codes " due") (flag_number i.due))))))) c.from_residual-in_err-put_named.ensures.0 c.in_err-put_named.ensures)))

pub returns-in_err-put_named-2 : goal.returns-in_err-put_named-2
returns-in_err-put_named-2 g c =
    let i = c.args.info.now in
    (after (codes "info height") _ (record { bytes = c.in_ok-put.ensures.bytes; cause = c.in_ok-put.ensures.cause })
    (after (height_text i.height) _ c.in_ok-put_height.ensures
    (after (named_text (codes " base") i.base) _ c.in_ok-put_named.ensures
    (cut _ (named_text (codes " ended") i.ended) (named_text (codes " hot") i.hot ++ (named_text (codes " kept") i.kept ++ (named_text (codes " views") i.views ++ (named_text (codes " running") (flag_number i.running) ++ (named_text (codes " due") (flag_number i.due)))))) c.from_residual-in_err-put_named-2.ensures.0 c.in_err-put_named-2.ensures))))

pub returns-in_err-put_named-3 : goal.returns-in_err-put_named-3
returns-in_err-put_named-3 g c =
    let i = c.args.info.now in
    (after (codes "info height") _ (record { bytes = c.in_ok-put.ensures.bytes; cause = c.in_ok-put.ensures.cause })
    (after (height_text i.height) _ c.in_ok-put_height.ensures
    (after (named_text (codes " base") i.base) _ c.in_ok-put_named.ensures
    (after (named_text (codes " ended") i.ended) _ c.in_ok-put_named-2.ensures
    (cut _ (named_text (codes " hot") i.hot) (named_text (codes " kept") i.kept ++ (named_text (codes " views") i.views ++ (named_text (codes " running") (flag_number i.running) ++ (named_text (codes " due") (flag_number i.due))))) c.from_residual-in_err-put_named-3.ensures.0 c.in_err-put_named-3.ensures)))))

pub returns-in_err-put_named-4 : goal.returns-in_err-put_named-4
returns-in_err-put_named-4 g c =
    let i = c.args.info.now in
    (after (codes "info height") _ (record { bytes = c.in_ok-put.ensures.bytes; cause = c.in_ok-put.ensures.cause })
    (after (height_text i.height) _ c.in_ok-put_height.ensures
    (after (named_text (codes " base") i.base) _ c.in_ok-put_named.ensures
    (after (named_text (codes " ended") i.ended) _ c.in_ok-put_named-2.ensures
    (after (named_text (codes " hot") i.hot) _ c.in_ok-put_named-3.ensures
    (cut _ (named_text (codes " kept") i.kept) (named_text (codes " views") i.views ++ (named_text (codes " running") (flag_number i.running) ++ (named_text (codes " due") (flag_number i.due)))) c.from_residual-in_err-put_named-4.ensures.0 c.in_err-put_named-4.ensures))))))

pub returns-in_err-put_named-5 : goal.returns-in_err-put_named-5
returns-in_err-put_named-5 g c =
    let i = c.args.info.now in
    (after (codes "info height") _ (record { bytes = c.in_ok-put.ensures.bytes; cause = c.in_ok-put.ensures.cause })
    (after (height_text i.height) _ c.in_ok-put_height.ensures
    (after (named_text (codes " base") i.base) _ c.in_ok-put_named.ensures
    (after (named_text (codes " ended") i.ended) _ c.in_ok-put_named-2.ensures
    (after (named_text (codes " hot") i.hot) _ c.in_ok-put_named-3.ensures
    (after (named_text (codes " kept") i.kept) _ c.in_ok-put_named-4.ensures
    (cut _ (named_text (codes " views") i.views) (named_text (codes " running") (flag_number i.running) ++ (named_text (codes " due") (flag_number i.due))) c.from_residual-in_err-put_named-5.ensures.0 (rw c.from.ensures at c.in_err-put_named-5.ensures))))))))

pub returns-in_err-put_named-6 : goal.returns-in_err-put_named-6
returns-in_err-put_named-6 g c =
    let i = c.args.info.now in
    (after (codes "info height") _ (record { bytes = c.in_ok-put.ensures.bytes; cause = c.in_ok-put.ensures.cause })
    (after (height_text i.height) _ c.in_ok-put_height.ensures
    (after (named_text (codes " base") i.base) _ c.in_ok-put_named.ensures
    (after (named_text (codes " ended") i.ended) _ c.in_ok-put_named-2.ensures
    (after (named_text (codes " hot") i.hot) _ c.in_ok-put_named-3.ensures
    (after (named_text (codes " kept") i.kept) _ c.in_ok-put_named-4.ensures
    (after (named_text (codes " views") i.views) _ (rw c.from.ensures at c.in_ok-put_named-5.ensures)
    (cut _ (named_text (codes " running") (flag_number i.running)) (named_text (codes " due") (flag_number i.due)) c.from_residual-in_err-put_named-6.ensures.0 (rw c.flag_number.ensures at c.in_err-put_named-6.ensures)))))))))

pub returns : goal.returns
returns g c =
    let i = c.args.info.now in
    (after (codes "info height") _ (record { bytes = c.in_ok-put.ensures.bytes; cause = c.in_ok-put.ensures.cause })
    (after (height_text i.height) _ c.in_ok-put_height.ensures
    (after (named_text (codes " base") i.base) _ c.in_ok-put_named.ensures
    (after (named_text (codes " ended") i.ended) _ c.in_ok-put_named-2.ensures
    (after (named_text (codes " hot") i.hot) _ c.in_ok-put_named-3.ensures
    (after (named_text (codes " kept") i.kept) _ c.in_ok-put_named-4.ensures
    (after (named_text (codes " views") i.views) _ (rw c.from.ensures at c.in_ok-put_named-5.ensures)
    (after (named_text (codes " running") (flag_number i.running)) _ (rw c.flag_number.ensures at c.in_ok-put_named-6.ensures)
    (rw c.flag_number-2.ensures at c.put_named-7.ensures)))))))))
