use Rattle.std.proofs.Common.{◌++◌}
use Rattle.std.specs.Prelude.{codes}
use Rattle.ss_script.specs.Text.{named_text, mode_text}
use Rattle.ss_script.proofs.Parts.{cut, after}
use Rattle.ss_script.proofs.text.put_settings.Goals as goal

pub returns-in_err-put : goal.returns-in_err-put
returns-in_err-put g c =
    let s = c.args.config.now in
    (cut _ (codes "mode ") (mode_text s.mode ++ (named_text (codes " depth") s.depth ++ (named_text (codes " threshold") s.threshold ++ (named_text (codes " batch") s.batch ++ (named_text (codes " rows") s.rows ++ (named_text (codes " limit") s.limit)))))) c.from_residual.ensures.0 (record { bytes = c.in_err-put.ensures.bytes; cause = c.in_err-put.ensures.cause }))

pub returns-in_err-put_mode : goal.returns-in_err-put_mode
returns-in_err-put_mode g c =
    let s = c.args.config.now in
    (after (codes "mode ") _ (record { bytes = c.in_ok-put.ensures.bytes; cause = c.in_ok-put.ensures.cause })
    (cut _ (mode_text s.mode) (named_text (codes " depth") s.depth ++ (named_text (codes " threshold") s.threshold ++ (named_text (codes " batch") s.batch ++ (named_text (codes " rows") s.rows ++ (named_text (codes " limit") s.limit))))) c.from_residual-in_err-put_mode.ensures.0 c.in_err-put_mode.ensures))

pub returns-in_err-put_named : goal.returns-in_err-put_named
returns-in_err-put_named g c =
    let s = c.args.config.now in
    (after (codes "mode ") _ (record { bytes = c.in_ok-put.ensures.bytes; cause = c.in_ok-put.ensures.cause })
    (after (mode_text s.mode) _ c.in_ok-put_mode.ensures
    (cut _ (named_text (codes " depth") s.depth) (named_text (codes " threshold") s.threshold ++ (named_text (codes " batch") s.batch ++ (named_text (codes " rows") s.rows ++ (named_text (codes " limit") s.limit)))) c.from_residual-in_err-put_named.ensures.0 c.in_err-put_named.ensures)))

pub returns-in_err-put_named-2 : goal.returns-in_err-put_named-2
returns-in_err-put_named-2 g c =
    let s = c.args.config.now in
    (after (codes "mode ") _ (record { bytes = c.in_ok-put.ensures.bytes; cause = c.in_ok-put.ensures.cause })
    (after (mode_text s.mode) _ c.in_ok-put_mode.ensures
    (after (named_text (codes " depth") s.depth) _ c.in_ok-put_named.ensures
    (cut _ (named_text (codes " threshold") s.threshold) (named_text (codes " batch") s.batch ++ (named_text (codes " rows") s.rows ++ (named_text (codes " limit") s.limit))) c.from_residual-in_err-put_named-2.ensures.0 c.in_err-put_named-2.ensures))))

pub returns-in_err-put_named-3 : goal.returns-in_err-put_named-3
returns-in_err-put_named-3 g c =
    let s = c.args.config.now in
    (after (codes "mode ") _ (record { bytes = c.in_ok-put.ensures.bytes; cause = c.in_ok-put.ensures.cause })
    (after (mode_text s.mode) _ c.in_ok-put_mode.ensures
    (after (named_text (codes " depth") s.depth) _ c.in_ok-put_named.ensures
    (after (named_text (codes " threshold") s.threshold) _ c.in_ok-put_named-2.ensures
    (cut _ (named_text (codes " batch") s.batch) (named_text (codes " rows") s.rows ++ (named_text (codes " limit") s.limit)) c.from_residual-in_err-put_named-3.ensures.0 (rw c.from.ensures at c.in_err-put_named-3.ensures))))))

pub returns-in_err-put_named-4 : goal.returns-in_err-put_named-4
returns-in_err-put_named-4 g c =
    let s = c.args.config.now in
    (after (codes "mode ") _ (record { bytes = c.in_ok-put.ensures.bytes; cause = c.in_ok-put.ensures.cause })
    (after (mode_text s.mode) _ c.in_ok-put_mode.ensures
    (after (named_text (codes " depth") s.depth) _ c.in_ok-put_named.ensures
    (after (named_text (codes " threshold") s.threshold) _ c.in_ok-put_named-2.ensures
    (after (named_text (codes " batch") s.batch) _ (rw c.from.ensures at c.in_ok-put_named-3.ensures)
    (cut _ (named_text (codes " rows") s.rows) (named_text (codes " limit") s.limit) c.from_residual-in_err-put_named-4.ensures.0 (rw c.from-2.ensures at c.in_err-put_named-4.ensures)))))))

pub returns : goal.returns
returns g c =
    let s = c.args.config.now in
    (after (codes "mode ") _ (record { bytes = c.in_ok-put.ensures.bytes; cause = c.in_ok-put.ensures.cause })
    (after (mode_text s.mode) _ c.in_ok-put_mode.ensures
    (after (named_text (codes " depth") s.depth) _ c.in_ok-put_named.ensures
    (after (named_text (codes " threshold") s.threshold) _ c.in_ok-put_named-2.ensures
    (after (named_text (codes " batch") s.batch) _ (rw c.from.ensures at c.in_ok-put_named-3.ensures)
    (after (named_text (codes " rows") s.rows) _ (rw c.from-2.ensures at c.in_ok-put_named-4.ensures)
    c.put_named-5.ensures))))))
