use Rattle.std.proofs.Common.{◌++◌}
use Rattle.std.specs.Prelude.{codes}
use Rattle.ss_script.specs.Text.{settings_text, info_text}
use Rattle.ss_script.proofs.Parts.{cut, after}
use Rattle.ss_app.proofs.ending.put_informed.Goals as goal

pub returns-in_err-put_settings : goal.returns-in_err-put_settings
returns-in_err-put_settings g c =
    let i = c.args.info.now in
    (cut _ (settings_text i.config) (codes "\n" ++ (info_text i ++ codes "\n")) c.from_residual.ensures.0 c.in_err-put_settings.ensures)

pub returns-in_err-put : goal.returns-in_err-put
returns-in_err-put g c =
    let i = c.args.info.now in
    (after (settings_text i.config) _ c.in_ok-put_settings.ensures
    (cut _ (codes "\n") (info_text i ++ codes "\n") c.from_residual-in_err-put.ensures.0 (record { bytes = c.in_err-put.ensures.bytes; cause = c.in_err-put.ensures.cause })))

pub returns-in_err-put_info : goal.returns-in_err-put_info
returns-in_err-put_info g c =
    let i = c.args.info.now in
    (after (settings_text i.config) _ c.in_ok-put_settings.ensures
    (after (codes "\n") _ (record { bytes = c.in_ok-put.ensures.bytes; cause = c.in_ok-put.ensures.cause })
    (cut _ (info_text i) (codes "\n") c.from_residual-in_err-put_info.ensures.0 c.in_err-put_info.ensures)))

pub returns : goal.returns
returns g c =
    let i = c.args.info.now in
    (after (settings_text i.config) _ c.in_ok-put_settings.ensures
    (after (codes "\n") _ (record { bytes = c.in_ok-put.ensures.bytes; cause = c.in_ok-put.ensures.cause })
    (after (info_text i) (codes "\n") c.in_ok-put_info.ensures (record { bytes = c.put-2.ensures.bytes; cause = c.put-2.ensures.cause }))))
