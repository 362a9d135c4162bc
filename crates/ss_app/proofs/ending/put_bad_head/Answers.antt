use Rattle.std.proofs.Common.{◌++◌}
use Rattle.std.specs.Prelude.{codes}
use Rattle.ss_script.specs.Text.{head_reply_text}
use Rattle.ss_script.proofs.Parts.{cut, after}
use Rattle.ss_app.proofs.ending.put_bad_head.Goals as goal

pub returns-in_err-put : goal.returns-in_err-put
returns-in_err-put g c =
    cut _ (codes "error: head ") (head_reply_text c.args.reply ++ codes "\n") c.from_residual.ensures.0 (record { bytes = c.in_err-put.ensures.bytes; cause = c.in_err-put.ensures.cause })

pub returns-in_err-put_head_reply : goal.returns-in_err-put_head_reply
returns-in_err-put_head_reply g c =
    (after (codes "error: head ") _ (record { bytes = c.in_ok-put.ensures.bytes; cause = c.in_ok-put.ensures.cause })
    (cut _ (head_reply_text c.args.reply) (codes "\n") c.from_residual-in_err-put_head_reply.ensures.0 c.in_err-put_head_reply.ensures))

pub returns : goal.returns
returns g c =
    (after (codes "error: head ") _ (record { bytes = c.in_ok-put.ensures.bytes; cause = c.in_ok-put.ensures.cause })
    (after (head_reply_text c.args.reply) (codes "\n") c.in_ok-put_head_reply.ensures (record { bytes = c.put-2.ensures.bytes; cause = c.put-2.ensures.cause })))
