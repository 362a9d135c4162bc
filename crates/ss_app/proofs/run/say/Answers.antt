use Rattle.std.proofs.Common.{List, ℕ, subst}
use Rattle.ss_app.specs.World.{Says}
use Rattle.ss_app.specs.World.{output}
use Rattle.ss_app.proofs.Sayings.{says_text}
use Rattle.ss_app.proofs.run.say.Goals as goal

pub returns-in-Ok : goal.returns-in-Ok
returns-in-Ok g c =
    subst (λ (b : List ℕ). Says (output g.K.Sink c.args.sink.now) (output g.K.Sink c.finish.new.sink) b 0 c.finish.result) c.as_bytes.ensures.value
    (says_text _ (output g.K.Sink c.put.new.self) _ _ _ c.in-Ok.ensures.bytes c.in-Ok.ensures.cause.kept c.finish.ensures)
