use Rattle.std.proofs.Common.{ap, length, arith}
use Rattle.ss_script.proofs.Splits.{length-lines}
use Rattle.ss_script.proofs.script.read_script.Goals as goal

pub overflow_add-number : goal.overflow_add-number
overflow_add-number c =
    omega (arith, c.loop-text.invariant.2, ap length c.in-Some.ensures.steps, length-lines c.args.text.now)
