use Rattle.std.proofs.Common.{sym, arith}
use Rattle.ss_amt.proofs.Widths.{shape-fits, height-low}
use Rattle.ss_amt.proofs.shape.Shape.read.Goals as goal

pub overflow_cast-result-then-is_shape : goal.overflow_cast-result-then-is_shape
overflow_cast-result-then-is_shape c =
    let fits = shape-fits c.args.width c.in_ok-height.height (sym c.if-is_shape.ensures) in
    omega (arith, height-low _ _ fits)
