use Rattle.std.proofs.Common.{◌++◌, Ok, take}
use Rattle.ss_io.specs.declared.failed.Failed.{Failed}
use Rattle.ss_script.specs.Text.{numbers_text, Writes}
use Rattle.ss_script.proofs.numbers.put_numbers.Given as goal

abbrev pub invariant-loop-number : goal.invariant-loop-number
invariant-loop-number g l =
    Writes {E = Failed} g.K.Sink l.fn.sink l.sink (Ok tt) (l.label ++ numbers_text (take l.number-index l.numbers))
