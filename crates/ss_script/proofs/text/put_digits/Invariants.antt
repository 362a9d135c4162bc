use Rattle.std.proofs.Common.{◌≡◌, ℕ, List, ◌++◌, Ok, length}
use Rattle.hex.specs.Hex.{encode_lower}
use Rattle.ss_io.specs.declared.failed.Failed.{Failed}
use Rattle.ss_script.specs.Text.{Writes}
use Rattle.ss_script.proofs.text.put_digits.Given as goal

abbrev pub invariant-loop-rest : goal.invariant-loop-rest
invariant-loop-rest g l =
    (done : List ℕ) × (l.fn.bytes ≡ done ++ l.rest) × Writes {E = Failed} g.K.Sink l.fn.sink l.sink (Ok tt) (encode_lower done)

abbrev pub decreases-loop-rest : goal.decreases-loop-rest
decreases-loop-rest g l = length l.rest
