use Rattle.std.proofs.Common.{◌≡◌, take}
use Rattle.ss_model.specs.Lawful.{body_bytes}
use Rattle.ss_core.proofs.blocks.body_bytes.Given as goal

abbrev pub invariant-loop-i : goal.invariant-loop-i
invariant-loop-i l = l.bytes ≡ body_bytes (take l.i l.blocks)
