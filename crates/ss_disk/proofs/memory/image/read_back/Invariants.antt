use Rattle.std.proofs.Common.{◌≡◌, take}
use Rattle.ss_disk.specs.Memory.{story, read_after}
use Rattle.ss_disk.proofs.memory.image.read_back.Given as goal

abbrev pub invariant-loop-call : goal.invariant-loop-call
invariant-loop-call l = l.bytes.items ≡ read_after l.first (story l.file (take l.call-index l.calls))
