use Rattle.std.proofs.Common.{ℕ, List, ◌++◌, take}
use Rattle.ss_disk.specs.declared.memory.call.DeviceCall.{DeviceCall}
use Rattle.ss_disk.specs.Memory.{story, MayLeave}
use Rattle.ss_disk.proofs.memory.image.tear_all.Given as goal

abbrev pub invariant-loop-index : goal.invariant-loop-index
invariant-loop-index l =
    (first : List ℕ) (earlier : List DeviceCall) → MayLeave first earlier l.initial.bytes.items → MayLeave first (story l.file (take l.index l.calls) ++ earlier) l.bytes.items
