use Rattle.std.proofs.Common.{◌≤◌, IsTrue, drop, take}
use Rattle.ss_disk.specs.Memory.{unsynced}
use Rattle.ss_disk.proofs.memory.image.settled_calls.Given as goal

abbrev pub invariant-loop-index : goal.invariant-loop-index
invariant-loop-index l = (l.settled ≤ l.index) × IsTrue (unsynced l.file (drop l.settled (take l.index l.calls)))
