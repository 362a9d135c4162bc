use Rattle.std.proofs.Common.{◌≡◌, take}
use Rattle.ss_import.proofs.group.Group.before.Given as goal

abbrev pub invariant-loop-i : goal.invariant-loop-i
invariant-loop-i l = l.parcel ≡ take l.i l.self.parcel
