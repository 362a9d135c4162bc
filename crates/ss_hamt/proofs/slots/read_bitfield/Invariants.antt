use Rattle.std.proofs.Common.{◌≡◌, take}
use Rattle.std.specs.Int.Digits.{number_from_digits}
use Rattle.ss_hamt.proofs.slots.read_bitfield.Given as goal

abbrev pub invariant-loop-byte : goal.invariant-loop-byte
invariant-loop-byte l = l.bits ≡ number_from_digits 256 (take l.byte-index l.field)
