-- Bitmaps: bit i is bit `i % 8` of byte `i / 8`, counted from the least significant.
use Rattle.std.specs.{Prelude.{ℕ, zero, suc, ◌+◌, ◌*◌, ◌/◌, ◌%◌, ◌==◌, if◌then◌else◌, Bool, List, length, slice_index, slice_get, Option, None}, Int.bit_at}

abbrev pub is_set : List ℕ → ℕ → Bool
is_set bits i = bit_at (slice_index bits (i / 8)) (i % 8) == 1

-- how many of the first n bits are set
unfoldable pub ones_below : List ℕ → ℕ → ℕ
ones_below bits zero = 0
ones_below bits (suc n) = ones_below bits n + (if is_set bits n then 1 else 0)

-- how many bits are set
abbrev pub ones_in : List ℕ → ℕ
ones_in bits = ones_below bits (8 * length bits)

-- the entry of a slot, of those that stand in the order of the set bits
abbrev pub at_slot : {X : Type 0} → List ℕ → List X → ℕ → Option X
at_slot bits entries slot = if is_set bits slot then slice_get entries (ones_below bits slot) else None
