-- Which slot of a node a key takes, and where the pointer of a slot stands, after Filecoin's form.
use Rattle.std.specs.{Prelude.{ℕ, ◌-◌, ◌*◌, ◌/◌, ◌%◌, ◌^◌, ◌==◌, ◌&&◌, ◌||◌, not, nat_le, if◌then◌else◌, Bool, List, length, slice_get, slice_index, Option, None}, Int.{bit_at, RustNames.count_ones}, Int.Digits.number_from_digits}
use Rattle.sha2.specs.Sha256.{sha256}

-- the slot of a hash at a level: five bits of its 256, the most significant first
abbrev pub group_of : List ℕ → ℕ → ℕ
group_of hash level = number_from_digits 256 hash / 2 ^ (251 - 5 * level) % 32

-- the slot of a key at a level
abbrev pub slot_of : List ℕ → ℕ → ℕ
slot_of key level = group_of (sha256 key) level

-- a bitfield is a big-endian number of at most 4 bytes without a leading zero byte
abbrev pub is_bitfield : List ℕ → Bool
is_bitfield field = nat_le (length field) 4 && ((length field == 0) || not (slice_index field 0 == 0))

abbrev pub bits_of : List ℕ → ℕ
bits_of field = number_from_digits 256 field

-- how many of the bits below a slot are set
abbrev pub ones_below : ℕ → ℕ → ℕ
ones_below bits slot = count_ones (bits % 2 ^ slot)

-- the entry of a slot, of those that stand in the order of the set bits
abbrev pub at_slot : {X : Type 0} → ℕ → List X → ℕ → Option X
at_slot bits entries slot = if bit_at bits slot == 1 then slice_get entries (ones_below bits slot) else None
