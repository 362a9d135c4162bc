-- Unsigned varints, as the multiformats specification "unsigned-varint" has them: a number in base 128,
-- the least significant group first, in bytes that have the high bit but for the last one; at most nine
-- bytes, so below 2 ^ 63, and in the shortest form, which does not end with a zero group.
use Rattle.std.specs.{Prelude.{ℕ, zero, suc, ◌+◌, ◌*◌, ◌/◌, ◌%◌, ◌==◌, nat_lt, if◌then◌else◌, ◌&&◌, List, [], ◌∷◌, length, take, drop, slice_index, Result, Ok, Err}, List.position_or_len}
use Rattle.ss_cid.specs.declared.fault.CidFault.{CidFault}

-- the bytes of a number that has at most so many groups after the first
unfoldable pub groups_of : ℕ → ℕ → List ℕ
groups_of zero n = n ∷ []
groups_of (suc more) n = if nat_lt n 128 then n ∷ [] else (n % 128 + 128) ∷ groups_of more (n / 128)

-- the varint of a number below 2 ^ 63
unfoldable pub varint : ℕ → List ℕ
varint n = groups_of 8 n

-- the number that groups stand for, the least significant first
abbrev pub groups_value : List ℕ → ℕ
groups_value [] = 0
groups_value (b ∷ bs) = b % 128 + 128 * groups_value bs

-- how many of the first nine bytes stand before one without the high bit
abbrev pub high_count : List ℕ → ℕ
high_count bytes = position_or_len (λ b. nat_lt b 128) (take 9 bytes)

-- the varint at an offset of the bytes: its number and the offset after it, or why there is none
unfoldable pub varint_at : List ℕ → ℕ → Result (ℕ × ℕ) CidFault
varint_at bytes at = varint_to bytes at (drop at bytes) (high_count (drop at bytes)) where
  varint_to : List ℕ → ℕ → List ℕ → ℕ → Result (ℕ × ℕ) CidFault
  varint_to bytes at rest high =
      if high == 9 then Err (CidFault.LongVarint at)
      else if high == length rest then Err (CidFault.Short (length bytes))
      else if nat_lt 0 high && (slice_index rest high == 0) then Err (CidFault.LongVarint at)
      else Ok (groups_value (take (high + 1) rest), at + high + 1)
