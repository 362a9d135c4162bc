-- Base32 of RFC 4648, section 6, in lower case and without padding. The bytes, read as one number in base
-- 256, are followed by fewer than five zero bits up to a whole number of characters; the characters are the
-- digits of that number in base 32.
use Rattle.std.specs.{Prelude.{ℕ, zero, suc, ◌+◌, ◌-◌, ◌*◌, ◌/◌, ◌%◌, ◌^◌, nat_lt, nat_le, Bool, ◌&&◌, ◌||◌, if◌then◌else◌, List, [], ◌∷◌, ◌++◌, length}, Int.Digits.number_from_digits}

-- so many digits of a number, the most significant first
unfoldable pub digits : ℕ → ℕ → ℕ → List ℕ
digits base zero n = []
digits base (suc k) n = digits base k (n / base) ++ n % base ∷ []

-- how many characters so many bytes take
abbrev pub letter_count : ℕ → ℕ
letter_count bytes = (8 * bytes + 4) / 5

-- the values of the characters that spell some bytes
unfoldable pub letter_values : List ℕ → List ℕ
letter_values bytes =
    let count = letter_count (length bytes) in
    digits 32 count (number_from_digits 256 bytes * 2 ^ (5 * count - 8 * length bytes))

-- how many bits of the last of so many characters belong to no byte
abbrev pub unused_bits : ℕ → ℕ
unused_bits count = 5 * count % 8

-- the bytes that such values spell, whose unused bits are zero
unfoldable pub spelled_bytes : List ℕ → List ℕ
spelled_bytes values =
    let count = length values in
    digits 256 (5 * count / 8) (number_from_digits 32 values / 2 ^ unused_bits count)

-- `a` to `z` have the values 0 to 25, and `2` to `7` the values 26 to 31
abbrev pub letter : ℕ → ℕ
letter value = if nat_lt value 26 then 97 + value else 24 + value

abbrev pub is_letter : ℕ → Bool
is_letter c = (nat_le 97 c && nat_le c 122) || (nat_le 50 c && nat_le c 55)

-- the value of a character of the alphabet
abbrev pub letter_value : ℕ → ℕ
letter_value c = if nat_le 97 c then c - 97 else c - 24
