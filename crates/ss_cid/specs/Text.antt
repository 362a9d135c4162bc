-- The text of a CID, by the multibase specification: `b`, the sign of base32 in lower case without padding,
-- and then the base32 of the bytes. At most 117 characters spell the 72 bytes of the longest CID.
use Rattle.std.specs.{Prelude.{ℕ, ◌+◌, ◌%◌, ◌^◌, ◌==◌, nat_lt, Bool, not, ◌||◌, if◌then◌else◌, List, [], ◌∷◌, length, map, Result, Ok, Err}, List.position_or_len, Int.Digits.number_from_digits}
use Rattle.ss_cid.specs.{declared.fault.CidFault.CidFault, Base32.{letter, is_letter, letter_value, letter_values, spelled_bytes, unused_bits}, Cid.cid_at, Steps.{◌>>=◌}}

-- the text of a CID: 98 is `b`
unfoldable pub cid_text : List ℕ → List ℕ
cid_text c = 98 ∷ map letter (letter_values c)

-- how many characters of the alphabet the letters begin with
abbrev pub good_letters : List ℕ → ℕ
good_letters letters = position_or_len (λ c. not (is_letter c)) letters

-- so many characters that the last one belongs to no byte: the number leaves 1, 3 or 6 modulo 8
abbrev pub is_cut : ℕ → Bool
is_cut count = (count % 8 == 1) || (count % 8 == 3) || (count % 8 == 6)

-- the bytes that the characters after the `b` spell, or the first fault
unfoldable pub letters_bytes : List ℕ → Result (List ℕ) CidFault
letters_bytes letters =
    let count = length letters in
    let values = map letter_value letters in
    if nat_lt (good_letters letters) count then Err (CidFault.BadText (good_letters letters + 1))
    else if is_cut count then Err (CidFault.BadText (count + 1))
    else if not (number_from_digits 32 values % 2 ^ unused_bits count == 0) then Err (CidFault.BadText count)
    else Ok (spelled_bytes values)

-- the bytes that a text spells, or the first fault
unfoldable pub text_bytes : List ℕ → Result (List ℕ) CidFault
text_bytes [] = Err (CidFault.BadText 0)
text_bytes (first ∷ letters) =
    if not (first == 98) then Err (CidFault.BadText 0)
    else if nat_lt 117 (length letters + 1) then Err (CidFault.BadText 117)
    else letters_bytes letters

-- the CID that a text spells, or the first fault
unfoldable pub cid_from_text : List ℕ → Result (List ℕ) CidFault
cid_from_text text = do
  bytes ← text_bytes text
  found ← cid_at bytes
  if found.1 == length bytes then Ok found.0 else Err (CidFault.BadText (length text))
