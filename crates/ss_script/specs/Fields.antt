-- The fields of a script line, none of which is empty; docs/FORMATS.md has the form of each.
use Rattle.std.specs.{Prelude.{ℕ, ◌+◌, ◌-◌, ◌^◌, ◌==◌, ◌&&◌, ◌||◌, nat_lt, nat_le, Bool, not, List, [], ◌∷◌, if◌then◌else◌, length, slice_index, codes, Option, Some, None, Result, Ok, Err}, List.{slice_split, list_all}, Option.{option_and_then, ok_or}, Result.result_ok, Char.is_ascii_digit, Str.bytes_eq, Str.Parse.digits_value}
use Rattle.ss_cid.specs.{declared.fault.CidFault.CidFault, Cid.cid_at, Text.cid_from_text, Steps.{◌>>=◌}}
use Rattle.hex.specs.Hex.{decode_of}
use Rattle.ss_script.specs.declared.fault.ScriptKind.{ScriptKind}

abbrev pub fields_of : List ℕ → List (List ℕ)
fields_of line = slice_split (λ b. b == 32) line

-- a field as its reader judges it, if it is not empty
abbrev pub field_by : {A : Type 0} → (List ℕ → Result A ScriptKind) → List ℕ → Result A ScriptKind
field_by read field = if length field == 0 then Err ScriptKind.BadFields else read field

-- the first field as its reader judges it, and the fields after it
abbrev pub first_by : {A : Type 0} → (List ℕ → Result A ScriptKind) → List (List ℕ) → Result (A × List (List ℕ)) ScriptKind
first_by read [] = Err ScriptKind.BadFields
first_by read (field ∷ fields) = do
  x ← field_by read field
  Ok (x, fields)

-- no field is left
abbrev pub ended : List (List ℕ) → Result (Unit {0}) ScriptKind
ended [] = Ok tt
ended (field ∷ fields) = Err ScriptKind.BadFields

-- a digit below the number of clients
unfoldable pub client_of : ℕ → List ℕ → Result ℕ ScriptKind
client_of clients field =
    if (length field == 1) && (nat_le 48 (slice_index field 0) && nat_lt (slice_index field 0) (48 + clients)) then Ok (slice_index field 0 - 48)
    else Err ScriptKind.BadClient

-- digits, of which the first is no zero unless it stands alone
abbrev pub is_number : List ℕ → Bool
is_number field = nat_lt 0 (length field) && (list_all is_ascii_digit field && ((length field == 1) || not (slice_index field 0 == 48)))

-- a decimal number below 2^32
unfoldable pub number_of : List ℕ → Result ℕ ScriptKind
number_of field = if is_number field && nat_lt (digits_value 10 field) (2 ^ 32) then Ok (digits_value 10 field) else Err ScriptKind.BadNumber

-- the bytes of hexadecimal digits
abbrev pub bytes_of : List ℕ → Option (List ℕ)
bytes_of field = result_ok (decode_of field)

-- the CID that is all of some bytes
abbrev pub whole_cid : List ℕ → Result (List ℕ × ℕ) CidFault → Option (List ℕ)
whole_cid bytes (Ok c) = if c.1 == length bytes then Some c.0 else None
whole_cid bytes (Err fault) = None

-- the CID whose bytes hexadecimal digits are
abbrev pub cid_of_digits : List ℕ → Option (List ℕ)
cid_of_digits field = option_and_then (λ bytes. whole_cid bytes (cid_at bytes)) (bytes_of field)

-- a CID: its bytes in hexadecimal, which begin with 0, or else its text
unfoldable pub cid_of : List ℕ → Result (List ℕ) ScriptKind
cid_of field = ok_or (if slice_index field 0 == 48 then cid_of_digits field else result_ok (cid_from_text field)) ScriptKind.BadCid

-- the bytes of a block
unfoldable pub data_of : List ℕ → Result (List ℕ) ScriptKind
data_of field = if bytes_eq field (codes "-") then Ok [] else ok_or (bytes_of field) ScriptKind.BadHex
