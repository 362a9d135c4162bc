-- Reading items from left to right, with the first fault that is met.
use Rattle.std.specs.Prelude.{◌≡◌, ◌≢◌, ℕ, zero, suc, ◌+◌, ◌-◌, ◌==◌, ◌⊎◌, if◌then◌else◌, List, [], ◌++◌, length, take, Result, Ok, Err}
use Rattle.ss_cid.specs.Steps.{◌>>=◌}
use Rattle.ss_cbor.specs.{Item.{Part, items_in, links_of, IsItem}, Reading.{fails, part_at}, declared.fault.CborFault.CborFault, declared.fault.CborKind.TheVariants.{Truncated, Trailing}, declared.fault.CborKind.CborKind}

-- the first fault of so many items, from left to right: of the first part, or after it
pub data FirstFault (end : ℕ) : ℕ → List ℕ → CborFault → Type 0 where
  here : {due : ℕ} {bytes : List ℕ} {fault : CborFault} →
      part_at due end bytes ≡ Err fault → FirstFault end (suc due) bytes fault
  later : {due : ℕ} {bytes rest : List ℕ} {part : Part} {fault : CborFault} →
      part_at due end bytes ≡ Ok (part, rest) → FirstFault end (items_in part + due) rest fault →
      FirstFault end (suc due) bytes fault

-- one item stands at the start, and more bytes after it
pub record IsTrailing (bytes : List ℕ) (fault : CborFault) : Type 0 where
  pub item : List ℕ
  pub rest : List ℕ
  pub links : List (List ℕ)
  pub parts : bytes ≡ item ++ rest
  pub is_item : IsItem item links
  pub some : rest ≢ []
  pub is : fault ≡ record { kind = Trailing; at = length item }

-- why bytes are not exactly one item
abbrev pub IsRefused : List ℕ → CborFault → Type 0
IsRefused bytes fault = FirstFault (length bytes) 1 bytes fault ⊎ IsTrailing bytes fault

-- The links of so many items and what follows them, or the first fault, in at most so many parts: one for each byte is enough.
unfoldable pub walk : ℕ → ℕ → ℕ → List ℕ → Result (List (List ℕ) × List ℕ) CborFault
walk most zero end bytes = Ok ([], bytes)
walk zero (suc due) end bytes = fails Truncated end
walk (suc most) (suc due) end bytes = do
  first ← part_at due end bytes
  others ← walk most (items_in first.0 + due) end first.1
  Ok (links_of first.0 ++ others.0, others.1)

-- the links of so many items and what follows them, or the first fault
unfoldable pub items_at : ℕ → ℕ → List ℕ → Result (List (List ℕ) × List ℕ) CborFault
items_at due end bytes = walk (length bytes) due end bytes

-- what follows so many items, or the first fault
unfoldable pub rest_at : ℕ → ℕ → List ℕ → Result (List ℕ) CborFault
rest_at due end bytes = do
  items ← items_at due end bytes
  Ok items.1

-- the bytes of the one item at the start and what follows it, or the first fault
unfoldable pub item_at : ℕ → List ℕ → Result (List ℕ × List ℕ) CborFault
item_at end bytes = do
  rest ← rest_at 1 end bytes
  Ok (take (length bytes - length rest) bytes, rest)

-- the links of bytes that are exactly one item, or why they are not
unfoldable pub scanned : List ℕ → Result (List (List ℕ)) CborFault
scanned bytes = do
  items ← items_at 1 (length bytes) bytes
  if length items.1 == 0 then Ok items.0 else fails Trailing (length bytes - length items.1)

-- the number of each kind of fault, which the program prints
abbrev pub number_of : CborKind → ℕ
number_of CborKind.Truncated = 1
number_of CborKind.LongHead = 2
number_of CborKind.Indefinite = 3
number_of CborKind.OtherTag = 4
number_of CborKind.BadLink = 5
number_of CborKind.BadSimple = 6
number_of CborKind.Trailing = 7
number_of CborKind.CountTooLarge = 8
