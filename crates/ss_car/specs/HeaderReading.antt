-- Reading a header's map from left to right: the roots and the version, or nothing. `end` is the length of the whole header.
use Rattle.std.specs.{Prelude.{ℕ, zero, suc, ◌==◌, nat_eq, if◌then◌else◌, List, [], ◌∷◌, length, codes, Option, Some, None, Result, Ok}, Cmp.Lexicographic.pointwise, Option.option_or}
use Rattle.ss_cbor.specs.{Item.{Part, text, map}, Options.{◌>>=◌}, Reading.{part_at, count_from, number_from, link_from}, declared.fault.CborFault.CborFault}

-- what a part says, where it is of this kind, and what follows it
abbrev pub as_pairs : Result (Part × List ℕ) CborFault → Option (ℕ × List ℕ)
as_pairs (Ok (map n, rest)) = Some (n, rest)
as_pairs _ = None

abbrev pub as_key : Result (Part × List ℕ) CborFault → Option (List ℕ × List ℕ)
as_key (Ok (text key, rest)) = Some (key, rest)
as_key _ = None

-- what follows the head of a map of two pairs
unfoldable pub two_pairs_from : ℕ → List ℕ → Option (List ℕ)
two_pairs_from end bytes = do
  found ← as_pairs (part_at 0 end bytes)
  if found.0 == 2 then Some found.1 else None

-- what follows this key
unfoldable pub key_from : List ℕ → ℕ → List ℕ → Option (List ℕ)
key_from key end bytes = do
  found ← as_key (part_at 0 end bytes)
  if pointwise nat_eq found.0 key then Some found.1 else None

-- so many links
unfoldable pub links_from : ℕ → ℕ → List ℕ → Option (List (List ℕ) × List ℕ)
links_from zero end bytes = Some ([], bytes)
links_from (suc n) end bytes = do
  first ← link_from end bytes
  others ← links_from n end first.1
  Some (first.0 ∷ others.0, others.1)

-- the key `roots` with its value
unfoldable pub roots_from : ℕ → List ℕ → Option (List (List ℕ) × List ℕ)
roots_from end bytes = do
  rest ← key_from (codes "roots") end bytes
  count ← count_from end rest
  links_from count.0 end count.1

-- the key `version` with its value
unfoldable pub version_from : ℕ → List ℕ → Option (ℕ × List ℕ)
version_from end bytes = do
  rest ← key_from (codes "version") end bytes
  number_from end rest

-- nothing follows
abbrev pub whole : {A : Type 0} → A → List ℕ → Option A
whole x rest = if length rest == 0 then Some x else None

unfoldable pub roots_first : ℕ → List ℕ → Option (List (List ℕ) × ℕ)
roots_first end bytes = do
  pairs ← two_pairs_from end bytes
  roots ← roots_from end pairs
  version ← version_from end roots.1
  whole (roots.0, version.0) version.1

unfoldable pub version_first : ℕ → List ℕ → Option (List (List ℕ) × ℕ)
version_first end bytes = do
  pairs ← two_pairs_from end bytes
  version ← version_from end pairs
  roots ← roots_from end version.1
  whole (roots.0, version.0) roots.1

-- the map with its two keys in either order
unfoldable pub header_in : List ℕ → Option (List (List ℕ) × ℕ)
header_in bytes = option_or (roots_first (length bytes) bytes) (version_first (length bytes) bytes)
