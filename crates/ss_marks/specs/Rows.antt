-- The rows as they lie in memory, and the marks that they are.
use Rattle.std.specs.Prelude.{◌≡◌, ℕ, ◌+◌, ◌%◌, List, [], ◌∷◌, map, Option, None, Some, IsSome, option_map, slice_index_or, slice_set, ◌<◌, length, ◌≢◌, zero, suc, slice_index}
use Rattle.std.specs.FinMap as finite_map
use Rattle.std.specs.Hash.FoldHasher as folding
use Rattle.ss_marks.specs.{declared.colour.Colour.Colour, declared.row.Row.Row, Marks.{CidMap, Mark}}

-- a vacant row, which stands for every number past the last row
abbrev pub no_row : Row
no_row = record { cid = []; colour = None }

-- the row with this number
abbrev pub row_at : List Row → ℕ → Row
row_at rows row = slice_index_or rows row no_row

-- the row is not vacant, and has this CID
pub record HasCid (rows : List Row) (row : ℕ) (cid : List ℕ) : Type 0 where
  pub live : IsSome (row_at rows row).colour
  pub is : (row_at rows row).cid ≡ cid

-- one row has another colour
abbrev pub with_colour : List Row → ℕ → Option Colour → List Row
with_colour rows row colour = slice_set rows row (record (row_at rows row) { colour = colour })

-- all rows that are not vacant are white
abbrev pub whitened_row : Row → Row
whitened_row row = record row { colour = option_map (λ _. Colour.White) row.colour }

abbrev pub whitened_rows : List Row → List Row
whitened_rows rows = map whitened_row rows

-- the slot of a CID among so many
unfoldable pub slot_of : List ℕ → ℕ → ℕ
slot_of cid slots = folding.finish (folding.write folding.initial cid) % slots

-- the entry of a row, if it is not vacant, in front of others
abbrev pub with_entry : List ℕ → ℕ → Option Colour → List (List ℕ × Mark) → List (List ℕ × Mark)
with_entry cid row None entries = entries
with_entry cid row (Some colour) entries = (cid, record { row = row; colour = colour }) ∷ entries

-- the CIDs with their marks, where the first row has this number
abbrev pub entries_from : ℕ → List Row → List (List ℕ × Mark)
entries_from n [] = []
entries_from n (row ∷ rows) = with_entry row.cid n row.colour (entries_from (n + 1) rows)

-- the marks that rows are
abbrev pub marks_of : List Row → CidMap Mark
marks_of rows = finite_map.from_entries (entries_from 0 rows)

-- there is such a row, and it is vacant
pub record IsVacant (rows : List Row) (row : ℕ) : Type 0 where
  pub within : row < length rows
  pub is : (row_at rows row).colour ≡ None

-- ---- stacks that are linked through the rows

-- so many rows from the top one down the links, no two of them the same, and P holds of each
abbrev pub IsStack : (ℕ → Type 0) → List ℕ → ℕ → ℕ → Type 0
IsStack P links zero top = Unit {0}
IsStack P links (suc n) top = P top × IsStack (λ r. P r × (r ≢ top)) links n (slice_index links top)
