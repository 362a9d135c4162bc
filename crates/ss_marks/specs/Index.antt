-- A hash table whose chains go down by row numbers.
use Rattle.std.specs.Prelude.{◌≡◌, ℕ, ◌+◌, ◌-◌, ◌<◌, ◌≤◌, ◌==◌, if◌then◌else◌, List, length, Option, None, Some, option_map, slice_index}
use Rattle.ss_marks.specs.{declared.index.Index.Index, declared.row.Row.Row, Rows.{row_at, slot_of}}

-- the greatest number below n of which P holds, plus one, or 0 where there is none
pub record IsLast (P : ℕ → Type 0) (n last : ℕ) : Type 0 where
  pub bound : last ≤ n
  pub here : 0 < last → P (last - 1)
  pub none : (r : ℕ) → last ≤ r → r < n → P r → ⊥

-- the chains fall: no head or link leads to its own row or a greater one
pub record IsFalling (heads below : List ℕ) : Type 0 where
  pub tops : (s : ℕ) → slice_index heads s ≤ length below
  pub falls : (r : ℕ) → slice_index below r ≤ r

-- Rows are in slots as `slot` tells: each slot's head is its greatest row, and each row's link the next one of its slot.
pub record IsChained (slot : ℕ → Option ℕ) (heads below : List ℕ) : Type 0 where
  pub falling : IsFalling heads below
  pub within : (r s : ℕ) → slot r ≡ Some s → (r < length below) × (s < length heads)
  pub head : (s : ℕ) → s < length heads → IsLast (λ r. slot r ≡ Some s) (length below) (slice_index heads s)
  pub next : (r s : ℕ) → slot r ≡ Some s → IsLast (λ x. slot x ≡ Some s) r (slice_index below r)

-- the pointer of a slot: its head, or the link of a row of it, which is given plus one
abbrev pub pointer_of : List ℕ → List ℕ → ℕ → ℕ → ℕ
pointer_of heads below slot above = if above == 0 then slice_index heads slot else slice_index below (above - 1)

-- Where a row is to stand in a chain: behind the pointer of `above`, the least row of the slot that is greater.
pub record IsAbove (heads below : List ℕ) (slot row above : ℕ) : Type 0 where
  pub within : above ≤ length below
  pub higher : 0 < above → row + 1 < above
  pub stops : pointer_of heads below slot above ≤ row + 1
  pub member : (slots : ℕ → Option ℕ) → IsChained slots heads below → 0 < above → slots (above - 1) ≡ Some slot

-- the slot of a row, if it is not vacant
abbrev pub slot_at : List Row → ℕ → ℕ → Option ℕ
slot_at rows slots r = option_map (λ _. slot_of (row_at rows r).cid slots) (row_at rows r).colour

-- the slots of all rows but one
abbrev pub without_row : ℕ → (ℕ → Option ℕ) → ℕ → Option ℕ
without_row row slot r = if r == row then None else slot r

-- the look-up has the rows that are not vacant
abbrev pub Indexes : List Row → Index → Type 0
Indexes rows index = IsChained (slot_at rows (length index.heads.items)) index.heads.items index.below.items

-- and it has them but for one
abbrev pub IndexesOthers : List Row → ℕ → Index → Type 0
IndexesOthers rows row index =
    IsChained (without_row row (slot_at rows (length index.heads.items))) index.heads.items index.below.items
