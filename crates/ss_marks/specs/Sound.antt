-- What holds of the fields of marks, and what contracts see of them.
use Rattle.std.specs.Prelude.{◌≡◌, ℕ, ◌+◌, ◌-◌, ◌<◌, ◌≤◌, ◌^◌, List, length, Some, vec_capacity}
use Rattle.std.specs.FinMap as finite_map
use Rattle.ss_marks.specs.{declared.colour.Colour.Colour, declared.row.Row.Row, declared.marks.Marks.TheInside.Inside, Marks.{MarkTable, count_in}, Rows.{row_at, HasCid, marks_of, IsVacant, IsStack}, Index.Indexes}

abbrev pub IsGrey : List Row → ℕ → Type 0
IsGrey rows row = (row_at rows row).colour ≡ Some Colour.Grey

pub record IsSound (m : Inside) : Type 0 where
  pub distinct : (a b : ℕ) (cid : List ℕ) → HasCid m.rows.items a cid → HasCid m.rows.items b cid → a ≡ b
  pub index : Indexes m.rows.items m.index
  pub vacant : IsStack (IsVacant m.rows.items) m.links.items m.vacant.len m.vacant.top
  pub greys : IsStack (IsGrey m.rows.items) m.links.items m.greys.len m.greys.top
  pub live : m.live ≡ finite_map.len (marks_of m.rows.items)
  pub grey : m.greys.len ≡ count_in Colour.Grey (marks_of m.rows.items)
  pub out : m.out ≡ count_in Colour.Out (marks_of m.rows.items)
  pub used : m.live + m.vacant.len ≡ length m.rows.items
  pub rows : length m.rows.items ≤ length m.index.heads.items
  pub links : length m.index.heads.items ≤ length m.links.items
  pub below : length m.index.below.items ≡ length m.index.heads.items
  pub room : length m.index.heads.items ≤ vec_capacity m.rows
  pub limit : length m.index.heads.items ≤ m.limit
  pub small : m.limit < 2 ^ 32

abbrev pub table_of : Inside → MarkTable
table_of m = record { marks = marks_of m.rows.items; spare = length m.index.heads.items - m.live; limit = m.limit }
