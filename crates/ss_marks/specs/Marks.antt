-- What contracts see of marks: which CIDs have a row, and its colour, one of tri-colour marking or that of what is being read.
use Rattle.std.specs.{Prelude.{◌≡◌, ◌≢◌, ℕ, Bool, true, false, List, Option, None, Some, option_map, refl}, Coded.{Coded, code_by, coded×, coded_ℕ, coded_list}}
use Rattle.ss_marks.specs.declared.colour.Colour.{Colour}
use Rattle.std.specs.FinMap as finite_map
pub use Rattle.ss_cid.specs.Maps.{CidMap}
use Rattle.ss_marks.specs.contracts.colour.Colour as colour

-- the row of a CID, and its colour
pub record Mark : Type 0 where
  pub row : ℕ
  pub colour : Colour

-- the mark of each CID that has a row, how many rows may be added before memory is needed, and how many there may be
pub record MarkTable : Type 0 where
  pub marks : CidMap Mark
  pub spare : ℕ
  pub limit : ℕ

-- the mark of a CID, its row and its colour, if it has a row
abbrev pub mark_of : MarkTable → List ℕ → Option Mark
mark_of table cid = finite_map.get table.marks cid

abbrev pub row_of : MarkTable → List ℕ → Option ℕ
row_of table cid = option_map (λ mark. mark.row) (mark_of table cid)

abbrev pub colour_of : MarkTable → List ℕ → Option Colour
colour_of table cid = option_map (λ mark. mark.colour) (mark_of table cid)

-- the row is that of a CID
pub record IsLive (table : MarkTable) (row : ℕ) : Type 0 where
  pub cid : List ℕ
  pub is : row_of table cid ≡ Some row

-- the row is that of a CID, and has this colour
pub record IsColoured (table : MarkTable) (row : ℕ) (colour : Colour) : Type 0 where
  pub cid : List ℕ
  pub is : mark_of table cid ≡ Some (record { row = row; colour = colour })

-- no row has this colour
abbrev pub NoneIs : Colour → MarkTable → Type 0
NoneIs colour table = (cid : List ℕ) → colour_of table cid ≢ Some colour

-- the CID has this row and this colour, and all else is as before
abbrev pub coloured : MarkTable → List ℕ → ℕ → Colour → MarkTable
coloured table cid row colour =
    record table { marks = finite_map.insert table.marks cid (record { row = row; colour = colour }) }

-- a row of one colour took another
pub record Recolours (old new : MarkTable) (row : ℕ) (from to : Colour) : Type 0 where
  pub cid : List ℕ
  pub was : mark_of old cid ≡ Some (record { row = row; colour = from })
  pub now : new ≡ coloured old cid row to

-- a mark whose colour is white
abbrev pub whitened : Mark → Mark
whitened mark = record mark { colour = Colour.White }

-- whether two colours are the same
abbrev pub same_colour : Colour → Colour → Bool
same_colour Colour.White Colour.White = true
same_colour Colour.Grey Colour.Grey = true
same_colour Colour.Out Colour.Out = true
same_colour Colour.Black Colour.Black = true
same_colour _ _ = false

-- whether there is a mark and it has this colour
abbrev pub has_colour : Colour → Option Mark → Bool
has_colour colour None = false
has_colour colour (Some mark) = same_colour colour mark.colour

-- the marks of one colour, and how many they are
abbrev pub marks_in : Colour → CidMap Mark → CidMap Mark
marks_in colour marks = finite_map.retain_keys marks (λ cid. has_colour colour (finite_map.get marks cid))

abbrev pub count_in : Colour → CidMap Mark → ℕ
count_in colour marks = finite_map.len (marks_in colour marks)

-- how marks and tables of them are told apart
abbrev pub mark_code : Coded Mark
mark_code =
    code_by (ℕ × Colour) (coded× coded_ℕ colour.the_row.coded) (λ m. (m.row, m.colour)) (λ p. record { row = p.0; colour = p.1 }) (λ _. refl)

abbrev pub table_code : Coded MarkTable
table_code =
    code_by (CidMap Mark × (ℕ × ℕ)) (coded× (finite_map.code (coded_list coded_ℕ) mark_code) (coded× coded_ℕ coded_ℕ))
    (λ t. (t.marks, (t.spare, t.limit))) (λ p. record { marks = p.0; spare = p.1.0; limit = p.1.1 }) (λ _. refl)
