-- Rows by their numbers.
use Rattle.std.proofs.Common.{◌≡◌, ℕ, ◌<◌, ◌≤◌, false, List, length, Option, None, Some, is_some, refl, sym, ap, ◌∙◌, ⊎_elim}
use Rattle.std.specs.Prelude.{IsSome, option_map}
use Rattle.std.proofs.lemmas.Bool.{cases_lt}
use Rattle.std.proofs.lemmas.List.{get_or_past}
use Rattle.std.proofs.lemmas.Option.{same_Some, none-some}
use Rattle.ss_marks.specs.declared.colour.Colour.{Colour}
use Rattle.ss_marks.specs.declared.row.Row.{Row}
use Rattle.ss_marks.specs.Rows.{no_row, row_at, HasCid, slot_of}
use Rattle.ss_marks.specs.Index.{slot_at}

-- a row with a colour is there
pub coloured_within : (rows : List Row) (r : ℕ) → IsSome (row_at rows r).colour → r < length rows
coloured_within rows r live = ⊎_elim
    (λ (l : r < length rows). l)
    (λ (l : length rows ≤ r). absurd (let gone : (row_at rows r).colour ≡ None = ap (λ x. x.colour) (get_or_past rows r no_row l) in cc))
    (cases_lt r (length rows))

slot_of_some : (o : Option Colour) (x s : ℕ) → option_map (λ _. x) o ≡ Some s → IsSome o × (s ≡ x)
slot_of_some None x s is = absurd (none-some s is)
slot_of_some (Some c) x s is = (refl, sym (same_Some x s is))

-- a row in a slot is live, and the slot is that of its CID
pub slot_at-some : (rows : List Row) (n r s : ℕ) → slot_at rows n r ≡ Some s → IsSome (row_at rows r).colour × (s ≡ slot_of (row_at rows r).cid n)
slot_at-some rows n r s is = slot_of_some (row_at rows r).colour (slot_of (row_at rows r).cid n) s is

slotted : (o : Option Colour) (x : ℕ) → IsSome o → option_map (λ _. x) o ≡ Some x
slotted None x live = absurd (cc)
slotted (Some c) x live = refl

pub slot_at-live : (rows : List Row) (n r : ℕ) → IsSome (row_at rows r).colour → slot_at rows n r ≡ Some (slot_of (row_at rows r).cid n)
slot_at-live rows n r live = slotted (row_at rows r).colour (slot_of (row_at rows r).cid n) live

pub slot_at-has : (rows : List Row) (n r : ℕ) (cid : List ℕ) → HasCid rows r cid → slot_at rows n r ≡ Some (slot_of cid n)
slot_at-has rows n r cid has = slot_at-live rows n r has.live ∙ ap (λ x. Some (slot_of x n)) has.is

pub none_from_is_some : (o : Option Colour) → is_some o ≡ false → o ≡ None
none_from_is_some None is = refl
none_from_is_some (Some c) is = absurd (cc)
