-- What a call knows of the fields.
use Rattle.std.proofs.Common.{◌≡◌, ◌≢◌, ℕ, ◌+◌, ◌-◌, ◌<◌, ◌≤◌, ◌^◌, true, false, List, length, get_or, set, Option, None, Some, refl, sym, ap, subst, ◌∙◌, arith, length-set}
use Rattle.std.specs.Prelude.{option_map, IsSome, MatchOption}
use Rattle.std.specs.FinMap as finite_map
use Rattle.std.specs.declared.vec.Vec.{Vec}
use Rattle.std.specs.Vec.{with_items}
use Rattle.std.proofs.lemmas.Bool.{true≢false}
use Rattle.std.proofs.lemmas.List.{with_items_is, get_or-set_same, get_or-set_other}
use Rattle.std.proofs.lemmas.Option.{same_Some, none-some}
use Rattle.ss_marks.specs.declared.colour.Colour.{Colour}
use Rattle.ss_marks.specs.declared.colour.Colour.TheVariants.{Grey, Out}
use Rattle.ss_marks.specs.declared.row.Row.{Row}
use Rattle.ss_marks.specs.declared.marks.Marks.TheInside.{Inside}
use Rattle.ss_marks.specs.Marks.{Mark, MarkTable, IsLive, IsColoured, row_of, colour_of, mark_of, same_colour, count_in}
use Rattle.ss_marks.specs.Rows.{row_at, HasCid, with_colour, marks_of, IsStack}
use Rattle.ss_marks.specs.Sound.{IsSound, IsGrey, table_of}
use Rattle.ss_marks.proofs.Rows.{coloured_within}
use Rattle.ss_marks.proofs.Colours.{one, count_some, len_removed}
use Rattle.ss_marks.proofs.Marked.{AreDistinct, row_of_mark, mark_of_row, has_cid_of_mark, count_bound}
use Rattle.ss_marks.proofs.Stacks.{same_stack, pushed, top_of}
use Rattle.ss_marks.proofs.Changes.{Recoloured, recoloured_from, recoloured_count, still_grey, has_cid_of_row}

-- the links of a vector after a write through its slice
pub linked_items : {Z : Type 0} (links : Vec ℕ Z) (ws xs : List ℕ) (r v : ℕ) → xs ≡ links.items → ws ≡ set xs r v → (with_items links ws).items ≡ set links.items r v
linked_items links ws xs r v same set_to =
    let at : ws ≡ set links.items r v = set_to ∙ ap (λ ys. set ys r v) same in
    with_items_is links ws (ap length at ∙ length-set links.items r v ∙ sym links.ok.0) ∙ at

module _ (m : Inside) (t : MarkTable) (view : table_of m ≡ t) (row : ℕ) where
  -- the CID of a live row
  pub live_here : IsLive t row → (cid : List ℕ) × HasCid m.rows.items row cid
  live_here live =
      let inside = subst (λ (x : MarkTable). IsLive x row) (sym view) live in
      (inside.cid, has_cid_of_row m.rows.items inside.cid row inside.is)

  pub row_here : IsLive t row → row < length m.rows.items
  row_here live = coloured_within m.rows.items row (live_here live).1.live

  -- a row whose colour is known
  pub mark_here : (colour : Colour) → IsColoured t row colour → (cid : List ℕ) × (finite_map.get (marks_of m.rows.items) cid ≡ Some (record { row = row; colour = colour }))
  mark_here colour is = let inside = subst (λ (x : MarkTable). IsColoured x row colour) (sym view) is in (inside.cid, inside.is)

  pub live_of_colour : (colour : Colour) → IsColoured t row colour → IsLive t row
  live_of_colour colour is = record { cid = is.cid; is = ap (option_map (λ (mark : Mark). mark.row)) is.is }

  pub has_here : (cid : List ℕ) → row_of t cid ≡ Some row → HasCid m.rows.items row cid
  has_here cid is = has_cid_of_row m.rows.items cid row (subst (λ (x : MarkTable). row_of x cid ≡ Some row) (sym view) is)

  pub colour_here : (colour : Colour) → IsColoured t row colour → (row_at m.rows.items row).colour ≡ Some colour
  colour_here colour is = let at = mark_here colour is in (row_of_mark m.rows.items at.0 (record { row = row; colour = colour }) at.1).colour

  pub out_here : IsSound m → IsColoured t row Out → 1 ≤ m.out
  out_here sound is = let at = mark_here Out is in
      let some = count_some Out (marks_of m.rows.items) at.0 (record { row = row; colour = Out }) at.1 refl in
      omega (arith, sound.out, some)

  -- the row of a CID takes another colour
  pub change_at : (rows' : List Row) (old new : Colour) (cid : List ℕ) → row_of t cid ≡ Some row → (row_at m.rows.items row).colour ≡ Some old
      → rows' ≡ with_colour m.rows.items row (Some new) → Recoloured m.rows.items rows' row cid old new
  change_at rows' old new cid is was items = recoloured_from m.rows.items rows' row cid old new (has_here cid is).is was items

  -- the CID of a row whose colour is known
  pub cid_here : (colour : Colour) (is : IsColoured t row colour) → row_of t is.cid ≡ Some row
  cid_here colour is = ap (option_map (λ (mark : Mark). mark.row)) is.is

module _ (rows rows' : List Row) (r : ℕ) (cid : List ℕ) (old new : Colour) (re : Recoloured rows rows' r cid old new) (other : same_colour Grey old ≡ false) where
  not_grey : IsGrey rows r → ⊥
  not_grey grey = true≢false (ap (same_colour Grey) (same_Some Grey old (sym grey ∙ re.was)) ∙ other)

  pub stays_grey : (k : ℕ) → IsGrey rows k → IsGrey rows' k
  stays_grey k grey = still_grey rows rows' r cid old new re k (λ e. not_grey (subst (λ x. IsGrey rows x) e grey)) grey

  -- a row that was not grey and is not
  pub greys_stay : (links : List ℕ) (n top : ℕ) → IsStack (IsGrey rows) links n top → IsStack (IsGrey rows') links n top
  greys_stay links n top stack = same_stack (IsGrey rows) (IsGrey rows') links links stays_grey (λ _ _. refl) n top stack

-- a row becomes grey and goes on top of the stack
pub grey_pushed : (rows rows' : List Row) (r : ℕ) (cid : List ℕ) (old : Colour) → Recoloured rows rows' r cid old Grey → same_colour Grey old ≡ false
    → (links links' : List ℕ) (n n' top : ℕ) → r < length links → links' ≡ set links r top → n' ≡ n + 1 → IsStack (IsGrey rows) links n top → IsStack (IsGrey rows') links' n' r
grey_pushed rows rows' r cid old re other links links' n n' top in' set_to count stack =
    pushed (IsGrey rows) (IsGrey rows') links links' n n' top r count (not_grey rows rows' r cid old Grey re other) re.now
    (stays_grey rows rows' r cid old Grey re other)
    (λ k apart. ap (λ xs. get_or xs k 0) set_to ∙ get_or-set_other links r k top 0 apart)
    (ap (λ xs. get_or xs r 0) set_to ∙ get_or-set_same links r top 0 in') stack

-- one more of a colour fits
pub one_more_fits : (m : Inside) → IsSound m → (rows' : List Row) (r : ℕ) (cid : List ℕ) (old new : Colour) → Recoloured m.rows.items rows' r cid old new
    → (colour : Colour) → same_colour colour old ≡ false → same_colour colour new ≡ true → count_in colour (marks_of m.rows.items) + 1 < 2 ^ 32
one_more_fits m sound rows' r cid old new re colour not_old is_new =
    let count = recoloured_count m.rows.items rows' r cid old new re sound.distinct colour in
    let bound = count_bound colour rows' in
    let a = ap one not_old in
    let b = ap one is_new in
    omega (arith, re.length, sound.rows, sound.limit, sound.small)

colour_of_live : (o : Option Colour) → IsSome o → (colour : Colour) × (o ≡ Some colour)
colour_of_live None live = absurd (true≢false (sym live))
colour_of_live (Some colour) live = (colour, refl)

-- the mark of a row with a CID
pub mark_of_has : (rows : List Row) → AreDistinct rows → (row : ℕ) (cid : List ℕ) → HasCid rows row cid
    → (colour : Colour) × ((row_at rows row).colour ≡ Some colour) × (finite_map.get (marks_of rows) cid ≡ Some (record { row = row; colour = colour }))
mark_of_has rows distinct row cid has =
    let c = colour_of_live (row_at rows row).colour has.live in
    (c.0, c.1, mark_of_row rows distinct row cid c.0 has.is c.1)

pub row_found : (rows : List Row) → AreDistinct rows → (cid : List ℕ) (o : Option ℕ)
    → MatchOption o ((row : ℕ) → HasCid rows row cid → ⊥) (λ row. HasCid rows row cid) → o ≡ option_map (λ (mark : Mark). mark.row) (finite_map.get (marks_of rows) cid)
row_found rows distinct cid (Some row) has = sym (ap (option_map (λ (mark : Mark). mark.row)) (mark_of_has rows distinct row cid has).2)
row_found rows distinct cid None none = go (finite_map.get (marks_of rows) cid) refl where
  go : (o : Option Mark) → finite_map.get (marks_of rows) cid ≡ o → None ≡ option_map (λ (mark : Mark). mark.row) (finite_map.get (marks_of rows) cid)
  go None e = sym (ap (option_map (λ (mark : Mark). mark.row)) e)
  go (Some mark) e = absurd (none mark.row (has_cid_of_mark rows cid mark e))

whole_mark : (o : Option Mark) (row : ℕ) (colour : Colour) → option_map (λ (mark : Mark). mark.row) o ≡ Some row → option_map (λ (mark : Mark). mark.colour) o ≡ Some colour → o ≡ Some (record { row = row; colour = colour })
whole_mark None row colour r c = absurd (none-some row r)
whole_mark (Some mark) row colour r c = λ i. Some (record { row = same_Some mark.row row r i; colour = same_Some mark.colour colour c i })

-- a row whose CID has a colour
pub coloured_of : (t : MarkTable) (row : ℕ) (cid : List ℕ) (colour : Colour) → row_of t cid ≡ Some row → colour_of t cid ≡ Some colour → IsColoured t row colour
coloured_of t row cid colour r c = record { cid = cid; is = whole_mark (mark_of t cid) row colour r c }

-- the row on top of the greys is grey
pub grey_top : (m : Inside) → IsSound m → 0 < m.greys.len → IsGrey m.rows.items m.greys.top
grey_top m sound some = top_of (IsGrey m.rows.items) m.links.items m.greys.len m.greys.top some sound.greys

-- no row has a CID without a mark
pub absent_here : (m : Inside) (t : MarkTable) → table_of m ≡ t → IsSound m → (cid : List ℕ) → row_of t cid ≡ None → (k : ℕ) → HasCid m.rows.items k cid → ⊥
absent_here m t view sound cid none k has =
    let inside = subst (λ (x : MarkTable). row_of x cid ≡ None) (sym view) none in
    none-some k (sym inside ∙ ap (option_map (λ (mark : Mark). mark.row)) (mark_of_has m.rows.items sound.distinct k cid has).2)

-- a row whose colour is known is live, and there is one
pub some_live : (m : Inside) (t : MarkTable) (view : table_of m ≡ t) → IsSound m → (row : ℕ) (colour : Colour) → IsColoured t row colour → 1 ≤ m.live
some_live m t view sound row colour is =
    let at = mark_here m t view row colour is in
    omega (arith, sound.live, len_removed (marks_of m.rows.items) at.0 (record { row = row; colour = colour }) at.1)
