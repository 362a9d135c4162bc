-- How the fields of marks change.
use Rattle.std.proofs.Common.{◌≡◌, ◌≢◌, ℕ, ◌+◌, ◌-◌, List, length, get_or, set, Option, None, Some, is_some, refl, sym, ap, subst, ◌∙◌, ⊎_elim, arith, length-set}
use Rattle.std.specs.Prelude.{option_map, IsSome, vec_capacity}
use Rattle.std.specs.FinMap as finite_map
use Rattle.std.specs.declared.vec.Vec.{Vec}
use Rattle.std.specs.Vec.{with_items}
use Rattle.std.proofs.lemmas.Bool.{cases_eq}
use Rattle.std.proofs.lemmas.List.{get_or-set_same, get_or-set_other, with_items_is}
use Rattle.std.proofs.lemmas.Option.{same_Some, none-some}
use Rattle.ss_marks.specs.declared.colour.Colour.{Colour}
use Rattle.ss_marks.specs.declared.colour.Colour.TheVariants.{Grey, Out}
use Rattle.ss_marks.specs.declared.row.Row.{Row}
use Rattle.ss_marks.specs.declared.index.Index.{Index}
use Rattle.ss_marks.specs.declared.marks.Marks.TheInside.{Inside}
use Rattle.ss_marks.specs.Marks.{Mark, MarkTable, same_colour, has_colour, count_in, coloured}
use Rattle.ss_marks.specs.Rows.{no_row, row_at, HasCid, with_colour, slot_of, marks_of, IsVacant, IsStack}
use Rattle.ss_marks.specs.Index.{IsChained, Indexes, slot_at}
use Rattle.ss_marks.specs.Sound.{IsSound, IsGrey, table_of}
use Rattle.ss_marks.proofs.Rows.{coloured_within}
use Rattle.ss_marks.proofs.Colours.{one, count_insert, len_replaced}
use Rattle.ss_marks.proofs.Marked.{AreDistinct, mark_of_row, has_cid_of_mark, marks_changed}
use Rattle.ss_marks.proofs.Stacks.{same_stack}

pub live_of : (o : Option Colour) (c : Colour) → o ≡ Some c → IsSome o
live_of o c is = ap is_some is

-- the rows of a vector after a write through its slice
pub recoloured_items : {Z : Type 0} (rows : Vec Row Z) (ws xs : List Row) (r : ℕ) (colour : Option Colour) → xs ≡ rows.items → ws ≡ with_colour xs r colour
    → (with_items rows ws).items ≡ with_colour rows.items r colour
recoloured_items rows ws xs r colour same set_to =
    let at : ws ≡ with_colour rows.items r colour = set_to ∙ ap (λ ys. with_colour ys r colour) same in
    with_items_is rows ws (ap length at ∙ length-set rows.items r _ ∙ sym rows.ok.0) ∙ at

-- the row of a CID
pub has_cid_of_row : (rows : List Row) (q : List ℕ) (r : ℕ) → option_map (λ (mark : Mark). mark.row) (finite_map.get (marks_of rows) q) ≡ Some r → HasCid rows r q
has_cid_of_row rows q r is = go (finite_map.get (marks_of rows) q) refl is where
  go : (o : Option Mark) → finite_map.get (marks_of rows) q ≡ o → option_map (λ (mark : Mark). mark.row) o ≡ Some r → HasCid rows r q
  go None e is = absurd (none-some r is)
  go (Some mark) e is = subst (λ x. HasCid rows x q) (same_Some mark.row r is) (has_cid_of_mark rows q mark e)

-- a live row took another colour
pub record Recoloured (rows rows' : List Row) (r : ℕ) (cid : List ℕ) (old new : Colour) : Type 0 where
  pub length : length rows' ≡ length rows
  pub cid_was : (row_at rows r).cid ≡ cid
  pub was : (row_at rows r).colour ≡ Some old
  pub cid_now : (row_at rows' r).cid ≡ cid
  pub now : (row_at rows' r).colour ≡ Some new
  pub others : (k : ℕ) → k ≢ r → row_at rows' k ≡ row_at rows k

pub recoloured_from : (rows rows' : List Row) (r : ℕ) (cid : List ℕ) (old new : Colour) → (row_at rows r).cid ≡ cid → (row_at rows r).colour ≡ Some old
    → rows' ≡ with_colour rows r (Some new) → Recoloured rows rows' r cid old new
recoloured_from rows rows' r cid old new is was set_to =
    let row : Row = record (row_at rows r) { colour = Some new } in
    let now : row_at rows' r ≡ row = ap (λ xs. row_at xs r) set_to ∙ get_or-set_same rows r row no_row (coloured_within rows r (live_of _ old was)) in
    record {
      length = ap length set_to ∙ length-set rows r row;
      cid_was = is;
      was = was;
      cid_now = ap (λ (x : Row). x.cid) now ∙ is;
      now = ap (λ (x : Row). x.colour) now;
      others = λ k other. ap (λ xs. row_at xs k) set_to ∙ get_or-set_other rows r k row no_row other;
    }

module _ (rows rows' : List Row) (r : ℕ) (cid : List ℕ) (old new : Colour) (re : Recoloured rows rows' r cid old new) where
  -- each live row was live, with its CID
  had : (k : ℕ) (q : List ℕ) → HasCid rows' k q → HasCid rows k q
  had k q has = ⊎_elim
      (λ (e : k ≡ r). record {
        live = live_of _ old (ap (λ x. (row_at rows x).colour) e ∙ re.was);
        is = ap (λ x. (row_at rows x).cid) e ∙ re.cid_was ∙ sym re.cid_now ∙ sym (ap (λ x. (row_at rows' x).cid) e) ∙ has.is;
      })
      (λ (e : k ≢ r). record { live = ap (λ (x : Row). is_some x.colour) (sym (re.others k e)) ∙ has.live; is = ap (λ (x : Row). x.cid) (sym (re.others k e)) ∙ has.is })
      (cases_eq k r)

  pub recoloured_distinct : AreDistinct rows → AreDistinct rows'
  recoloured_distinct distinct a b q x y = distinct a b q (had a q x) (had b q y)

  slot_same : (n k : ℕ) → slot_at rows n k ≡ slot_at rows' n k
  slot_same n k = ⊎_elim
      (λ (e : k ≡ r). slot_is rows e re.was re.cid_was ∙ sym (slot_is rows' e re.now re.cid_now))
      (λ (e : k ≢ r). ap (λ (row : Row). option_map (λ _. slot_of row.cid n) row.colour) (sym (re.others k e)))
      (cases_eq k r) where
        slot_is : (xs : List Row) {c : Colour} → k ≡ r → (row_at xs r).colour ≡ Some c → (row_at xs r).cid ≡ cid → slot_at xs n k ≡ Some (slot_of cid n)
        slot_is xs e colour is = ap (λ x. slot_at xs n x) e ∙ ap (λ o. option_map (λ _. slot_of (row_at xs r).cid n) o) colour ∙ ap (λ x. Some (slot_of x n)) is

  pub recoloured_index : (index : Index) → Indexes rows index → Indexes rows' index
  recoloured_index index indexed =
      subst (λ f. IsChained f index.heads.items index.below.items) (λ i k. slot_same (length index.heads.items) k i) indexed

  pub recoloured_vacant : (k : ℕ) → IsVacant rows k → IsVacant rows' k
  recoloured_vacant k v = let other : k ≢ r = λ e. none-some old (sym v.is ∙ ap (λ x. (row_at rows x).colour) e ∙ re.was) in
      record { within = omega (arith, v.within, re.length); is = ap (λ (x : Row). x.colour) (re.others k other) ∙ v.is }

  pub recoloured_marks : AreDistinct rows → marks_of rows' ≡ finite_map.insert (marks_of rows) cid (record { row = r; colour = new })
  recoloured_marks distinct = marks_changed rows rows' r cid distinct (recoloured_distinct distinct) re.others
      (λ q has. sym has.is ∙ re.cid_was) (λ q has. sym has.is ∙ re.cid_now) new re.cid_now re.now

  pub recoloured_was : AreDistinct rows → finite_map.get (marks_of rows) cid ≡ Some (record { row = r; colour = old })
  recoloured_was distinct = mark_of_row rows distinct r cid old re.cid_was re.was

  pub recoloured_len : AreDistinct rows → finite_map.len (marks_of rows') ≡ finite_map.len (marks_of rows)
  recoloured_len distinct = ap finite_map.len (recoloured_marks distinct) ∙ len_replaced (marks_of rows) cid (record { row = r; colour = new }) (record { row = r; colour = old }) (recoloured_was distinct)

  pub recoloured_count : AreDistinct rows → (colour : Colour) → count_in colour (marks_of rows') + one (same_colour colour old) ≡ count_in colour (marks_of rows) + one (same_colour colour new)
  recoloured_count distinct colour =
      ap (λ m. count_in colour m + one (same_colour colour old)) (recoloured_marks distinct)
      ∙ ap (λ o. count_in colour (finite_map.insert (marks_of rows) cid (record { row = r; colour = new })) + one (has_colour colour o)) (sym (recoloured_was distinct))
      ∙ count_insert colour (marks_of rows) cid (record { row = r; colour = new })

  -- a grey row other than this one is grey still
  pub still_grey : (k : ℕ) → k ≢ r → IsGrey rows k → IsGrey rows' k
  still_grey k other grey = ap (λ (x : Row). x.colour) (re.others k other) ∙ grey

module _ (m m' : Inside) (sound : IsSound m) (r : ℕ) (cid : List ℕ) (old new : Colour) (re : Recoloured m.rows.items m'.rows.items r cid old new)
    (capacity : vec_capacity m'.rows ≡ vec_capacity m.rows) (long : length m'.links.items ≡ length m.links.items)
    (links : (k : ℕ) → k ≢ r → get_or m'.links.items k 0 ≡ get_or m.links.items k 0)
    (index : m'.index ≡ m.index) (vacant : m'.vacant ≡ m.vacant) (live : m'.live ≡ m.live) (limit : m'.limit ≡ m.limit) where
  pub recoloured_sound : IsStack (IsGrey m'.rows.items) m'.links.items m'.greys.len m'.greys.top
      → m'.greys.len + one (same_colour Grey old) ≡ m.greys.len + one (same_colour Grey new) → m'.out + one (same_colour Out old) ≡ m.out + one (same_colour Out new) → IsSound m'
  recoloured_sound greys grey out =
      let rows = m.rows.items in
      let rows' = m'.rows.items in
      let heads : length m'.index.heads.items ≡ length m.index.heads.items = ap (λ (x : Index). length x.heads.items) index in
      let below : length m'.index.below.items ≡ length m.index.below.items = ap (λ (x : Index). length x.below.items) index in
      let a = re.length in
      record {
        distinct = recoloured_distinct rows rows' r cid old new re sound.distinct;
        index = subst (λ x. Indexes rows' x) (sym index) (recoloured_index rows rows' r cid old new re m.index sound.index);
        vacant = subst (λ x. IsStack (IsVacant rows') m'.links.items x.len x.top) (sym vacant)
            (same_stack (IsVacant rows) (IsVacant rows') m.links.items m'.links.items (recoloured_vacant rows rows' r cid old new re)
            (λ k v. links k (λ e. none-some old (sym v.is ∙ ap (λ x. (row_at rows x).colour) e ∙ re.was))) m.vacant.len m.vacant.top sound.vacant);
        greys = greys;
        live = live ∙ sound.live ∙ sym (recoloured_len rows rows' r cid old new re sound.distinct);
        grey = omega (arith, grey, sound.grey, recoloured_count rows rows' r cid old new re sound.distinct Grey);
        out = omega (arith, out, sound.out, recoloured_count rows rows' r cid old new re sound.distinct Out);
        used = omega (arith, live, ap (λ x. x.len) vacant, sound.used, a);
        rows = omega (arith, sound.rows, a, heads);
        links = omega (arith, sound.links, heads, long);
        below = omega (arith, sound.below, heads, below);
        room = omega (arith, sound.room, heads, capacity);
        limit = omega (arith, sound.limit, heads, limit);
        small = omega (arith, sound.small, limit);
      }

-- what contracts see where a live row took another colour
pub recoloured_table : (m : Inside) (rows' : List Row) (r : ℕ) (cid : List ℕ) (old new : Colour) → IsSound m → Recoloured m.rows.items rows' r cid old new
    → let now : MarkTable = record { marks = marks_of rows'; spare = length m.index.heads.items - m.live; limit = m.limit } in now ≡ coloured (table_of m) cid r new
recoloured_table m rows' r cid old new sound re = λ i. record {
  marks = recoloured_marks m.rows.items rows' r cid old new re sound.distinct i;
  spare = length m.index.heads.items - m.live;
  limit = m.limit;
}
