-- All rows are white.
use Rattle.std.proofs.Common.{◌≡◌, ◌≢◌, ℕ, zero, suc, ◌+◌, ◌-◌, Bool, true, false, cond, List, [], ◌∷◌, length, Option, None, Some, is_some, refl, sym, ap, subst, ◌∙◌, arith}
use Rattle.std.specs.Prelude.{option_map, vec_capacity}
use Rattle.std.proofs.lemmas.Bool.{true≢false}
use Rattle.std.proofs.lemmas.Option.{same_Some, none-some}
use Rattle.std.specs.Ordering.{nat_cmp}
use Rattle.std.specs.Cmp.Lexicographic.{slice_cmp}
use Rattle.std.specs.FinMap as finite_map
use Rattle.std.specs.FinMap.{find}
use Rattle.std.specs.declared.vec.Vec.{Vec}
use Rattle.std.specs.Vec.{with_items}
use Rattle.std.proofs.lemmas.List.{with_items_is}
use Rattle.ss_marks.specs.declared.colour.Colour.{Colour}
use Rattle.ss_marks.specs.declared.colour.Colour.TheVariants.{White, Grey, Out}
use Rattle.ss_marks.specs.declared.row.Row.{Row}
use Rattle.ss_marks.specs.declared.index.Index.{Index}
use Rattle.ss_marks.specs.declared.marks.Marks.TheInside.{Inside}
use Rattle.ss_marks.specs.Marks.{Mark, same_colour, count_in, whitened}
use Rattle.ss_marks.specs.Rows.{row_at, HasCid, whitened_row, whitened_rows, with_entry, entries_from, slot_of, marks_of, IsVacant, IsStack}
use Rattle.ss_marks.specs.Index.{IsChained, Indexes, slot_at}
use Rattle.ss_marks.specs.Sound.{IsSound, IsGrey}
use Rattle.ss_marks.proofs.Colours.{by_bytes, count_of_none}
use Rattle.ss_marks.proofs.Marked.{AreDistinct, eq_cid, row_of_mark, mark_of_row, has_cid_of_mark}
use Rattle.ss_marks.proofs.Stacks.{same_stack}
use Rattle.ss_marks.proofs.Calls.{mark_of_has}

row_at-whitened : (rows : List Row) (r : ℕ) → row_at (whitened_rows rows) r ≡ whitened_row (row_at rows r)
row_at-whitened [] r = refl
row_at-whitened (row ∷ rows) zero = refl
row_at-whitened (row ∷ rows) (suc r) = row_at-whitened rows r

pub length-whitened : (rows : List Row) → length (whitened_rows rows) ≡ length rows
length-whitened [] = refl
length-whitened (row ∷ rows) = ap suc (length-whitened rows)

still_some : {X Y : Type 0} (f : X → Y) (o : Option X) → is_some (option_map f o) ≡ is_some o
still_some f None = refl
still_some f (Some x) = refl

twice : (x : ℕ) (o : Option Colour) → option_map (λ (_ : Colour). x) (option_map (λ _. White) o) ≡ option_map (λ _. x) o
twice x None = refl
twice x (Some c) = refl

had : (rows : List Row) (k : ℕ) (q : List ℕ) → HasCid (whitened_rows rows) k q → HasCid rows k q
had rows k q has = let at = row_at-whitened rows k in record {
  live = sym (still_some (λ _. White) (row_at rows k).colour) ∙ ap (λ (row : Row). is_some row.colour) (sym at) ∙ has.live;
  is = ap (λ (row : Row). row.cid) (sym at) ∙ has.is;
}

pub white_distinct : (rows : List Row) → AreDistinct rows → AreDistinct (whitened_rows rows)
white_distinct rows distinct a b q x y = distinct a b q (had rows a q x) (had rows b q y)

white_slots : (rows : List Row) (n k : ℕ) → slot_at rows n k ≡ slot_at (whitened_rows rows) n k
white_slots rows n k = sym (ap (λ (row : Row). option_map (λ _. slot_of row.cid n) row.colour) (row_at-whitened rows k) ∙ twice (slot_of (row_at rows k).cid n) (row_at rows k).colour)

white_vacant : (rows : List Row) (k : ℕ) → IsVacant rows k → IsVacant (whitened_rows rows) k
white_vacant rows k v = record { within = omega (arith, v.within, length-whitened rows); is = ap (λ (row : Row). row.colour) (row_at-whitened rows k) ∙ ap (option_map (λ _. White)) v.is }

either_same : (e : Bool) (x y : Mark) (o o' : Option Mark) → is_some o' ≡ is_some o → is_some (cond e (Some y) o') ≡ is_some (cond e (Some x) o)
either_same true x y o o' is = refl
either_same false x y o o' is = is

entry_same : (cid q : List ℕ) (n : ℕ) (c : Option Colour) (es es' : List (List ℕ × Mark)) → is_some (find (slice_cmp nat_cmp) q es') ≡ is_some (find (slice_cmp nat_cmp) q es)
    → is_some (find (slice_cmp nat_cmp) q (with_entry cid n (option_map (λ _. White) c) es')) ≡ is_some (find (slice_cmp nat_cmp) q (with_entry cid n c es))
entry_same cid q n None es es' is = is
entry_same cid q n (Some c) es es' is = either_same (eq_cid q cid) (record { row = n; colour = c }) (record { row = n; colour = White }) (find (slice_cmp nat_cmp) q es) (find (slice_cmp nat_cmp) q es') is

-- the same CIDs are found
same_keys : (rows : List Row) (n : ℕ) (q : List ℕ) → is_some (find (slice_cmp nat_cmp) q (entries_from n (whitened_rows rows))) ≡ is_some (find (slice_cmp nat_cmp) q (entries_from n rows))
same_keys [] n q = refl
same_keys (row ∷ rows) n q = entry_same row.cid q n row.colour (entries_from (n + 1) rows) (entries_from (n + 1) (whitened_rows rows)) (same_keys rows (n + 1) q)

len_with : (cid : List ℕ) (n : ℕ) (c : Option Colour) (es es' : List (List ℕ × Mark)) → ((q : List ℕ) → is_some (find (slice_cmp nat_cmp) q es') ≡ is_some (find (slice_cmp nat_cmp) q es))
    → finite_map.len (finite_map.from_entries {R = slice_cmp nat_cmp} es') ≡ finite_map.len (finite_map.from_entries {R = slice_cmp nat_cmp} es)
    → finite_map.len (finite_map.from_entries {R = slice_cmp nat_cmp} (with_entry cid n (option_map (λ _. White) c) es')) ≡ finite_map.len (finite_map.from_entries {R = slice_cmp nat_cmp} (with_entry cid n c es))
len_with cid n None es es' keys len = len
len_with cid n (Some c) es es' keys len =
    let old = finite_map.from_entries {R = slice_cmp nat_cmp} es in
    let new = finite_map.from_entries {R = slice_cmp nat_cmp} es' in
    let key : is_some (finite_map.get new cid) ≡ is_some (finite_map.get old cid) =
    ap is_some (finite_map.get-from_entries by_bytes es' cid) ∙ keys cid ∙ ap is_some (sym (finite_map.get-from_entries by_bytes es cid)) in
    finite_map.len-insert by_bytes new cid (record { row = n; colour = White })
    ∙ (λ i. cond (key i) (len i) (len i + 1))
    ∙ sym (finite_map.len-insert by_bytes old cid (record { row = n; colour = c }))

white_len_from : (rows : List Row) (n : ℕ) → finite_map.len (finite_map.from_entries {R = slice_cmp nat_cmp} (entries_from n (whitened_rows rows))) ≡ finite_map.len (finite_map.from_entries {R = slice_cmp nat_cmp} (entries_from n rows))
white_len_from [] n = refl
white_len_from (row ∷ rows) n = len_with row.cid n row.colour (entries_from (n + 1) rows) (entries_from (n + 1) (whitened_rows rows)) (same_keys rows (n + 1)) (white_len_from rows (n + 1))

is_white : (o : Option Colour) (c : Colour) → option_map (λ _. White) o ≡ Some c → c ≡ White
is_white None c is = absurd (none-some c is)
is_white (Some x) c is = sym (same_Some White c is)

white_mark : (rows : List Row) (q : List ℕ) (mark : Mark) → finite_map.get (marks_of (whitened_rows rows)) q ≡ Some mark → mark.colour ≡ White
white_mark rows q mark is =
    let at = row_of_mark (whitened_rows rows) q mark is in
    is_white (row_at rows mark.row).colour mark.colour (ap (λ (row : Row). row.colour) (sym (row_at-whitened rows mark.row)) ∙ at.colour)

none_other : (rows : List Row) (colour : Colour) → same_colour White colour ≡ false → (q : List ℕ) → option_map (λ (mark : Mark). mark.colour) (finite_map.get (marks_of (whitened_rows rows)) q) ≢ Some colour
none_other rows colour other q is = go (finite_map.get (marks_of (whitened_rows rows)) q) refl is where
  go : (o : Option Mark) → finite_map.get (marks_of (whitened_rows rows)) q ≡ o → option_map (λ (mark : Mark). mark.colour) o ≡ Some colour → ⊥
  go None e is = none-some colour is
  go (Some mark) e is = true≢false (ap (same_colour White) (sym (white_mark rows q mark e) ∙ same_Some mark.colour colour is) ∙ other)

-- each mark is white, and there are no others
pub white_marks : (rows : List Row) → AreDistinct rows → (q : List ℕ) → finite_map.get (marks_of (whitened_rows rows)) q ≡ option_map whitened (finite_map.get (marks_of rows) q)
white_marks rows distinct q = go (finite_map.get (marks_of rows) q) (finite_map.get (marks_of (whitened_rows rows)) q) refl refl where
  go : (o o' : Option Mark) → finite_map.get (marks_of rows) q ≡ o → finite_map.get (marks_of (whitened_rows rows)) q ≡ o' → finite_map.get (marks_of (whitened_rows rows)) q ≡ option_map whitened (finite_map.get (marks_of rows) q)
  go None None e e' = e' ∙ sym (ap (option_map whitened) e)
  go None (Some mark) e e' =
      let has = had rows mark.row q (has_cid_of_mark (whitened_rows rows) q mark e') in
      absurd (none-some _ (sym e ∙ (mark_of_has rows distinct mark.row q has).2))
  go (Some mark) o' e e' =
      let at = row_of_mark rows q mark e in
      let white = row_at-whitened rows mark.row in
      mark_of_row (whitened_rows rows) (white_distinct rows distinct) mark.row q White (ap (λ (row : Row). row.cid) white ∙ at.cid) (ap (λ (row : Row). row.colour) white ∙ ap (option_map (λ _. White)) at.colour)
      ∙ sym (ap (option_map whitened) e)

pub whitened_sound : (m m' : Inside) → IsSound m → m'.rows.items ≡ whitened_rows m.rows.items → vec_capacity m'.rows ≡ vec_capacity m.rows
    → m'.links ≡ m.links → m'.index ≡ m.index → m'.vacant ≡ m.vacant → m'.greys.len ≡ 0 → m'.live ≡ m.live → m'.out ≡ 0 → m'.limit ≡ m.limit → IsSound m'
whitened_sound m m' sound rows capacity links index vacant greys live out limit =
    let old = m.rows.items in
    let heads : length m'.index.heads.items ≡ length m.index.heads.items = ap (λ (x : Index). length x.heads.items) index in
    let below : length m'.index.below.items ≡ length m.index.below.items = ap (λ (x : Index). length x.below.items) index in
    let long : length m'.links.items ≡ length m.links.items = ap (λ x. length x.items) links in
    let count : length m'.rows.items ≡ length old = ap length rows ∙ length-whitened old in
    record {
      distinct = subst (λ xs. AreDistinct xs) (sym rows) (white_distinct old sound.distinct);
      index = subst (λ x. Indexes m'.rows.items x) (sym index)
          (subst (λ f. IsChained f m.index.heads.items m.index.below.items) (λ i k. (white_slots old (length m.index.heads.items) k ∙ ap (λ xs. slot_at xs (length m.index.heads.items) k) (sym rows)) i) sound.index);
      vacant = subst (λ xs. IsStack (IsVacant xs) m'.links.items m'.vacant.len m'.vacant.top) (sym rows)
          (subst (λ x. IsStack (IsVacant (whitened_rows old)) m'.links.items x.len x.top) (sym vacant)
          (subst (λ x. IsStack (IsVacant (whitened_rows old)) x.items m.vacant.len m.vacant.top) (sym links)
          (same_stack (IsVacant old) (IsVacant (whitened_rows old)) m.links.items m.links.items (white_vacant old) (λ _ _. refl) m.vacant.len m.vacant.top sound.vacant)));
      greys = subst (λ n. IsStack (IsGrey m'.rows.items) m'.links.items n m'.greys.top) (sym greys) tt;
      live = live ∙ sound.live ∙ sym (ap (λ xs. finite_map.len (marks_of xs)) rows ∙ white_len_from old 0);
      grey = greys ∙ sym (ap (λ xs. count_in Grey (marks_of xs)) rows ∙ count_of_none Grey (marks_of (whitened_rows old)) (none_other old Grey refl));
      out = out ∙ sym (ap (λ xs. count_in Out (marks_of xs)) rows ∙ count_of_none Out (marks_of (whitened_rows old)) (none_other old Out refl));
      used = omega (arith, live, ap (λ x. x.len) vacant, sound.used, count);
      rows = omega (arith, sound.rows, count, heads);
      links = omega (arith, sound.links, heads, long);
      below = omega (arith, sound.below, heads, below);
      room = omega (arith, sound.room, heads, capacity);
      limit = omega (arith, sound.limit, heads, limit);
      small = omega (arith, sound.small, limit);
    }

-- the rows of a vector whose slice was whitened
pub whitened_items : {Z : Type 0} (rows : Vec Row Z) (ws xs : List Row) → xs ≡ rows.items → ws ≡ whitened_rows xs → (with_items rows ws).items ≡ whitened_rows rows.items
whitened_items rows ws xs same set_to =
    let at : ws ≡ whitened_rows rows.items = set_to ∙ ap whitened_rows same in
    with_items_is rows ws (ap length at ∙ length-whitened rows.items ∙ sym rows.ok.0) ∙ at
