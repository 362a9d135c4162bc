-- A row gets a CID, or loses it.
use Rattle.std.proofs.Common.{◌≡◌, ◌≢◌, ℕ, ◌+◌, ◌-◌, ◌<◌, ◌≤◌, true, false, cond, eqb, List, length, get_or, set, Option, None, Some, is_some, refl, sym, ap, subst, ◌∙◌, ⊎_elim, arith, length-set}
use Rattle.std.specs.Prelude.{option_map, IsSome, vec_capacity}
use Rattle.std.specs.FinMap as finite_map
use Rattle.std.proofs.lemmas.Bool.{cases_eq, true≢false, eq-eqb, ne_eqb, cond-true, cond-false}
use Rattle.std.proofs.lemmas.List.{get_or-set_same, get_or-set_other}
use Rattle.std.proofs.lemmas.Option.{same_Some, none-some}
use Rattle.ss_marks.specs.declared.colour.Colour.{Colour}
use Rattle.ss_marks.specs.declared.colour.Colour.TheVariants.{White, Grey, Out}
use Rattle.ss_marks.specs.declared.row.Row.{Row}
use Rattle.ss_marks.specs.declared.marks.Marks.TheInside.{Inside}
use Rattle.ss_marks.specs.Marks.{Mark, same_colour, has_colour, count_in}
use Rattle.ss_marks.specs.Rows.{no_row, row_at, HasCid, with_colour, slot_of, marks_of, IsVacant, IsStack}
use Rattle.ss_marks.specs.Index.{IsChained, Indexes, IndexesOthers, slot_at, without_row}
use Rattle.ss_marks.specs.Sound.{IsSound, IsGrey}
use Rattle.ss_marks.proofs.Rows.{coloured_within}
use Rattle.ss_marks.proofs.Colours.{one, count_insert, count_remove, len_added, len_removed}
use Rattle.ss_marks.proofs.Marked.{AreDistinct, mark_of_row, has_cid_of_mark, marks_changed, mark_gone}
use Rattle.ss_marks.proofs.Stacks.{same_stack, pushed}
use Rattle.ss_marks.proofs.Changes.{live_of}

pub not_live : (o : Option Colour) → o ≡ None → IsSome o → ⊥
not_live o none live = true≢false (sym live ∙ ap is_some none)

-- the slots of rows where one is vacant are those of rows where it may be live, without it
pub slots_without : (rows rows' : List Row) (r n : ℕ) → (row_at rows r).colour ≡ None → ((k : ℕ) → k ≢ r → row_at rows' k ≡ row_at rows k)
    → slot_at rows n ≡ without_row r (slot_at rows' n)
slots_without rows rows' r n vacant others = λ i k. (each k) i where
  each : (k : ℕ) → slot_at rows n k ≡ without_row r (slot_at rows' n) k
  each k = ⊎_elim
      (λ (e : k ≡ r). ap (λ x. slot_at rows n x) e ∙ ap (λ o. option_map (λ _. slot_of (row_at rows r).cid n) o) vacant ∙ sym (cond-true (eqb k r) None (slot_at rows' n k) (eq-eqb k r e)))
      (λ (e : k ≢ r). ap (λ (row : Row). option_map (λ _. slot_of row.cid n) row.colour) (sym (others k e)) ∙ sym (cond-false (eqb k r) None (slot_at rows' n k) (ne_eqb k r e)))
      (cases_eq k r)

module _ (rows rows' : List Row) (r : ℕ) (others : (k : ℕ) → k ≢ r → row_at rows' k ≡ row_at rows k) where
  has_still : (k : ℕ) (q : List ℕ) → k ≢ r → HasCid rows' k q → HasCid rows k q
  has_still k q e has = record { live = ap (λ (x : Row). is_some x.colour) (sym (others k e)) ∙ has.live; is = ap (λ (x : Row). x.cid) (sym (others k e)) ∙ has.is }

  grey_still : (k : ℕ) → k ≢ r → IsGrey rows k → IsGrey rows' k
  grey_still k e grey = ap (λ (x : Row). x.colour) (others k e) ∙ grey

-- a vacant row has a CID that no row had, and is white
module _ (rows rows' : List Row) (r : ℕ) (cid : List ℕ) (others : (k : ℕ) → k ≢ r → row_at rows' k ≡ row_at rows k)
    (was : (row_at rows r).colour ≡ None) (is : (row_at rows' r).cid ≡ cid) (white : (row_at rows' r).colour ≡ Some White)
    (distinct : AreDistinct rows) (absent : (k : ℕ) → HasCid rows k cid → ⊥) where
  pub added_distinct : AreDistinct rows'
  added_distinct a b q x y = ⊎_elim
      (λ (ea : a ≡ r). ⊎_elim
      (λ (eb : b ≡ r). ea ∙ sym eb)
      (λ (eb : b ≢ r). absurd (absent b (subst (λ p. HasCid rows b p) (sym (subst (λ k. HasCid rows' k q) ea x).is ∙ is) (has_still rows rows' r others b q eb y))))
      (cases_eq b r))
      (λ (ea : a ≢ r). ⊎_elim
      (λ (eb : b ≡ r). absurd (absent a (subst (λ p. HasCid rows a p) (sym (subst (λ k. HasCid rows' k q) eb y).is ∙ is) (has_still rows rows' r others a q ea x))))
      (λ (eb : b ≢ r). distinct a b q (has_still rows rows' r others a q ea x) (has_still rows rows' r others b q eb y))
      (cases_eq b r))
      (cases_eq a r)

  pub added_marks : marks_of rows' ≡ finite_map.insert (marks_of rows) cid (record { row = r; colour = White })
  added_marks = marks_changed rows rows' r cid distinct added_distinct others (λ q has. absurd (not_live _ was has.live)) (λ q has. sym has.is ∙ is) White is white

  added_none : finite_map.get (marks_of rows) cid ≡ None
  added_none = go (finite_map.get (marks_of rows) cid) refl where
    go : (o : Option Mark) → finite_map.get (marks_of rows) cid ≡ o → finite_map.get (marks_of rows) cid ≡ None
    go None e = e
    go (Some mark) e = absurd (absent mark.row (has_cid_of_mark rows cid mark e))

  pub added_len : finite_map.len (marks_of rows') ≡ finite_map.len (marks_of rows) + 1
  added_len = ap finite_map.len added_marks ∙ len_added (marks_of rows) cid (record { row = r; colour = White }) added_none

  pub added_count : (colour : Colour) → same_colour colour White ≡ false → count_in colour (marks_of rows') ≡ count_in colour (marks_of rows)
  added_count colour other =
      let count = count_insert colour (marks_of rows) cid (record { row = r; colour = White }) in
      let a = ap (λ o. one (has_colour colour o)) added_none in
      let b = ap one other in
      ap (count_in colour) added_marks ∙ omega arith

  pub added_greys : (links : List ℕ) (n top : ℕ) → IsStack (IsGrey rows) links n top → IsStack (IsGrey rows') links n top
  added_greys links n top stack = same_stack (IsGrey rows) (IsGrey rows') links links
      (λ k grey. grey_still rows rows' r others k (λ e. not_live _ was (live_of _ Grey (subst (λ x. IsGrey rows x) e grey))) grey) (λ _ _. refl) n top stack

pub added_sound : (m m' : Inside) → IsSound m → (r : ℕ) (cid : List ℕ) → ((k : ℕ) → k ≢ r → row_at m'.rows.items k ≡ row_at m.rows.items k)
    → (row_at m.rows.items r).colour ≡ None → (row_at m'.rows.items r).cid ≡ cid → (row_at m'.rows.items r).colour ≡ Some White
    → ((k : ℕ) → HasCid m.rows.items k cid → ⊥)
    → m'.links ≡ m.links → m'.greys ≡ m.greys → m'.live ≡ m.live + 1 → m'.out ≡ m.out → m'.limit ≡ m.limit
    → Indexes m'.rows.items m'.index → length m'.index.heads.items ≡ length m.index.heads.items → length m'.index.below.items ≡ length m.index.below.items
    → IsStack (IsVacant m'.rows.items) m.links.items m'.vacant.len m'.vacant.top
    → length m'.rows.items + m.vacant.len ≡ length m.rows.items + m'.vacant.len + 1 → length m'.rows.items ≤ length m.index.heads.items
    → vec_capacity m'.rows ≡ vec_capacity m.rows → IsSound m'
added_sound m m' sound r cid others was is white absent links greys live out limit index heads below vacant count rows capacity =
    let old = m.rows.items in
    let new = m'.rows.items in
    record {
      distinct = added_distinct old new r cid others was is white sound.distinct absent;
      index = index;
      vacant = subst (λ x. IsStack (IsVacant new) x.items m'.vacant.len m'.vacant.top) (sym links) vacant;
      greys = subst (λ x. IsStack (IsGrey new) m'.links.items x.len x.top) (sym greys)
          (subst (λ x. IsStack (IsGrey new) x.items m.greys.len m.greys.top) (sym links)
          (added_greys old new r cid others was is white sound.distinct absent m.links.items m.greys.len m.greys.top sound.greys));
      live = omega (arith, live, sound.live, added_len old new r cid others was is white sound.distinct absent);
      grey = ap (λ x. x.len) greys ∙ sound.grey ∙ sym (added_count old new r cid others was is white sound.distinct absent Grey refl);
      out = out ∙ sound.out ∙ sym (added_count old new r cid others was is white sound.distinct absent Out refl);
      used = omega (arith, live, sound.used, count);
      rows = omega (arith, rows, heads);
      links = omega (arith, sound.links, heads, ap (λ x. length x.items) links);
      below = omega (arith, sound.below, heads, below);
      room = omega (arith, sound.room, heads, capacity);
      limit = omega (arith, sound.limit, heads, limit);
      small = omega (arith, sound.small, limit);
    }

-- a white row is vacant
module _ (rows rows' : List Row) (r : ℕ) (cid : List ℕ) (others : (k : ℕ) → k ≢ r → row_at rows' k ≡ row_at rows k)
    (has : HasCid rows r cid) (white : (row_at rows r).colour ≡ Some White) (gone : (row_at rows' r).colour ≡ None) (long : length rows' ≡ length rows)
    (distinct : AreDistinct rows) where
  still : (k : ℕ) (q : List ℕ) → HasCid rows' k q → HasCid rows k q
  still k q x = has_still rows rows' r others k q (λ e. not_live _ gone (subst (λ y. HasCid rows' y q) e x).live) x

  pub removed_distinct : AreDistinct rows'
  removed_distinct a b q x y = distinct a b q (still a q x) (still b q y)

  pub removed_marks : marks_of rows' ≡ finite_map.remove (marks_of rows) cid
  removed_marks = mark_gone rows rows' r cid distinct removed_distinct others (λ q x. sym x.is ∙ has.is) (λ q x. absurd (not_live _ gone x.live)) has gone

  pub removed_was : finite_map.get (marks_of rows) cid ≡ Some (record { row = r; colour = White })
  removed_was = mark_of_row rows distinct r cid White has.is white

  pub removed_len : finite_map.len (marks_of rows') + 1 ≡ finite_map.len (marks_of rows)
  removed_len = ap (λ marks. finite_map.len marks + 1) removed_marks ∙ len_removed (marks_of rows) cid (record { row = r; colour = White }) removed_was

  pub removed_count : (colour : Colour) → same_colour colour White ≡ false → count_in colour (marks_of rows') ≡ count_in colour (marks_of rows)
  removed_count colour other =
      let count = count_remove colour (marks_of rows) cid in
      let a = ap (λ o. one (has_colour colour o)) removed_was ∙ ap one other in
      ap (count_in colour) removed_marks ∙ omega arith

  pub removed_greys : (links links' : List ℕ) (n top : ℕ) → ((k : ℕ) → k ≢ r → get_or links' k 0 ≡ get_or links k 0) → IsStack (IsGrey rows) links n top → IsStack (IsGrey rows') links' n top
  removed_greys links links' n top kept stack =
      let apart : (k : ℕ) → IsGrey rows k → k ≢ r = λ k grey e. let is : Some White ≡ Some Grey = sym white ∙ subst (λ x. IsGrey rows x) e grey in
      true≢false (ap (same_colour White) (same_Some White Grey is)) in
      same_stack (IsGrey rows) (IsGrey rows') links links' (λ k grey. grey_still rows rows' r others k (apart k grey) grey) (λ k grey. kept k (apart k grey)) n top stack

  pub removed_vacant : (links links' : List ℕ) (n n' top : ℕ) → r < length rows → n' ≡ n + 1 → ((k : ℕ) → k ≢ r → get_or links' k 0 ≡ get_or links k 0) → get_or links' r 0 ≡ top
      → IsStack (IsVacant rows) links n top → IsStack (IsVacant rows') links' n' r
  removed_vacant links links' n n' top in' count kept link stack =
      pushed (IsVacant rows) (IsVacant rows') links links' n n' top r count (λ v. none-some White (sym v.is ∙ white)) (record { within = omega (arith, in', long); is = gone })
      (λ k v. record { within = omega (arith, v.within, long); is = ap (λ (x : Row). x.colour) (others k (λ e. none-some White (sym v.is ∙ ap (λ x. (row_at rows x).colour) e ∙ white))) ∙ v.is })
      kept link stack

pub removed_sound : (m m' : Inside) → IsSound m → (r : ℕ) (cid : List ℕ) → ((k : ℕ) → k ≢ r → row_at m'.rows.items k ≡ row_at m.rows.items k)
    → HasCid m.rows.items r cid → (row_at m.rows.items r).colour ≡ Some White → (row_at m'.rows.items r).colour ≡ None → length m'.rows.items ≡ length m.rows.items
    → m'.links.items ≡ set m.links.items r m.vacant.top → m'.greys ≡ m.greys → m'.live + 1 ≡ m.live → m'.out ≡ m.out → m'.limit ≡ m.limit
    → IndexesOthers m.rows.items r m'.index → length m'.index.heads.items ≡ length m.index.heads.items → length m'.index.below.items ≡ length m.index.below.items
    → m'.vacant.len ≡ m.vacant.len + 1 → m'.vacant.top ≡ r
    → vec_capacity m'.rows ≡ vec_capacity m.rows → IsSound m'
removed_sound m m' sound r cid others has white gone long links greys live out limit index heads below vacant top capacity =
    let old = m.rows.items in
    let new = m'.rows.items in
    let in' = coloured_within old r has.live in
    let in_links : r < length m.links.items = omega (arith, sound.rows, sound.links) in
    let kept : (k : ℕ) → k ≢ r → get_or m'.links.items k 0 ≡ get_or m.links.items k 0 = λ k e. ap (λ xs. get_or xs k 0) links ∙ get_or-set_other m.links.items r k m.vacant.top 0 e in
    let link : get_or m'.links.items r 0 ≡ m.vacant.top = ap (λ xs. get_or xs r 0) links ∙ get_or-set_same m.links.items r m.vacant.top 0 in_links in
    record {
      distinct = removed_distinct old new r cid others has white gone long sound.distinct;
      index = subst (λ f. IsChained f m'.index.heads.items m'.index.below.items) (sym (slots_without new old r (length m'.index.heads.items) gone (λ k e. sym (others k e)))) index;
      vacant = subst (λ x. IsStack (IsVacant new) m'.links.items m'.vacant.len x) (sym top)
          (removed_vacant old new r cid others has white gone long sound.distinct m.links.items m'.links.items m.vacant.len m'.vacant.len m.vacant.top in' vacant kept link sound.vacant);
      greys = subst (λ x. IsStack (IsGrey new) m'.links.items x.len x.top) (sym greys)
          (removed_greys old new r cid others has white gone long sound.distinct m.links.items m'.links.items m.greys.len m.greys.top kept sound.greys);
      live = omega (arith, live, sound.live, removed_len old new r cid others has white gone long sound.distinct);
      grey = ap (λ x. x.len) greys ∙ sound.grey ∙ sym (removed_count old new r cid others has white gone long sound.distinct Grey refl);
      out = out ∙ sound.out ∙ sym (removed_count old new r cid others has white gone long sound.distinct Out refl);
      used = omega (arith, live, sound.used, vacant, long);
      rows = omega (arith, sound.rows, heads, long);
      links = omega (arith, sound.links, heads, ap length links, length-set m.links.items r m.vacant.top);
      below = omega (arith, sound.below, heads, below);
      room = omega (arith, sound.room, heads, capacity);
      limit = omega (arith, sound.limit, heads, limit);
      small = omega (arith, sound.small, limit);
    }

-- a row is vacant, and the others are as they were
pub record Vacated (rows rows' : List Row) (r : ℕ) : Type 0 where
  pub others : (k : ℕ) → k ≢ r → row_at rows' k ≡ row_at rows k
  pub gone : (row_at rows' r).colour ≡ None
  pub long : length rows' ≡ length rows

pub vacated_from : (rows rows' : List Row) (r : ℕ) → r < length rows → rows' ≡ with_colour rows r None → Vacated rows rows' r
vacated_from rows rows' r in' set_to =
    let row : Row = record (row_at rows r) { colour = None } in
    record {
      others = λ k other. ap (λ xs. row_at xs k) set_to ∙ get_or-set_other rows r k row no_row other;
      gone = ap (λ xs. (row_at xs r).colour) set_to ∙ ap (λ (x : Row). x.colour) (get_or-set_same rows r row no_row in');
      long = ap length set_to ∙ length-set rows r row;
    }
