-- The marks that rows are.
use Rattle.std.proofs.Common.{◌≡◌, ◌≢◌, ℕ, zero, suc, ◌+◌, ◌-◌, ◌≤◌, Bool, true, false, cond, List, [], ◌∷◌, length, Option, None, Some, is_some, refl, sym, ap, subst, ◌∙◌, ⊎_elim, arith}
use Rattle.std.specs.Prelude.{option_map, IsSome}
use Rattle.std.proofs.lemmas.Bool.{cases_eq, true≢false}
use Rattle.std.proofs.lemmas.Option.{same_Some, none-some}
use Rattle.std.specs.Ordering.{nat_cmp, eq_by_cmp, is_eq}
use Rattle.std.specs.Cmp.{tied_itself, Equal-is}
use Rattle.std.specs.Cmp.Lexicographic.{slice_cmp}
use Rattle.std.specs.FinMap as finite_map
use Rattle.std.specs.FinMap.{find}
use Rattle.ss_marks.specs.declared.colour.Colour.{Colour}
use Rattle.ss_marks.specs.declared.row.Row.{Row}
use Rattle.ss_marks.specs.Marks.{Mark, same_colour, count_in}
use Rattle.ss_marks.specs.Rows.{no_row, row_at, HasCid, with_entry, entries_from, marks_of}
use Rattle.ss_marks.proofs.Colours.{by_bytes, exact, one, count_insert, count_of_none}

abbrev pub eq_cid : List ℕ → List ℕ → Bool
eq_cid q cid = eq_by_cmp (slice_cmp nat_cmp) q cid

pub eq_cid-itself : (q cid : List ℕ) → q ≡ cid → eq_cid q cid ≡ true
eq_cid-itself q cid is = ap (λ x. eq_cid q x) (sym is) ∙ ap is_eq (tied_itself by_bytes q)

pub eq_cid-true : (q cid : List ℕ) → eq_cid q cid ≡ true → q ≡ cid
eq_cid-true q cid is = exact q cid ((Equal-is (slice_cmp nat_cmp q cid)).0 is)

-- a mark is that of a row, counted from a first one
record IsEntry (rows : List Row) (n : ℕ) (q : List ℕ) (mark : Mark) : Type 0 where
  at : ℕ
  number : mark.row ≡ n + at
  cid : (row_at rows at).cid ≡ q
  colour : (row_at rows at).colour ≡ Some mark.colour

none_live : IsSome (no_row).colour → ⊥
none_live is = true≢false (sym is)

either_some : (b : Bool) (x : Mark) (o : Option Mark) → is_some o ≡ true → is_some (cond b (Some x) o) ≡ true
either_some true x o is = refl
either_some false x o is = is

more_some : (cid q : List ℕ) (n : ℕ) (o : Option Colour) (es : List (List ℕ × Mark)) → is_some (find (slice_cmp nat_cmp) q es) ≡ true → is_some (find (slice_cmp nat_cmp) q (with_entry cid n o es)) ≡ true
more_some cid q n None es is = is
more_some cid q n (Some c) es is = either_some (eq_cid q cid) (record { row = n; colour = c }) (find (slice_cmp nat_cmp) q es) is

first_some : (cid q : List ℕ) (n : ℕ) (o : Option Colour) (es : List (List ℕ × Mark)) → IsSome o → cid ≡ q → is_some (find (slice_cmp nat_cmp) q (with_entry cid n o es)) ≡ true
first_some cid q n None es live is = absurd (true≢false (sym live))
first_some cid q n (Some c) es live is = ap (λ b. is_some (cond b (Some (record { row = n; colour = c })) (find (slice_cmp nat_cmp) q es))) (eq_cid-itself q cid (sym is))

-- a row is found by its CID
finds : (rows : List Row) (n r : ℕ) (q : List ℕ) → HasCid rows r q → is_some (find (slice_cmp nat_cmp) q (entries_from n rows)) ≡ true
finds [] n r q has = absurd (none_live has.live)
finds (row ∷ rows) n zero q has = first_some row.cid q n row.colour (entries_from (n + 1) rows) has.live has.is
finds (row ∷ rows) n (suc r) q has = more_some row.cid q n row.colour (entries_from (n + 1) rows) (finds rows (n + 1) r q (record { live = has.live; is = has.is }))

later : (row : Row) (rows : List Row) (n : ℕ) (q : List ℕ) (mark : Mark) → IsEntry rows (n + 1) q mark → IsEntry (row ∷ rows) n q mark
later row rows n q mark e = record { at = suc e.at; number = omega (arith, e.number); cid = e.cid; colour = e.colour }

first_or_later : (row : Row) (rows : List Row) (n : ℕ) (q : List ℕ) (mark : Mark)
    → (find (slice_cmp nat_cmp) q (entries_from (n + 1) rows) ≡ Some mark → IsEntry rows (n + 1) q mark)
    → (o : Option Colour) → row.colour ≡ o → find (slice_cmp nat_cmp) q (with_entry row.cid n o (entries_from (n + 1) rows)) ≡ Some mark → IsEntry (row ∷ rows) n q mark
first_or_later row rows n q mark rest None is found' = later row rows n q mark (rest found')
first_or_later row rows n q mark rest (Some c) is found' =
    elim (eq_cid q row.cid) as (λ b. eq_cid q row.cid ≡ b → cond b (Some (record { row = n; colour = c })) (find (slice_cmp nat_cmp) q (entries_from (n + 1) rows)) ≡ Some mark → IsEntry (row ∷ rows) n q mark) [
      | true ↦ λ e f. let m = same_Some (record { row = n; colour = c }) mark f in
          record { at = zero; number = omega (arith, ap (λ (x : Mark). x.row) m); cid = sym (eq_cid-true q row.cid e); colour = is ∙ ap (λ (x : Mark). Some x.colour) m }
      | false ↦ λ e f. later row rows n q mark (rest f)
    ] refl found'

entry : (rows : List Row) (n : ℕ) (q : List ℕ) (mark : Mark) → find (slice_cmp nat_cmp) q (entries_from n rows) ≡ Some mark → IsEntry rows n q mark
entry [] n q mark found' = absurd (none-some mark found')
entry (row ∷ rows) n q mark found' = first_or_later row rows n q mark (entry rows (n + 1) q mark) row.colour refl found'

some_of : (o : Option Mark) → is_some o ≡ true → (mark : Mark) × (o ≡ Some mark)
some_of None is = absurd (true≢false (sym is))
some_of (Some mark) is = (mark, refl)

pub get_is : (rows : List Row) (q : List ℕ) → finite_map.get (marks_of rows) q ≡ find (slice_cmp nat_cmp) q (entries_from 0 rows)
get_is rows q = finite_map.get-from_entries by_bytes (entries_from 0 rows) q

-- what a mark says of its row
pub record IsRow (rows : List Row) (q : List ℕ) (mark : Mark) : Type 0 where
  pub cid : (row_at rows mark.row).cid ≡ q
  pub colour : (row_at rows mark.row).colour ≡ Some mark.colour

pub row_of_mark : (rows : List Row) (q : List ℕ) (mark : Mark) → finite_map.get (marks_of rows) q ≡ Some mark → IsRow rows q mark
row_of_mark rows q mark is =
    let e = entry rows 0 q mark (sym (get_is rows q) ∙ is) in
    let number : e.at ≡ mark.row = omega (arith, e.number) in
    record { cid = ap (λ x. (row_at rows x).cid) (sym number) ∙ e.cid; colour = ap (λ x. (row_at rows x).colour) (sym number) ∙ e.colour }

live_of : (o : Option Colour) (c : Colour) → o ≡ Some c → IsSome o
live_of o c is = ap is_some is

pub has_cid_of_mark : (rows : List Row) (q : List ℕ) (mark : Mark) → finite_map.get (marks_of rows) q ≡ Some mark → HasCid rows mark.row q
has_cid_of_mark rows q mark is = let r = row_of_mark rows q mark is in record { live = live_of _ mark.colour r.colour; is = r.cid }

-- no CID is in two rows
abbrev pub AreDistinct : List Row → Type 0
AreDistinct rows = (a b : ℕ) (cid : List ℕ) → HasCid rows a cid → HasCid rows b cid → a ≡ b

same_mark : (mark : Mark) (row : ℕ) (colour : Colour) → mark.row ≡ row → mark.colour ≡ colour → mark ≡ record { row = row; colour = colour }
same_mark mark row colour r c = λ i. record { row = r i; colour = c i }

-- the mark of a live row
pub mark_of_row : (rows : List Row) → AreDistinct rows → (r : ℕ) (q : List ℕ) (colour : Colour) → (row_at rows r).cid ≡ q → (row_at rows r).colour ≡ Some colour
    → finite_map.get (marks_of rows) q ≡ Some (record { row = r; colour = colour })
mark_of_row rows distinct r q colour cid is =
    let has : HasCid rows r q = record { live = live_of _ colour is; is = cid } in
    let m = some_of (finite_map.get (marks_of rows) q) (ap is_some (get_is rows q) ∙ finds rows 0 r q has) in
    let number : m.0.row ≡ r = distinct m.0.row r q (has_cid_of_mark rows q m.0 m.1) has in
    let at = row_of_mark rows q m.0 m.1 in
    m.1 ∙ ap Some (same_mark m.0 r colour number (same_Some m.0.colour colour (sym at.colour ∙ ap (λ x. (row_at rows x).colour) number ∙ is)))

-- two maps have one mark at a CID, where each row that has it in one has it in the other with its colour
pub same_mark_at : (rows rows' : List Row) (q : List ℕ) → AreDistinct rows → AreDistinct rows'
    → ((r : ℕ) → HasCid rows r q → row_at rows' r ≡ row_at rows r) → ((r : ℕ) → HasCid rows' r q → row_at rows' r ≡ row_at rows r)
    → finite_map.get (marks_of rows') q ≡ finite_map.get (marks_of rows) q
same_mark_at rows rows' q distinct distinct' to from = go (finite_map.get (marks_of rows) q) (finite_map.get (marks_of rows') q) refl refl where
  go : (o o' : Option Mark) → finite_map.get (marks_of rows) q ≡ o → finite_map.get (marks_of rows') q ≡ o' → finite_map.get (marks_of rows') q ≡ finite_map.get (marks_of rows) q
  go None None e e' = e' ∙ sym e
  go (Some m) o' e e' =
      let at = row_of_mark rows q m e in
      let same = to m.row (has_cid_of_mark rows q m e) in
      mark_of_row rows' distinct' m.row q m.colour (ap (λ (row : Row). row.cid) same ∙ at.cid) (ap (λ (row : Row). row.colour) same ∙ at.colour) ∙ sym e
  go None (Some m) e e' =
      let at = row_of_mark rows' q m e' in
      let same = from m.row (has_cid_of_mark rows' q m e') in
      e' ∙ sym (mark_of_row rows distinct m.row q m.colour (ap (λ (row : Row). row.cid) (sym same) ∙ at.cid) (ap (λ (row : Row). row.colour) (sym same) ∙ at.colour))

module _ (rows rows' : List Row) (r : ℕ) (cid : List ℕ) (distinct : AreDistinct rows) (distinct' : AreDistinct rows')
    (others : (k : ℕ) → k ≢ r → row_at rows' k ≡ row_at rows k)
    (was : (q : List ℕ) → HasCid rows r q → q ≡ cid) (now : (q : List ℕ) → HasCid rows' r q → q ≡ cid) where
  -- other CIDs keep their marks
  elsewhere : (q : List ℕ) → q ≢ cid → finite_map.get (marks_of rows') q ≡ finite_map.get (marks_of rows) q
  elsewhere q other = same_mark_at rows rows' q distinct distinct'
      (λ k has. others k (λ e. other (was q (subst (λ x. HasCid rows x q) e has))))
      (λ k has. others k (λ e. other (now q (subst (λ x. HasCid rows' x q) e has))))

  -- one row has a mark, which it had or had not before
  pub marks_changed : (colour : Colour) → (row_at rows' r).cid ≡ cid → (row_at rows' r).colour ≡ Some colour
      → marks_of rows' ≡ finite_map.insert (marks_of rows) cid (record { row = r; colour = colour })
  marks_changed colour is coloured = finite_map.same_map by_bytes exact _ _ (λ q. each q ∙ sym (finite_map.get-insert by_bytes (marks_of rows) cid (record { row = r; colour = colour }) q)) where
    each : (q : List ℕ) → finite_map.get (marks_of rows') q ≡ cond (eq_cid q cid) (Some (record { row = r; colour = colour })) (finite_map.get (marks_of rows) q)
    each q = elim (eq_cid q cid) as (λ b. eq_cid q cid ≡ b → finite_map.get (marks_of rows') q ≡ cond b (Some (record { row = r; colour = colour })) (finite_map.get (marks_of rows) q)) [
      | true ↦ λ e. mark_of_row rows' distinct' r q colour (is ∙ sym (eq_cid-true q cid e)) coloured
      | false ↦ λ e. elsewhere q (λ same. true≢false (sym (eq_cid-itself q cid same) ∙ e))
    ] refl

  -- one row has no mark any more
  pub mark_gone : HasCid rows r cid → (row_at rows' r).colour ≡ None → marks_of rows' ≡ finite_map.remove (marks_of rows) cid
  mark_gone has vacant = finite_map.same_map by_bytes exact _ _ (λ q. each q ∙ sym (finite_map.get-remove by_bytes (marks_of rows) cid q)) where
    gone : (q : List ℕ) → q ≡ cid → (o : Option Mark) → finite_map.get (marks_of rows') q ≡ o → o ≡ None
    gone q same None e = refl
    gone q same (Some m) e =
        let at = has_cid_of_mark rows' q m e in
        ⊎_elim
        (λ (z : m.row ≡ r). absurd (true≢false (sym at.live ∙ ap is_some (ap (λ x. (row_at rows' x).colour) z ∙ vacant))))
        (λ (z : m.row ≢ r). let old = others m.row z in
        absurd (z (distinct m.row r cid (record { live = ap (λ (row : Row). is_some row.colour) (sym old) ∙ at.live; is = ap (λ (row : Row). row.cid) (sym old) ∙ at.is ∙ same }) has)))
        (cases_eq m.row r)

    each : (q : List ℕ) → finite_map.get (marks_of rows') q ≡ cond (eq_cid q cid) None (finite_map.get (marks_of rows) q)
    each q = elim (eq_cid q cid) as (λ b. eq_cid q cid ≡ b → finite_map.get (marks_of rows') q ≡ cond b None (finite_map.get (marks_of rows) q)) [
      | true ↦ λ e. gone q (eq_cid-true q cid e) (finite_map.get (marks_of rows') q) refl
      | false ↦ λ e. elsewhere q (λ same. true≢false (sym (eq_cid-itself q cid same) ∙ e))
    ] refl

-- there are no more marks of a colour than rows
one_le : (b : Bool) → one b ≤ 1
one_le true = omega arith
one_le false = omega arith

count_entries : (colour : Colour) (es : List (List ℕ × Mark)) → count_in colour (finite_map.from_entries {R = slice_cmp nat_cmp} es) ≤ length es
count_entries colour [] =
    omega (arith, count_of_none colour finite_map.empty (λ cid is. none-some colour (sym (ap (option_map (λ (mark : Mark). mark.colour)) (finite_map.get-empty (slice_cmp nat_cmp) cid)) ∙ is)))
count_entries colour (e ∷ es) =
    omega (arith, count_entries colour es, count_insert colour (finite_map.from_entries {R = slice_cmp nat_cmp} es) e.0 e.1, one_le (same_colour colour e.1.colour))

length_with : (cid : List ℕ) (n : ℕ) (o : Option Colour) (es : List (List ℕ × Mark)) → length (with_entry cid n o es) ≤ length es + 1
length_with cid n None es = omega arith
length_with cid n (Some c) es = omega arith

length_entries : (n : ℕ) (rows : List Row) → length (entries_from n rows) ≤ length rows
length_entries n [] = omega arith
length_entries n (row ∷ rows) = omega (arith, length_with row.cid n row.colour (entries_from (n + 1) rows), length_entries (n + 1) rows)

pub count_bound : (colour : Colour) (rows : List Row) → count_in colour (marks_of rows) ≤ length rows
count_bound colour rows = omega (arith, count_entries colour (entries_from 0 rows), length_entries 0 rows)
