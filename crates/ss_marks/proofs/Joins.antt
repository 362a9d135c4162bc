-- A row joins the chain of its slot, or leaves it.
use Rattle.std.proofs.Common.{◌≡◌, ◌≢◌, ℕ, ◌+◌, ◌-◌, ◌<◌, ◌≤◌, Bool, true, false, cond, eqb, List, length, get_or, set, Option, None, Some, refl, sym, ap, subst, ◌∙◌, ⊎_elim, arith, length-set}
use Rattle.std.proofs.lemmas.Bool.{cases_eq, cases_lt, eq-eqb, ne_eqb, cond-true, cond-false}
use Rattle.std.proofs.lemmas.List.{get_or-set_same, get_or-set_other}
use Rattle.std.proofs.lemmas.Option.{same_Some, none-some}
use Rattle.ss_marks.specs.Index.{IsLast, IsChained, IsAbove, pointer_of, without_row}
use Rattle.ss_marks.proofs.Walks.{pointer_head, pointer_link}
use Rattle.ss_marks.proofs.Chains.{rechained}

module _ (slots : ℕ → Option ℕ) (row : ℕ) where
  gone : without_row row slots row ≡ None
  gone = cond-true (eqb row row) None (slots row) (eq-eqb row row refl)

  left : (r : ℕ) → r ≢ row → without_row row slots r ≡ slots r
  left r other = cond-false (eqb r row) None (slots r) (ne_eqb r row other)

-- a list that is written at one place, or not
module _ (b : Bool) (xs : List ℕ) (i v : ℕ) where
  length_either : length (cond b (set xs i v) xs) ≡ length xs
  length_either = elim b as (λ t. length (cond t (set xs i v) xs) ≡ length xs) [ true ↦ length-set xs i v | false ↦ refl ]

  read_other : (k : ℕ) → (b ≡ true → k ≢ i) → get_or (cond b (set xs i v) xs) k 0 ≡ get_or xs k 0
  read_other k other =
      elim b as (λ t. (t ≡ true → k ≢ i) → get_or (cond t (set xs i v) xs) k 0 ≡ get_or xs k 0) [ true ↦ λ o. get_or-set_other xs i k v 0 (o refl) | false ↦ λ o. refl ] other

  read_here : b ≡ true → i < length xs → get_or (cond b (set xs i v) xs) i 0 ≡ v
  read_here is in' = ap (λ ys. get_or ys i 0) (cond-true b (set xs i v) xs is) ∙ get_or-set_same xs i v 0 in'

  length_else : length (cond b xs (set xs i v)) ≡ length xs
  length_else = elim b as (λ t. length (cond t xs (set xs i v)) ≡ length xs) [ true ↦ refl | false ↦ length-set xs i v ]

  else_other : (k : ℕ) → (b ≡ false → k ≢ i) → get_or (cond b xs (set xs i v)) k 0 ≡ get_or xs k 0
  else_other k other =
      elim b as (λ t. (t ≡ false → k ≢ i) → get_or (cond t xs (set xs i v)) k 0 ≡ get_or xs k 0) [ true ↦ λ o. refl | false ↦ λ o. get_or-set_other xs i k v 0 (o refl) ] other

  else_here : b ≡ false → i < length xs → get_or (cond b xs (set xs i v)) i 0 ≡ v
  else_here is in' = ap (λ ys. get_or ys i 0) (cond-false b xs (set xs i v) is) ∙ get_or-set_same xs i v 0 in'

pub length_heads : (above : ℕ) (heads : List ℕ) (slot v : ℕ) → length (cond (eqb above 0) (set heads slot v) heads) ≡ length heads
length_heads above heads slot v = length_either (eqb above 0) heads slot v

eqb_zero : (n : ℕ) → eqb n 0 ≡ true → n ≡ 0
eqb_zero n is = ⊎_elim (λ (e : n ≡ 0). e) (λ (e : n ≢ 0). absurd (let no = ne_eqb n 0 e in cc)) (cases_eq n 0)

eqb_some : (n : ℕ) → eqb n 0 ≡ false → 0 < n
eqb_some n is = ⊎_elim (λ (e : n ≡ 0). absurd (let yes = eq-eqb n 0 e in cc)) (λ (e : n ≢ 0). omega arith) (cases_eq n 0)

module _ (f : ℕ → Option ℕ) (heads below : List ℕ) (slot above : ℕ) (chained : IsChained f heads below) (slot_in : slot < length heads) where
  pointer_last_head : above ≡ 0 → IsLast (λ r. f r ≡ Some slot) (length below) (pointer_of heads below slot above)
  pointer_last_head z = subst (λ x. IsLast (λ r. f r ≡ Some slot) (length below) x) (sym (pointer_head heads below slot above z)) (chained.head slot slot_in)

  pointer_last_link : 0 < above → f (above - 1) ≡ Some slot → IsLast (λ r. f r ≡ Some slot) (above - 1) (pointer_of heads below slot above)
  pointer_last_link some is = subst (λ x. IsLast (λ r. f r ≡ Some slot) (above - 1) x) (sym (pointer_link heads below slot above some)) (chained.next (above - 1) slot is)

module _ (slots : ℕ → Option ℕ) (heads below : List ℕ) (slot row above : ℕ) (is_above : IsAbove heads below slot row above)
    (slot_in : slot < length heads) (row_in : row < length below) (is : slots row ≡ Some slot) where
  module _ (chained : IsChained (without_row row slots) heads below) where
    member : 0 < above → without_row row slots (above - 1) ≡ Some slot
    member = is_above.member (without_row row slots) chained

    below_row : (n : ℕ) → IsLast (λ r. without_row row slots r ≡ Some slot) n (pointer_of heads below slot above) → pointer_of heads below slot above ≤ row
    below_row n old = ⊎_elim
        (λ (e : pointer_of heads below slot above ≡ row + 1). absurd (none-some slot (sym (gone slots row) ∙ subst (λ x. without_row row slots x ≡ Some slot) (omega arith) (old.here (omega arith)))))
        (λ (e : pointer_of heads below slot above ≢ row + 1). omega (arith, is_above.stops))
        (cases_eq (pointer_of heads below slot above) (row + 1))

    now_last : (n : ℕ) → row + 1 ≤ n → IsLast (λ r. without_row row slots r ≡ Some slot) n (pointer_of heads below slot above) → IsLast (λ r. slots r ≡ Some slot) n (row + 1)
    now_last n low old = let under = below_row n old in record {
      bound = low;
      here = λ _. subst (λ x. slots x ≡ Some slot) (let e : row ≡ row + 1 - 1 = omega arith in e) is;
      none = λ r from to at. old.none r (omega arith) to (left slots row r (λ e. omega arith) ∙ at);
    }

    link_last : (n : ℕ) → row < n → IsLast (λ r. without_row row slots r ≡ Some slot) n (pointer_of heads below slot above) → (s : ℕ) → slots row ≡ Some s → IsLast (λ r. slots r ≡ Some s) row (pointer_of heads below slot above)
    link_last n high old s at = let under = below_row n old in
        subst (λ x. IsLast (λ r. slots r ≡ Some x) row (pointer_of heads below slot above)) (same_Some slot s (sym is ∙ at)) (record {
          bound = under;
          here = λ some. sym (left slots row _ (λ e. omega arith)) ∙ old.here some;
          none = λ r from to at. old.none r from (omega arith) (left slots row r (λ e. omega arith) ∙ at);
        })

    some_last : (P : Type 0) → ((n : ℕ) → row < n → IsLast (λ r. without_row row slots r ≡ Some slot) n (pointer_of heads below slot above) → P) → P
    some_last P gives = ⊎_elim
        (λ (z : above ≡ 0). gives (length below) row_in (pointer_last_head (without_row row slots) heads below slot above chained slot_in z))
        (λ (z : above ≢ 0). let some : 0 < above = omega arith in gives (above - 1) (omega (arith, is_above.higher some)) (pointer_last_link (without_row row slots) heads below slot above chained slot_in some (member some)))
        (cases_eq above 0)

    pub inserted : (heads' below₁ below' : List ℕ) → below₁ ≡ set below row (pointer_of heads below slot above)
        → heads' ≡ cond (eqb above 0) (set heads slot (row + 1)) heads
        → below' ≡ cond (eqb above 0) below₁ (set below₁ (above - 1) (row + 1))
        → IsChained slots heads' below'
    inserted heads' below₁ below' first' top link =
        let P = pointer_of heads below slot above in
        let long : length below₁ ≡ length below = ap length first' ∙ length-set below row P in
        let b = eqb above 0 in
        let high = is_above.within in
        rechained (without_row row slots) slots heads below slot row above chained is_above (λ r other. sym (left slots row r other))
        (λ s at. absurd (none-some s (sym (gone slots row) ∙ at))) (λ s at. same_Some s slot (sym at ∙ is)) slot_in row_in
        heads' below' (row + 1) P
        (ap length top ∙ length_either b heads slot (row + 1))
        (ap length link ∙ length_else b below₁ (above - 1) (row + 1) ∙ long)
        (λ z. ap (λ xs. get_or xs slot 0) top ∙ read_here b heads slot (row + 1) (eq-eqb above 0 z) slot_in)
        (λ s other. ap (λ xs. get_or xs s 0) top ∙ read_other b heads slot (row + 1) s (λ e. other (eqb_zero above e)))
        (λ some. ap (λ xs. get_or xs (above - 1) 0) link ∙ else_here b below₁ (above - 1) (row + 1) (ne_eqb above 0 (omega arith)) (omega arith))
        (ap (λ xs. get_or xs row 0) link ∙ else_other b below₁ (above - 1) (row + 1) row (λ e same. omega (arith, is_above.higher (eqb_some above e)))
        ∙ ap (λ xs. get_or xs row 0) first' ∙ get_or-set_same below row P 0 row_in)
        (λ r other apart. ap (λ xs. get_or xs r 0) link ∙ else_other b below₁ (above - 1) (row + 1) r (λ e. apart (eqb_some above e))
        ∙ ap (λ xs. get_or xs r 0) first' ∙ get_or-set_other below row r P 0 other)
        (λ z. now_last (length below) (omega arith) (pointer_last_head (without_row row slots) heads below slot above chained slot_in z))
        (λ some. now_last (above - 1) (omega (arith, is_above.higher some)) (pointer_last_link (without_row row slots) heads below slot above chained slot_in some (member some)))
        (some_last (P ≤ row) (λ n _ old. below_row n old))
        (λ s at. some_last (IsLast (λ r. slots r ≡ Some s) row P) (λ n more old. link_last n more old s at))

  module _ (chained : IsChained slots heads below) where
    at_row : (n : ℕ) → row < n → IsLast (λ r. slots r ≡ Some slot) n (pointer_of heads below slot above) → row + 1 ≤ pointer_of heads below slot above
    at_row n high old = ⊎_elim
        (λ (l : row < pointer_of heads below slot above). omega arith)
        (λ (l : pointer_of heads below slot above ≤ row). absurd (old.none row l high is))
        (cases_lt row (pointer_of heads below slot above))

    left_last : (n : ℕ) → row < n → IsLast (λ r. slots r ≡ Some slot) n (pointer_of heads below slot above) → IsLast (λ r. without_row row slots r ≡ Some slot) n (get_or below row 0)
    left_last n high old = let next = chained.next row slot is in let under = next.bound in let over = at_row n high old in record {
      bound = omega arith;
      here = λ some. left slots row _ (λ e. omega arith) ∙ next.here some;
      none = λ r from to at. ⊎_elim
          (λ (e : r ≡ row). none-some slot (sym (gone slots row) ∙ subst (λ x. without_row row slots x ≡ Some slot) e at))
          (λ (e : r ≢ row). let was : slots r ≡ Some slot = sym (left slots row r e) ∙ at in ⊎_elim
          (λ (l : r < row). next.none r from l was)
          (λ (l : row ≤ r). let stops = is_above.stops in old.none r (omega arith) to was)
          (cases_lt r row))
          (cases_eq r row);
    }

    pub removed : (heads' below' : List ℕ)
        → heads' ≡ cond (eqb above 0) (set heads slot (get_or below row 0)) heads
        → below' ≡ cond (eqb above 0) below (set below (above - 1) (get_or below row 0))
        → IsChained (without_row row slots) heads' below'
    removed heads' below' top link =
        let v = get_or below row 0 in
        let b = eqb above 0 in
        let high = is_above.within in
        rechained slots (without_row row slots) heads below slot row above chained is_above (λ r other. left slots row r other)
        (λ s at. same_Some s slot (sym at ∙ is)) (λ s at. absurd (none-some s (sym (gone slots row) ∙ at))) slot_in row_in
        heads' below' v v
        (ap length top ∙ length_either b heads slot v)
        (ap length link ∙ length_else b below (above - 1) v)
        (λ z. ap (λ xs. get_or xs slot 0) top ∙ read_here b heads slot v (eq-eqb above 0 z) slot_in)
        (λ s other. ap (λ xs. get_or xs s 0) top ∙ read_other b heads slot v s (λ e. other (eqb_zero above e)))
        (λ some. ap (λ xs. get_or xs (above - 1) 0) link ∙ else_here b below (above - 1) v (ne_eqb above 0 (omega arith)) (omega arith))
        (ap (λ xs. get_or xs row 0) link ∙ else_other b below (above - 1) v row (λ e same. omega (arith, is_above.higher (eqb_some above e))))
        (λ r other apart. ap (λ xs. get_or xs r 0) link ∙ else_other b below (above - 1) v r (λ e. apart (eqb_some above e)))
        (λ z. left_last (length below) row_in (pointer_last_head slots heads below slot above chained slot_in z))
        (λ some. left_last (above - 1) (omega (arith, is_above.higher some)) (pointer_last_link slots heads below slot above chained slot_in some (is_above.member slots chained some)))
        (chained.falling.falls row)
        (λ s at. absurd (none-some s (sym (gone slots row) ∙ at)))
