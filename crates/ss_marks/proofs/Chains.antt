-- How a chain changes where a row joins or leaves it.
use Rattle.std.proofs.Common.{◌≡◌, ◌≢◌, ℕ, ◌+◌, ◌-◌, ◌<◌, ◌≤◌, cond, eqb, List, length, get_or, Option, Some, sym, ap, subst, ◌∙◌, ⊎_elim, arith}
use Rattle.std.proofs.lemmas.Bool.{cases_eq, cases_lt, eq-eqb, ne_eqb}
use Rattle.std.proofs.lemmas.Option.{same_Some}
use Rattle.ss_marks.specs.Index.{IsLast, IsChained, IsAbove}

-- what is the last of a slot stays it, where the row that changes is neither it nor comes between
kept : (f g : ℕ → Option ℕ) (row s n last : ℕ) → ((r : ℕ) → r ≢ row → g r ≡ f r)
    → (0 < last → last - 1 ≢ row) → (last ≤ row → row < n → g row ≢ Some s)
    → IsLast (λ r. f r ≡ Some s) n last → IsLast (λ r. g r ≡ Some s) n last
kept f g row s n last same other apart old = record {
  bound = old.bound;
  here = λ some. same (last - 1) (other some) ∙ old.here some;
  none = λ r low high is. ⊎_elim
      (λ (at : r ≡ row). apart (subst (λ x. last ≤ x) at low) (subst (λ x. x < n) at high) (subst (λ x. g x ≡ Some s) at is))
      (λ (at : r ≢ row). old.none r low high (sym (same r at) ∙ is))
      (cases_eq r row);
}

module _ (f g : ℕ → Option ℕ) (heads below : List ℕ) (slot row above : ℕ)
    (chained : IsChained f heads below) (is_above : IsAbove heads below slot row above)
    (same : (r : ℕ) → r ≢ row → g r ≡ f r)
    (was : (s : ℕ) → f row ≡ Some s → s ≡ slot) (own : (s : ℕ) → g row ≡ Some s → s ≡ slot)
    (slot_in : slot < length heads) (row_in : row < length below) where
  at_head : above ≡ 0 → get_or heads slot 0 ≤ row + 1
  at_head none = subst (λ b. cond b (get_or heads slot 0) (get_or below (above - 1) 0) ≤ row + 1) (eq-eqb above 0 none) is_above.stops

  at_link : 0 < above → get_or below (above - 1) 0 ≤ row + 1
  at_link some = subst (λ b. cond b (get_or heads slot 0) (get_or below (above - 1) 0) ≤ row + 1) (ne_eqb above 0 (omega arith)) is_above.stops

  -- the head of the slot leads beyond the row, where the pointer is a link
  head_beyond : 0 < above → row + 1 < get_or heads slot 0
  head_beyond some = ⊎_elim
      (λ (l : row + 1 < get_or heads slot 0). l)
      (λ (l : get_or heads slot 0 ≤ row + 1). absurd ((chained.head slot slot_in).none (above - 1) (omega (arith, is_above.higher some)) (omega (arith, is_above.within)) (is_above.member f chained some)))
      (cases_lt (row + 1) (get_or heads slot 0))

  -- and so do the links of other rows of the slot that are greater
  link_beyond : (r : ℕ) → f r ≡ Some slot → row < r → (0 < above → r ≢ above - 1) → row + 1 < get_or below r 0
  link_beyond r is high other = ⊎_elim
      (λ (l : row + 1 < get_or below r 0). l)
      (λ (l : get_or below r 0 ≤ row + 1). absurd (⊎_elim
      (λ (z : above ≡ 0). (chained.head slot slot_in).none r (omega (arith, at_head z)) (chained.within r slot is).0 is)
      (λ (z : above ≢ 0). let some : 0 < above = omega arith in
      ⊎_elim
      (λ (b : r < above - 1). (chained.next (above - 1) slot (is_above.member f chained some)).none r (omega (arith, at_link some)) b is)
      (λ (b : above - 1 ≤ r). (chained.next r slot is).none (above - 1) (omega (arith, is_above.higher some)) (omega (arith, other some)) (is_above.member f chained some))
      (cases_lt r (above - 1)))
      (cases_eq above 0)))
      (cases_lt (row + 1) (get_or below r 0))

  -- the slot's pointer is set, and the row's link
  module _ (heads' below' : List ℕ) (now link : ℕ)
      (len_heads : length heads' ≡ length heads) (len_below : length below' ≡ length below)
      (head_now : above ≡ 0 → get_or heads' slot 0 ≡ now)
      (heads_same : (s : ℕ) → (above ≡ 0 → s ≢ slot) → get_or heads' s 0 ≡ get_or heads s 0)
      (link_now : 0 < above → get_or below' (above - 1) 0 ≡ now)
      (link_is : get_or below' row 0 ≡ link)
      (links_same : (r : ℕ) → r ≢ row → (0 < above → r ≢ above - 1) → get_or below' r 0 ≡ get_or below r 0)
      (now_head : above ≡ 0 → IsLast (λ r. g r ≡ Some slot) (length below) now)
      (now_link : 0 < above → IsLast (λ r. g r ≡ Some slot) (above - 1) now)
      (falls : link ≤ row)
      (link_last : (s : ℕ) → g row ≡ Some s → IsLast (λ r. g r ≡ Some s) row link) where
    tops : (s : ℕ) → get_or heads' s 0 ≤ length below'
    tops s = ⊎_elim
        (λ (z : above ≡ 0). ⊎_elim
        (λ (e : s ≡ slot). subst (λ x. get_or heads' x 0 ≤ length below') (sym e) (omega (arith, head_now z, (now_head z).bound)))
        (λ (e : s ≢ slot). omega (arith, heads_same s (λ _. e), chained.falling.tops s))
        (cases_eq s slot))
        (λ (z : above ≢ 0). omega (arith, heads_same s (λ (y : above ≡ 0). absurd (z y)), chained.falling.tops s))
        (cases_eq above 0)

    falling : (r : ℕ) → get_or below' r 0 ≤ r
    falling r = ⊎_elim
        (λ (e : r ≡ row). subst (λ x. get_or below' x 0 ≤ x) (sym e) (omega (arith, link_is)))
        (λ (e : r ≢ row). ⊎_elim
        (λ (some : 0 < above). ⊎_elim
        (λ (u : r ≡ above - 1). subst (λ x. get_or below' x 0 ≤ x) (sym u) (omega (arith, link_now some, (now_link some).bound)))
        (λ (u : r ≢ above - 1). omega (arith, links_same r e (λ _. u), chained.falling.falls r))
        (cases_eq r (above - 1)))
        (λ (z : above ≤ 0). omega (arith, links_same r e (λ (some : 0 < above). absurd (omega arith)), chained.falling.falls r))
        (cases_lt 0 above))
        (cases_eq r row)

    -- a row other than the one that changes is in the slot where it was
    stays : (r s : ℕ) → r ≢ row → g r ≡ Some s → f r ≡ Some s
    stays r s other is = sym (same r other) ∙ is

    within : (r s : ℕ) → g r ≡ Some s → (r < length below') × (s < length heads')
    within r s is = ⊎_elim
        (λ (e : r ≡ row). let at = own s (subst (λ x. g x ≡ Some s) e is) in (omega arith, omega arith))
        (λ (e : r ≢ row). let old = chained.within r s (stays r s e is) in (omega arith, omega arith))
        (cases_eq r row)

    -- what is the last of another slot
    elsewhere : (s n last : ℕ) → s ≢ slot → IsLast (λ r. f r ≡ Some s) n last → IsLast (λ r. g r ≡ Some s) n last
    elsewhere s n last apart old =
        kept f g row s n last same
        (λ some at. apart (was s (subst (λ x. f x ≡ Some s) at (old.here some))))
        (λ _ _ is. apart (own s is))
        old

    head : (s : ℕ) → s < length heads' → IsLast (λ r. g r ≡ Some s) (length below') (get_or heads' s 0)
    head s in' = ⊎_elim
        (λ (e : s ≡ slot). subst (λ x. IsLast (λ r. g r ≡ Some x) (length below') (get_or heads' x 0)) (sym e) (⊎_elim
        (λ (z : above ≡ 0). subst (λ n. IsLast (λ r. g r ≡ Some slot) n (get_or heads' slot 0)) (sym len_below) (subst (λ x. IsLast (λ r. g r ≡ Some slot) (length below) x) (sym (head_now z)) (now_head z)))
        (λ (z : above ≢ 0). let some : 0 < above = omega arith in let far = head_beyond some in
        subst (λ n. IsLast (λ r. g r ≡ Some slot) n (get_or heads' slot 0)) (sym len_below)
        (subst (λ x. IsLast (λ r. g r ≡ Some slot) (length below) x) (sym (heads_same slot (λ (y : above ≡ 0). absurd (z y))))
        (kept f g row slot (length below) (get_or heads slot 0) same (λ _ at. omega arith) (λ low _. absurd (omega arith)) (chained.head slot slot_in))))
        (cases_eq above 0)))
        (λ (e : s ≢ slot). subst (λ n. IsLast (λ r. g r ≡ Some s) n (get_or heads' s 0)) (sym len_below)
        (subst (λ x. IsLast (λ r. g r ≡ Some s) (length below) x) (sym (heads_same s (λ _. e)))
        (elsewhere s (length below) (get_or heads s 0) e (chained.head s (omega arith)))))
        (cases_eq s slot)

    -- a row of the slot other than the one that changes, whose link is not the pointer
    next_same : (r : ℕ) → r ≢ row → f r ≡ Some slot → (0 < above → r ≢ above - 1) → IsLast (λ x. g x ≡ Some slot) r (get_or below r 0)
    next_same r other is apart = ⊎_elim
        (λ (l : r < row). kept f g row slot r (get_or below r 0) same (λ some at. omega (arith, chained.falling.falls r)) (λ _ high. absurd (omega arith)) (chained.next r slot is))
        (λ (l : row ≤ r). let far = link_beyond r is (omega arith) apart in
        kept f g row slot r (get_or below r 0) same (λ _ at. omega arith) (λ low _. absurd (omega arith)) (chained.next r slot is))
        (cases_lt r row)

    next_here : (r : ℕ) → r ≢ row → f r ≡ Some slot → IsLast (λ x. g x ≡ Some slot) r (get_or below' r 0)
    next_here r other is = ⊎_elim
        (λ (some : 0 < above). ⊎_elim
        (λ (u : r ≡ above - 1). subst (λ y. IsLast (λ x. g x ≡ Some slot) y (get_or below' y 0)) (sym u)
        (subst (λ x. IsLast (λ r. g r ≡ Some slot) (above - 1) x) (sym (link_now some)) (now_link some)))
        (λ (u : r ≢ above - 1). subst (λ y. IsLast (λ x. g x ≡ Some slot) r y) (sym (links_same r other (λ _. u))) (next_same r other is (λ _. u)))
        (cases_eq r (above - 1)))
        (λ (z : above ≤ 0). let no : 0 < above → r ≢ above - 1 = λ some. absurd (omega arith) in
        subst (λ y. IsLast (λ x. g x ≡ Some slot) r y) (sym (links_same r other no)) (next_same r other is no))
        (cases_lt 0 above)

    next_other : (r s : ℕ) → r ≢ row → s ≢ slot → f r ≡ Some s → IsLast (λ x. g x ≡ Some s) r (get_or below' r 0)
    next_other r s other apart is =
        let no : 0 < above → r ≢ above - 1 = λ some at. apart (same_Some s slot (sym is ∙ ap f at ∙ is_above.member f chained some)) in
        subst (λ y. IsLast (λ x. g x ≡ Some s) r y) (sym (links_same r other no)) (elsewhere s r (get_or below r 0) apart (chained.next r s is))

    next : (r s : ℕ) → g r ≡ Some s → IsLast (λ x. g x ≡ Some s) r (get_or below' r 0)
    next r s is = ⊎_elim
        (λ (e : r ≡ row). subst (λ y. IsLast (λ x. g x ≡ Some s) y (get_or below' y 0)) (sym e)
        (subst (λ y. IsLast (λ x. g x ≡ Some s) row y) (sym link_is) (link_last s (subst (λ x. g x ≡ Some s) e is))))
        (λ (e : r ≢ row). ⊎_elim
        (λ (h : s ≡ slot). subst (λ t. IsLast (λ x. g x ≡ Some t) r (get_or below' r 0)) (sym h) (next_here r e (subst (λ t. f r ≡ Some t) h (stays r s e is))))
        (λ (h : s ≢ slot). next_other r s e h (stays r s e is))
        (cases_eq s slot))
        (cases_eq r row)

    pub rechained : IsChained g heads' below'
    rechained = record { falling = record { tops = tops; falls = falling }; within = within; head = head; next = next }
