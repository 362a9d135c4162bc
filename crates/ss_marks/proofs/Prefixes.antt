-- Rows one after another.
use Rattle.std.proofs.Common.{◌≡◌, ◌≢◌, ℕ, ◌+◌, ◌-◌, ◌<◌, ◌≤◌, true, false, cond, eqb, List, length, get_or, take, None, sym, ap, ◌∙◌, ⊎_elim, arith, length-take}
use Rattle.std.specs.Prelude.{option_map}
use Rattle.std.proofs.lemmas.Bool.{cases_eq, cases_lt, eq-eqb, ne_eqb, cond-true, cond-false}
use Rattle.std.proofs.lemmas.List.{get_or_past, get_or-take}
use Rattle.ss_marks.specs.declared.row.Row.{Row}
use Rattle.ss_marks.specs.Rows.{no_row, row_at, slot_of}
use Rattle.ss_marks.specs.Index.{slot_at, without_row}

-- past a prefix there is no row
take_past : (rows : List Row) (i r : ℕ) → i ≤ r → row_at (take i rows) r ≡ no_row
take_past rows i r past = get_or_past (take i rows) r no_row (omega (arith, length-take i rows))

slot_past : (rows : List Row) (i r n : ℕ) → i ≤ r → slot_at (take i rows) n r ≡ None
slot_past rows i r n past = ap (λ (row : Row). option_map (λ _. slot_of row.cid n) row.colour) (take_past rows i r past)

slot_before : (rows : List Row) (i r n : ℕ) → r < i → slot_at (take i rows) n r ≡ slot_at rows n r
slot_before rows i r n before = ap (λ (row : Row). option_map (λ _. slot_of row.cid n) row.colour) (get_or-take i rows r no_row before)

next_same : (rows : List Row) (i n r : ℕ) → r ≢ i → slot_at (take i rows) n r ≡ slot_at (take (i + 1) rows) n r
next_same rows i n r other = ⊎_elim
    (λ (l : r < i). slot_before rows i r n l ∙ sym (slot_before rows (i + 1) r n (omega arith)))
    (λ (l : i ≤ r). slot_past rows i r n l ∙ sym (slot_past rows (i + 1) r n (omega arith)))
    (cases_lt r i)

-- one more row, which is left out
pub one_left_out : (rows : List Row) (i n : ℕ) → slot_at (take i rows) n ≡ without_row i (slot_at (take (i + 1) rows) n)
one_left_out rows i n = λ k r. (each r) k where
  each : (r : ℕ) → slot_at (take i rows) n r ≡ without_row i (slot_at (take (i + 1) rows) n) r
  each r = ⊎_elim
      (λ (e : r ≡ i). slot_past rows i r n (omega arith) ∙ sym (cond-true (eqb r i) None (slot_at (take (i + 1) rows) n r) (eq-eqb r i e)))
      (λ (e : r ≢ i). next_same rows i n r e ∙ sym (cond-false (eqb r i) None (slot_at (take (i + 1) rows) n r) (ne_eqb r i e)))
      (cases_eq r i)

-- one more row, which is vacant
pub one_vacant : (rows : List Row) (i n : ℕ) → (row_at rows i).colour ≡ None → slot_at (take i rows) n ≡ slot_at (take (i + 1) rows) n
one_vacant rows i n vacant = λ k r. (each r) k where
  each : (r : ℕ) → slot_at (take i rows) n r ≡ slot_at (take (i + 1) rows) n r
  each r = ⊎_elim
      (λ (e : r ≡ i). slot_past rows i r n (omega arith)
      ∙ sym (slot_before rows (i + 1) r n (omega arith) ∙ ap (λ x. slot_at rows n x) e ∙ ap (λ o. option_map (λ _. slot_of (row_at rows i).cid n) o) vacant))
      (λ (e : r ≢ i). next_same rows i n r e)
      (cases_eq r i)
