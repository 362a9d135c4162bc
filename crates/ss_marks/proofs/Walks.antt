-- The steps of a walk along a chain.
use Rattle.std.proofs.Common.{◌≡◌, ◌≢◌, ℕ, ◌+◌, ◌-◌, ◌<◌, ◌≤◌, cond, eqb, List, length, get_or, Option, Some, sym, ap, subst, ◌∙◌, inl, inr, ⊎_elim, arith}
use Rattle.std.proofs.lemmas.Bool.{cases_eq, cases_lt, eq-eqb, ne_eqb}
use Rattle.ss_marks.specs.declared.row.Row.{Row}
use Rattle.ss_marks.specs.Rows.{row_at, HasCid, slot_of}
use Rattle.ss_marks.specs.Index.{IsFalling, IsChained, pointer_of, slot_at}
use Rattle.ss_marks.proofs.Rows.{slot_at-some, slot_at-has}

-- The walk has come to the pointer of `above` and reads `last` there.
pub record HasCome (heads below : List ℕ) (slot row above last : ℕ) : Type 0 where
  pub reads : last ≡ pointer_of heads below slot above
  pub within : above ≤ length below
  pub higher : 0 < above → row + 1 < above
  pub member : (slots : ℕ → Option ℕ) → IsChained slots heads below → 0 < above → slots (above - 1) ≡ Some slot

-- No row from `last` on has the CID, and the next one of its slot is that before `last`.
pub record HasMissed (rows : List Row) (cid : List ℕ) (slots limit last : ℕ) : Type 0 where
  pub bound : last ≤ limit
  pub here : 0 < last → slot_at rows slots (last - 1) ≡ Some (slot_of cid slots)
  pub none : (r : ℕ) → last ≤ r → HasCid rows r cid → ⊥

module _ (heads below : List ℕ) (slot above : ℕ) where
  pub pointer_head : above ≡ 0 → pointer_of heads below slot above ≡ get_or heads slot 0
  pointer_head z = ap (λ b. cond b (get_or heads slot 0) (get_or below (above - 1) 0)) (eq-eqb above 0 z)

  pub pointer_link : 0 < above → pointer_of heads below slot above ≡ get_or below (above - 1) 0
  pointer_link some = ap (λ b. cond b (get_or heads slot 0) (get_or below (above - 1) 0)) (ne_eqb above 0 (omega arith))

module _ (heads below : List ℕ) (slot row above last : ℕ) (falling : IsFalling heads below) (slot_in : slot < length heads)
    (come : HasCome heads below slot row above last) (more : row + 1 < last) where
  within : last ≤ length below
  within = ⊎_elim
      (λ (z : above ≡ 0). omega (arith, come.reads, pointer_head heads below slot above z, falling.tops slot))
      (λ (z : above ≢ 0). omega (arith, come.reads, come.within, pointer_link heads below slot above (omega arith), falling.falls (above - 1)))
      (cases_eq above 0)

  member : (slots : ℕ → Option ℕ) → IsChained slots heads below → 0 < last → slots (last - 1) ≡ Some slot
  member slots chained some = ⊎_elim
      (λ (z : above ≡ 0). let reads : last ≡ get_or heads slot 0 = come.reads ∙ pointer_head heads below slot above z in
      subst (λ x. slots (x - 1) ≡ Some slot) (sym reads) ((chained.head slot slot_in).here (omega arith)))
      (λ (z : above ≢ 0). let some : 0 < above = omega arith in
      let reads : last ≡ get_or below (above - 1) 0 = come.reads ∙ pointer_link heads below slot above some in
      subst (λ x. slots (x - 1) ≡ Some slot) (sym reads) ((chained.next (above - 1) slot (come.member slots chained some)).here (omega arith)))
      (cases_eq above 0)

  pub come_next : HasCome heads below slot row last (get_or below (last - 1) 0)
  come_next = record { reads = sym (pointer_link heads below slot last (omega arith)); within = within; higher = λ _. more; member = member }

module _ (rows : List Row) (heads below cid : List ℕ) (last : ℕ) (chained : IsChained (slot_at rows (length heads)) heads below) where
  pub missed_next : HasMissed rows cid (length heads) (length below) last → 0 < last → (row_at rows (last - 1)).cid ≢ cid
      → HasMissed rows cid (length heads) (length below) (get_or below (last - 1) 0)
  missed_next missed some other =
      let next = chained.next (last - 1) (slot_of cid (length heads)) (missed.here some) in
      record {
        bound = omega (arith, next.bound, missed.bound);
        here = next.here;
        none = λ r low has. ⊎_elim
            (λ (l : last ≤ r). missed.none r l has)
            (λ (l : r < last). ⊎_elim
            (λ (e : r ≡ last - 1). other (subst (λ x. (row_at rows x).cid ≡ cid) e has.is))
            (λ (e : r ≢ last - 1). next.none r low (omega arith) (slot_at-has rows (length heads) r cid has))
            (cases_eq r (last - 1)))
            (⊎_elim (λ (l : r < last). inr l) (λ (l : last ≤ r). inl l) (cases_lt r last));
      }

  pub found : HasMissed rows cid (length heads) (length below) last → 0 < last → (row_at rows (last - 1)).cid ≡ cid → HasCid rows (last - 1) cid
  found missed some is = record { live = (slot_at-some rows (length heads) (last - 1) (slot_of cid (length heads)) (missed.here some)).0; is = is }

  pub none_without_slots : length heads ≡ 0 → (r : ℕ) → HasCid rows r cid → ⊥
  none_without_slots z r has = absurd (omega (arith, (chained.within r (slot_of cid (length heads)) (slot_at-has rows (length heads) r cid has)).1))
