-- How many marks have a colour.
use Rattle.std.proofs.Common.{◌≡◌, ◌≢◌, ℕ, ◌+◌, ◌-◌, ◌<◌, ◌≤◌, Bool, true, false, cond, List, Option, None, Some, is_some, refl, sym, ap, ◌∙◌, ⊎_elim, arith}
use Rattle.std.specs.Prelude.{option_map}
use Rattle.std.proofs.lemmas.Bool.{cases_lt, true≢false}
use Rattle.std.proofs.lemmas.Option.{same_Some, none-some}
use Rattle.std.specs.Ordering.{nat_cmp, eq_by_cmp}
use Rattle.std.specs.Cmp.{IsTotalOrder}
use Rattle.std.specs.Cmp.Lexicographic.{slice_cmp, nat_list_cmp_total}
use Rattle.std.specs.FinMap as finite_map
use Rattle.std.specs.FinMap.{IsAntisymmetric}
use Rattle.ss_marks.specs.declared.colour.Colour.{Colour}
use Rattle.ss_marks.specs.declared.colour.Colour.TheVariants.{White, Grey, Out, Black}
use Rattle.ss_marks.specs.Marks.{CidMap, Mark, same_colour, has_colour, marks_in, count_in}

-- CIDs in their order, of which only equal ones tie
pub by_bytes : IsTotalOrder (slice_cmp nat_cmp)
by_bytes = nat_list_cmp_total

pub exact : IsAntisymmetric (slice_cmp nat_cmp)
exact = finite_map.slice_cmp-IsAntisymmetric finite_map.nat_cmp-IsAntisymmetric

-- 1 where the test holds, and else 0
abbrev pub one : Bool → ℕ
one b = cond b 1 0

module _ (colour : Colour) where
  get_in : (marks : CidMap Mark) (q : List ℕ) → finite_map.get (marks_in colour marks) q ≡ cond (has_colour colour (finite_map.get marks q)) (finite_map.get marks q) None
  get_in marks q = finite_map.get-retain_keys marks (λ cid. has_colour colour (finite_map.get marks cid)) q (λ x tie. ap (λ cid. has_colour colour (finite_map.get marks cid)) (sym (exact q x tie)))

  is_some_kept : (o : Option Mark) → is_some (cond (has_colour colour o) o None) ≡ has_colour colour o
  is_some_kept None = refl
  is_some_kept (Some mark) = elim (same_colour colour mark.colour) as (λ b. is_some (cond b (Some mark) None) ≡ b) [ true ↦ refl | false ↦ refl ]

  contains_in : (marks : CidMap Mark) (q : List ℕ) → is_some (finite_map.get (marks_in colour marks) q) ≡ has_colour colour (finite_map.get marks q)
  contains_in marks q = ap is_some (get_in marks q) ∙ is_some_kept (finite_map.get marks q)

  put_one : (e : Bool) (mark : Mark) (o : Option Mark) → same_colour colour mark.colour ≡ true
      → cond (has_colour colour (cond e (Some mark) o)) (cond e (Some mark) o) None ≡ cond e (Some mark) (cond (has_colour colour o) o None)
  put_one true mark o is = ap (λ b. cond b (Some mark) None) is
  put_one false mark o is = refl

  put_other : (e : Bool) (mark : Mark) (o : Option Mark) → same_colour colour mark.colour ≡ false
      → cond (has_colour colour (cond e (Some mark) o)) (cond e (Some mark) o) None ≡ cond e None (cond (has_colour colour o) o None)
  put_other true mark o is = ap (λ b. cond b (Some mark) None) is
  put_other false mark o is = refl

  take_one : (e : Bool) (o : Option Mark) → cond (has_colour colour (cond e None o)) (cond e None o) None ≡ cond e None (cond (has_colour colour o) o None)
  take_one true o = refl
  take_one false o = refl

  module _ (marks : CidMap Mark) (cid : List ℕ) where
    in_insert : (mark : Mark) → same_colour colour mark.colour ≡ true → marks_in colour (finite_map.insert marks cid mark) ≡ finite_map.insert (marks_in colour marks) cid mark
    in_insert mark is = finite_map.same_map by_bytes exact _ _ (λ q.
        get_in (finite_map.insert marks cid mark) q
        ∙ ap (λ o. cond (has_colour colour o) o None) (finite_map.get-insert by_bytes marks cid mark q)
        ∙ put_one (eq_by_cmp (slice_cmp nat_cmp) q cid) mark (finite_map.get marks q) is
        ∙ sym (finite_map.get-insert by_bytes (marks_in colour marks) cid mark q ∙ ap (λ o. cond (eq_by_cmp (slice_cmp nat_cmp) q cid) (Some mark) o) (get_in marks q)))

    in_replace : (mark : Mark) → same_colour colour mark.colour ≡ false → marks_in colour (finite_map.insert marks cid mark) ≡ finite_map.remove (marks_in colour marks) cid
    in_replace mark is = finite_map.same_map by_bytes exact _ _ (λ q.
        get_in (finite_map.insert marks cid mark) q
        ∙ ap (λ o. cond (has_colour colour o) o None) (finite_map.get-insert by_bytes marks cid mark q)
        ∙ put_other (eq_by_cmp (slice_cmp nat_cmp) q cid) mark (finite_map.get marks q) is
        ∙ sym (finite_map.get-remove by_bytes (marks_in colour marks) cid q ∙ ap (λ o. cond (eq_by_cmp (slice_cmp nat_cmp) q cid) None o) (get_in marks q)))

    in_remove : marks_in colour (finite_map.remove marks cid) ≡ finite_map.remove (marks_in colour marks) cid
    in_remove = finite_map.same_map by_bytes exact _ _ (λ q.
        get_in (finite_map.remove marks cid) q
        ∙ ap (λ o. cond (has_colour colour o) o None) (finite_map.get-remove by_bytes marks cid q)
        ∙ take_one (eq_by_cmp (slice_cmp nat_cmp) q cid) (finite_map.get marks q)
        ∙ sym (finite_map.get-remove by_bytes (marks_in colour marks) cid q ∙ ap (λ o. cond (eq_by_cmp (slice_cmp nat_cmp) q cid) None o) (get_in marks q)))

positive : (marks : CidMap Mark) (cid : List ℕ) → is_some (finite_map.get marks cid) ≡ true → 0 < finite_map.len marks
positive marks cid is = ⊎_elim
    (λ (l : 0 < finite_map.len marks). l)
    (λ (l : finite_map.len marks ≤ 0). absurd (true≢false (sym is ∙ ap (λ m. is_some (finite_map.get m cid)) (finite_map.empty_of_len marks (omega arith)) ∙ ap is_some (finite_map.get-empty (slice_cmp nat_cmp) cid))))
    (cases_lt 0 (finite_map.len marks))

one_more : (b : Bool) (n : ℕ) → cond b n (n + 1) + one b ≡ n + 1
one_more true n = omega arith
one_more false n = omega arith

one_less : (b : Bool) (n : ℕ) → (b ≡ true → 0 < n) → cond b (n - 1) n + one b ≡ n
one_less true n some = let p = some refl in omega arith
one_less false n some = omega arith

len_insert : (marks : CidMap Mark) (cid : List ℕ) (mark : Mark) → finite_map.len (finite_map.insert marks cid mark) + one (is_some (finite_map.get marks cid)) ≡ finite_map.len marks + 1
len_insert marks cid mark = ap (λ n. n + one (is_some (finite_map.get marks cid))) (finite_map.len-insert by_bytes marks cid mark) ∙ one_more (is_some (finite_map.get marks cid)) (finite_map.len marks)

len_remove : (marks : CidMap Mark) (cid : List ℕ) → finite_map.len (finite_map.remove marks cid) + one (is_some (finite_map.get marks cid)) ≡ finite_map.len marks
len_remove marks cid = ap (λ n. n + one (is_some (finite_map.get marks cid))) (finite_map.len-remove by_bytes marks cid) ∙ one_less (is_some (finite_map.get marks cid)) (finite_map.len marks) (positive marks cid)

-- a new mark
pub len_added : (marks : CidMap Mark) (cid : List ℕ) (mark : Mark) → finite_map.get marks cid ≡ None → finite_map.len (finite_map.insert marks cid mark) ≡ finite_map.len marks + 1
len_added marks cid mark none = let e = ap (λ o. one (is_some o)) none in omega (arith, len_insert marks cid mark)

-- another mark in place of one
pub len_replaced : (marks : CidMap Mark) (cid : List ℕ) (mark old : Mark) → finite_map.get marks cid ≡ Some old → finite_map.len (finite_map.insert marks cid mark) ≡ finite_map.len marks
len_replaced marks cid mark old some = let e = ap (λ o. one (is_some o)) some in omega (arith, len_insert marks cid mark)

-- one mark less
pub len_removed : (marks : CidMap Mark) (cid : List ℕ) (old : Mark) → finite_map.get marks cid ≡ Some old → finite_map.len (finite_map.remove marks cid) + 1 ≡ finite_map.len marks
len_removed marks cid old some = let e = ap (λ o. one (is_some o)) some in omega (arith, len_remove marks cid)

module _ (colour : Colour) (marks : CidMap Mark) (cid : List ℕ) where
  pub count_insert : (mark : Mark) → count_in colour (finite_map.insert marks cid mark) + one (has_colour colour (finite_map.get marks cid)) ≡ count_in colour marks + one (same_colour colour mark.colour)
  count_insert mark =
      let there = contains_in colour marks cid in
      elim (same_colour colour mark.colour) as (λ b. same_colour colour mark.colour ≡ b → count_in colour (finite_map.insert marks cid mark) + one (has_colour colour (finite_map.get marks cid)) ≡ count_in colour marks + one b) [
        | true ↦ λ is. ap (λ m. finite_map.len m + one (has_colour colour (finite_map.get marks cid))) (in_insert colour marks cid mark is)
            ∙ ap (λ b. finite_map.len (finite_map.insert (marks_in colour marks) cid mark) + one b) (sym there)
            ∙ len_insert (marks_in colour marks) cid mark
        | false ↦ λ is. ap (λ m. finite_map.len m + one (has_colour colour (finite_map.get marks cid))) (in_replace colour marks cid mark is)
            ∙ ap (λ b. finite_map.len (finite_map.remove (marks_in colour marks) cid) + one b) (sym there)
            ∙ len_remove (marks_in colour marks) cid ∙ omega arith
      ] refl

  pub count_remove : count_in colour (finite_map.remove marks cid) + one (has_colour colour (finite_map.get marks cid)) ≡ count_in colour marks
  count_remove =
      ap (λ m. finite_map.len m + one (has_colour colour (finite_map.get marks cid))) (in_remove colour marks cid)
      ∙ ap (λ b. finite_map.len (finite_map.remove (marks_in colour marks) cid) + one b) (sym (contains_in colour marks cid))
      ∙ len_remove (marks_in colour marks) cid

pub itself : (colour : Colour) → same_colour colour colour ≡ true
itself White = refl
itself Grey = refl
itself Out = refl
itself Black = refl

pub same_from : (a b : Colour) → same_colour a b ≡ true → a ≡ b
same_from White White is = refl
same_from White Grey is = absurd (true≢false (sym is))
same_from White Out is = absurd (true≢false (sym is))
same_from White Black is = absurd (true≢false (sym is))
same_from Grey White is = absurd (true≢false (sym is))
same_from Grey Grey is = refl
same_from Grey Out is = absurd (true≢false (sym is))
same_from Grey Black is = absurd (true≢false (sym is))
same_from Out White is = absurd (true≢false (sym is))
same_from Out Grey is = absurd (true≢false (sym is))
same_from Out Out is = refl
same_from Out Black is = absurd (true≢false (sym is))
same_from Black White is = absurd (true≢false (sym is))
same_from Black Grey is = absurd (true≢false (sym is))
same_from Black Out is = absurd (true≢false (sym is))
same_from Black Black is = refl

-- none has the colour where there are none of it, and the other way round
module _ (colour : Colour) (marks : CidMap Mark) where
  has_some : (o : Option Mark) → option_map (λ (mark : Mark). mark.colour) o ≡ Some colour → has_colour colour o ≡ true
  has_some None is = absurd (none-some colour is)
  has_some (Some mark) is = ap (same_colour colour) (same_Some mark.colour colour is) ∙ itself colour

  some_has : (o : Option Mark) → has_colour colour o ≡ true → option_map (λ (mark : Mark). mark.colour) o ≡ Some colour
  some_has None is = absurd (true≢false (sym is))
  some_has (Some mark) is = ap Some (sym (same_from colour mark.colour is))

  pub none_of_count : count_in colour marks ≡ 0 → (cid : List ℕ) → option_map (λ mark. mark.colour) (finite_map.get marks cid) ≢ Some colour
  none_of_count zero' cid is = let some = positive (marks_in colour marks) cid (contains_in colour marks cid ∙ has_some (finite_map.get marks cid) is) in absurd (omega arith)

  nothing : (o : Option Mark) → (has_colour colour o ≡ true → ⊥) → cond (has_colour colour o) o None ≡ None
  nothing o none = elim (has_colour colour o) as (λ b. (b ≡ true → ⊥) → cond b o None ≡ None) [ true ↦ λ n. absurd (n refl) | false ↦ λ n. refl ] none

  pub count_of_none : ((cid : List ℕ) → option_map (λ mark. mark.colour) (finite_map.get marks cid) ≢ Some colour) → count_in colour marks ≡ 0
  count_of_none none =
      ap finite_map.len (finite_map.same_map by_bytes exact (marks_in colour marks) finite_map.empty (λ q.
      get_in colour marks q ∙ nothing (finite_map.get marks q) (λ is. none q (some_has (finite_map.get marks q) is)) ∙ sym (finite_map.get-empty (slice_cmp nat_cmp) q)))
      ∙ finite_map.len-empty (slice_cmp nat_cmp) Mark

-- there are some of a colour that a mark has
pub count_some : (colour : Colour) (marks : CidMap Mark) (cid : List ℕ) (mark : Mark) → finite_map.get marks cid ≡ Some mark → same_colour colour mark.colour ≡ true → 0 < count_in colour marks
count_some colour marks cid mark is same = positive (marks_in colour marks) cid (contains_in colour marks cid ∙ ap (has_colour colour) is ∙ same)
