-- The marks of a set of numbers.
use Rattle.std.proofs.Common.{◌≡◌, ◌≢◌, ℕ, zero, suc, ◌<◌, ◌≤◌, ◌+◌, Bool, true, false, List, [], ◌∷◌, length, refl, sym, ap, ◌∙◌, ◌||◌, nat_lt, true≢false, add-one, arith}
use Rattle.std.specs.Ordering.{nat_cmp, eq_by_cmp}
use Rattle.std.specs.Cmp.{nat_cmp_total}
use Rattle.std.specs.FinSet as set
use Rattle.std.specs.FinSet.{contains-insert, contains-empty, contains-remove, same_set, nat_cmp-IsAntisymmetric}
use Rattle.std.proofs.lemmas.Bool.Decides.{nat_tests}
use Rattle.std.proofs.Math.ListN.{get_or, drop, drop_of_length-le}
use Rattle.std.proofs.Math.Seq.{drop-cons}
use Rattle.std.proofs.lemmas.List.{get_or-set_same, get_or-set_other, get_or_past}
use Rattle.std.proofs.lemmas.List.Sums.{fails_before_first}
use Rattle.std.proofs.lemmas.List.Quantifiers.{position-Some}
use Rattle.std.specs.List.{position, position_or_len}
use Rattle.std.specs.Prelude.{None, Some, is_some, not, cond, ◌&&◌, slice_set}
use Rattle.ss_model.specs.State.{ViewSet}
use Rattle.ss_core.specs.Calls.{marked_from}

pub below_none : (at : ℕ) (marks : List Bool) (n : ℕ) → n < at → set.contains (marked_from at marks) n ≡ false
below_none at [] n below = contains-empty nat_cmp n
below_none at (true ∷ marks) n below = contains-insert nat_cmp_total (marked_from (suc at) marks) at n ∙ ap (λ b. eq_by_cmp nat_cmp n at || b) (below_none (suc at) marks n (omega (arith, below))) ∙ other n at below
  where
    other : (n at : ℕ) → n < at → (eq_by_cmp nat_cmp n at || false) ≡ false
    other n at below = grind (arith, nat_tests, below)
below_none at (false ∷ marks) n below = below_none (suc at) marks n (omega (arith, below))

pub contains_from : (at : ℕ) (marks : List Bool) (k : ℕ) → set.contains (marked_from at marks) (at + k) ≡ get_or marks k false
contains_from at [] k = contains-empty nat_cmp (at + k)
contains_from at (true ∷ marks) zero = contains-insert nat_cmp_total (marked_from (suc at) marks) at (at + 0) ∙ same at (set.contains (marked_from (suc at) marks) (at + 0))
  where
    same : (at : ℕ) (b : Bool) → (eq_by_cmp nat_cmp (at + 0) at || b) ≡ true
    same at b = grind (arith, nat_tests)
contains_from at (true ∷ marks) (suc k) =
    contains-insert nat_cmp_total (marked_from (suc at) marks) at (at + suc k)
    ∙ other at k (set.contains (marked_from (suc at) marks) (at + suc k))
    ∙ ap (set.contains (marked_from (suc at) marks)) (omega arith)
    ∙ contains_from (suc at) marks k
  where
    other : (at k : ℕ) (b : Bool) → (eq_by_cmp nat_cmp (at + suc k) at || b) ≡ b
    other at k b = grind (arith, nat_tests)
contains_from at (false ∷ marks) zero = below_none (suc at) marks (at + 0) (omega arith)
contains_from at (false ∷ marks) (suc k) = ap (set.contains (marked_from (suc at) marks)) (omega arith) ∙ contains_from (suc at) marks k

pub contains_marked : (marks : List Bool) (n : ℕ) → set.contains (marked_from 0 marks) n ≡ get_or marks n false
contains_marked marks n = ap (set.contains (marked_from 0 marks)) (omega arith) ∙ contains_from 0 marks n

equal_at : (q n : ℕ) → eq_by_cmp nat_cmp q n ≡ true → q ≡ n
equal_at q n is = grind (arith, nat_tests, is)

differ_at : (q n : ℕ) → eq_by_cmp nat_cmp q n ≡ false → q ≢ n
differ_at q n is = λ same. grind (arith, nat_tests, is, same)

-- what stands at a place after a mark was written
marked_at : (marks : List Bool) (n q : ℕ) (mark : Bool) → n < length marks → get_or (slice_set marks n mark) q false ≡ cond (eq_by_cmp nat_cmp q n) mark (get_or marks q false)
marked_at marks n q mark within = by (eq_by_cmp nat_cmp q n) refl
  where
    by : (b : Bool) → eq_by_cmp nat_cmp q n ≡ b → get_or (slice_set marks n mark) q false ≡ cond b mark (get_or marks q false)
    by true is = ap (λ k. get_or (slice_set marks n mark) k false) (equal_at q n is) ∙ get_or-set_same marks n mark false within
    by false is = get_or-set_other marks n q mark false (differ_at q n is)

or_true : (b c : Bool) → cond b true c ≡ (b || c)
or_true true c = refl
or_true false c = refl

and_not : (b c : Bool) → cond b false c ≡ (not b && c)
and_not true c = refl
and_not false c = refl

pub inserted : (marks : List Bool) (n : ℕ) → n < length marks → marked_from 0 (slice_set marks n true) ≡ set.insert (marked_from 0 marks) n
inserted marks n within = same_set nat_cmp_total nat_cmp-IsAntisymmetric _ _ (λ q.
    contains_marked _ q ∙ marked_at marks n q true within ∙ or_true (eq_by_cmp nat_cmp q n) (get_or marks q false)
    ∙ ap (λ b. eq_by_cmp nat_cmp q n || b) (sym (contains_marked marks q)) ∙ sym (contains-insert nat_cmp_total (marked_from 0 marks) n q))

pub removed : (marks : List Bool) (n : ℕ) → n < length marks → marked_from 0 (slice_set marks n false) ≡ set.remove (marked_from 0 marks) n
removed marks n within = same_set nat_cmp_total nat_cmp-IsAntisymmetric _ _ (λ q.
    contains_marked _ q ∙ marked_at marks n q false within ∙ and_not (eq_by_cmp nat_cmp q n) (get_or marks q false)
    ∙ ap (λ b. not (eq_by_cmp nat_cmp q n) && b) (sym (contains_marked marks q)) ∙ sym (contains-remove nat_cmp_total (marked_from 0 marks) n q))

-- what is not in a set is not taken out of it
pub removed_none : (s : ViewSet) (n : ℕ) → set.contains s n ≡ false → s ≡ set.remove s n
removed_none s n none = same_set nat_cmp_total nat_cmp-IsAntisymmetric _ _ (λ q. by q (eq_by_cmp nat_cmp q n) refl ∙ sym (contains-remove nat_cmp_total s n q))
  where
    by : (q : ℕ) (b : Bool) → eq_by_cmp nat_cmp q n ≡ b → set.contains s q ≡ (not (eq_by_cmp nat_cmp q n) && set.contains s q)
    by q true is = ap (set.contains s) (equal_at q n is) ∙ none ∙ ap (λ b. not b && set.contains s q) (sym is)
    by q false is = ap (λ b. not b && set.contains s q) (sym is)

-- nothing is marked past the end
pub none_past : (marks : List Bool) (n : ℕ) → length marks ≤ n → set.contains (marked_from 0 marks) n ≡ false
none_past marks n past = contains_marked marks n ∙ get_or_past marks n false past

pub within_marks : (marks : List Bool) (n : ℕ) → true ≡ set.contains (marked_from 0 marks) n → n < length marks
within_marks marks n is = by (nat_lt n (length marks)) refl
  where
    by : (b : Bool) → nat_lt n (length marks) ≡ b → n < length marks
    by true is = grind (arith, nat_tests, is)
    by false past = absurd (true≢false (is ∙ none_past marks n (grind (arith, nat_tests, past))))

not_false : (b : Bool) → not b ≡ false → b ≡ true
not_false true is = refl
not_false false is = absurd (true≢false is)

not_true : (b : Bool) → not b ≡ true → b ≡ false
not_true true is = absurd (true≢false (sym is))
not_true false is = refl

-- where no mark is missing, all are there
pub all_marked : (marks : List Bool) → None ≡ position (λ o. not o) marks → (n : ℕ) → n < length marks → set.contains (marked_from 0 marks) n ≡ true
all_marked marks none n within = contains_marked marks n ∙ not_false _ (fails_before_first (λ o. not o) marks n false (before (nat_lt (position_or_len (λ o. not o) marks) (length marks)) refl))
  where
    before : (b : Bool) → nat_lt (position_or_len (λ o. not o) marks) (length marks) ≡ b → n < position_or_len (λ o. not o) marks
    before true is = absurd (true≢false (sym (ap is_some (none ∙ ap (λ b. cond b (Some (position_or_len (λ o. not o) marks)) None) is))))
    before false is = at_end (position_or_len (λ o. not o) marks) (length marks) is within
      where
        at_end : (p len : ℕ) → nat_lt p len ≡ false → n < len → n < p
        at_end p len is within = grind (arith, nat_tests, is, within)

-- the first that is missing
pub first_missing : (marks : List Bool) (view : ℕ) → Some view ≡ position (λ o. not o) marks → (view < length marks) × (set.contains (marked_from 0 marks) view ≡ false) × ((n : ℕ) → n < view → set.contains (marked_from 0 marks) n ≡ true)
first_missing marks view is =
    let found = position-Some (λ o. not o) marks view false (sym is) in
    (found.0, contains_marked marks view ∙ not_true _ found.1, λ n below. contains_marked marks n ∙ not_false _ (found.2 n below))

-- how many are marked, one place further
count_next : (marks : List Bool) (i : ℕ) (mark : Bool) → i < length marks → get_or marks i false ≡ mark → set.len (marked_from i (drop i marks)) ≡ cond mark 1 0 + set.len (marked_from (suc i) (drop (suc i) marks))
count_next marks i mark within is = ap (λ (l : List Bool). set.len (marked_from i l)) (drop-cons marks i false within) ∙ by (get_or marks i false) mark is
  where
    by : (there mark : Bool) → there ≡ mark → set.len (marked_from i (there ∷ drop (suc i) marks)) ≡ cond mark 1 0 + set.len (marked_from (suc i) (drop (suc i) marks))
    by true true e =
        set.len-insert nat_cmp_total (marked_from (suc i) (drop (suc i) marks)) i ∙ ap (λ b. cond b (set.len (marked_from (suc i) (drop (suc i) marks))) (set.len (marked_from (suc i) (drop (suc i) marks)) + 1)) (below_none (suc i) (drop (suc i) marks) i (omega arith)) ∙ omega arith
    by false false e = omega arith
    by true false e = absurd (true≢false e)
    by false true e = absurd (true≢false (sym e))

one_or_none : (mark : Bool) → cond mark 1 0 ≤ 1
one_or_none true = omega arith
one_or_none false = omega arith

pub counted_next : (marks : List Bool) (i count more : ℕ) → i < length marks → more ≡ cond (get_or marks i false) 1 0 → count + set.len (marked_from i (drop i marks)) ≡ set.len (marked_from 0 marks) → count + more + set.len (marked_from (i + 1) (drop (i + 1) marks)) ≡ set.len (marked_from 0 marks)
counted_next marks i count more within is before = rw (add-one) (omega (arith, is, before, count_next marks i (get_or marks i false) within refl))

pub counted_few : (marks : List Bool) (i count more : ℕ) → more ≡ cond (get_or marks i false) 1 0 → count ≤ i → count + more ≤ i + 1
counted_few marks i count more is few = omega (arith, is, few, one_or_none (get_or marks i false))

pub counted_all : (marks : List Bool) (i count : ℕ) → length marks ≤ i → count + set.len (marked_from i (drop i marks)) ≡ set.len (marked_from 0 marks) → count ≡ set.len (marked_from 0 marks)
counted_all marks i count past before = omega (arith, before, ap (λ (l : List Bool). set.len (marked_from i l)) (drop_of_length-le marks past), set.len-empty nat_cmp)
