-- A set of just the keys of a map has as many.
use Rattle.std.proofs.Common.{◌≡◌, ℕ, zero, suc, ◌+◌, ◌-◌, Bool, true, false, cond, List, [], ◌∷◌, Option, Some, None, refl, sym, ap, subst, ◌∙◌, ◌||◌, true≢false, arith}
use Rattle.std.specs.Prelude.{◌&&◌, not, is_some}
use Rattle.std.specs.List.{list_any}
use Rattle.std.specs.Ordering.{nat_cmp, eq_by_cmp}
use Rattle.std.specs.Cmp.{Equal-is, tied_itself}
use Rattle.std.specs.Cmp.Lexicographic.{slice_cmp, nat_list_cmp_total}
use Rattle.std.specs.FinMap as map
use Rattle.std.specs.FinMap.{get-empty, get-remove, len-remove, empty_of_len, same_map, contains_key-keys, slice_cmp-IsAntisymmetric, nat_cmp-IsAntisymmetric}
use Rattle.std.specs.FinSet as set
use Rattle.std.specs.FinSet.{contains-empty, contains-insert, contains-remove, same_set}
use Rattle.ss_model.specs.State.{Kept, CidSet}

abbrev Agree : CidSet → Kept → Type 0
Agree s m = (c : List ℕ) → set.contains s c ≡ is_some (map.get m c)

less : (s : CidSet) (m : Kept) (k : List ℕ) → Agree s m → Agree (set.remove s k) (map.remove m k)
less s m k agree c = contains-remove nat_list_cmp_total s k c ∙ ap (λ b. not (eq_by_cmp (slice_cmp nat_cmp) c k) && b) (agree c) ∙ by (eq_by_cmp (slice_cmp nat_cmp) c k) (map.get m c) ∙ ap is_some (sym (get-remove nat_list_cmp_total m k c))
  where
    by : (e : Bool) (found : Option (List ℕ)) → (not e && is_some found) ≡ is_some (cond e None found)
    by true found = refl
    by false found = refl

absent : (found : Option (List ℕ)) → is_some found ≡ false → found ≡ None
absent None e = refl
absent (Some b) e = absurd (true≢false e)

nothing : (m : Kept) → map.len m ≡ 0 → (c : List ℕ) → is_some (map.get m c) ≡ false
nothing m none c = ap (λ (m : Kept). is_some (map.get m c)) (empty_of_len m none) ∙ ap is_some (get-empty (slice_cmp nat_cmp) c)

-- a set has one more than it has without one of its elements
one_less : (s : CidSet) (k : List ℕ) → set.contains s k ≡ true → set.len s ≡ set.len (set.remove s k) + 1
one_less s k there = ap set.len back ∙ set.len-insert nat_list_cmp_total (set.remove s k) k ∙ ap (λ b. cond b (set.len (set.remove s k)) (set.len (set.remove s k) + 1)) gone
  where
    gone : set.contains (set.remove s k) k ≡ false
    gone = contains-remove nat_list_cmp_total s k k ∙ ap (λ b. not b && set.contains s k) ((Equal-is (slice_cmp nat_cmp k k)).1 (tied_itself nat_list_cmp_total k))

    by : (c : List ℕ) (e : Bool) → eq_by_cmp (slice_cmp nat_cmp) c k ≡ e → set.contains s c ≡ (e || (not e && set.contains s c))
    by c true e = subst (λ c. set.contains s c ≡ true) (sym (slice_cmp-IsAntisymmetric nat_cmp-IsAntisymmetric c k ((Equal-is (slice_cmp nat_cmp c k)).0 e))) there
    by c false e = refl

    back : s ≡ set.insert (set.remove s k) k
    back = same_set nat_list_cmp_total (slice_cmp-IsAntisymmetric nat_cmp-IsAntisymmetric) s (set.insert (set.remove s k) k) (λ c.
        by c (eq_by_cmp (slice_cmp nat_cmp) c k) refl ∙ ap (λ b. eq_by_cmp (slice_cmp nat_cmp) c k || b) (sym (contains-remove nat_list_cmp_total s k c)) ∙ sym (contains-insert nat_list_cmp_total (set.remove s k) k c))

pub same_count : (n : ℕ) (s : CidSet) (m : Kept) → map.len m ≡ n → Agree s m → set.len s ≡ n
same_count zero s m none agree =
    ap set.len (same_set nat_list_cmp_total (slice_cmp-IsAntisymmetric nat_cmp-IsAntisymmetric) s set.empty (λ c. agree c ∙ nothing m none c ∙ sym (contains-empty (slice_cmp nat_cmp) c))) ∙ set.len-empty (slice_cmp nat_cmp)
same_count (suc n) s m is agree = by (same_count n) (map.keys m) refl
  where
    by : ((s : CidSet) (m : Kept) → map.len m ≡ n → Agree s m → set.len s ≡ n) → (keys : List (List ℕ)) → map.keys m ≡ keys → set.len s ≡ suc n
    by again [] none =
        let empty : m ≡ map.empty = same_map nat_list_cmp_total (slice_cmp-IsAntisymmetric nat_cmp-IsAntisymmetric) m map.empty (λ c. absent (map.get m c) (contains_key-keys m c ∙ ap (list_any (eq_by_cmp (slice_cmp nat_cmp) c)) none) ∙ sym (get-empty (slice_cmp nat_cmp) c)) in
        absurd (omega (arith, is, ap map.len empty, map.len-empty (slice_cmp nat_cmp) (List ℕ)))
    by again (k ∷ rest) keys =
        let there : is_some (map.get m k) ≡ true = contains_key-keys m k ∙ ap (list_any (eq_by_cmp (slice_cmp nat_cmp) k)) keys ∙ ap (λ b. b || list_any (eq_by_cmp (slice_cmp nat_cmp) k) rest) ((Equal-is (slice_cmp nat_cmp k k)).1 (tied_itself nat_list_cmp_total k)) in
        let fewer : map.len (map.remove m k) ≡ n = len-remove nat_list_cmp_total m k ∙ ap (λ b. cond b (map.len m - 1) (map.len m)) there ∙ omega (arith, is) in
        let left : set.len (set.remove s k) ≡ n = again (set.remove s k) (map.remove m k) fewer (less s m k agree) in
        omega (arith, left, one_less s k (agree k ∙ there))
