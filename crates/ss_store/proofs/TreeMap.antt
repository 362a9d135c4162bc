-- The entries of a `BTreeMap` as a finite map.
use Rattle.std.proofs.Common.{◌≡◌, Bool, true, false, cond, ◌&&◌, List, [], ◌∷◌, length, Option, None, Some, refl, sym, ap, subst, ◌∙◌, Ordering, Less, is_lt}
use Rattle.std.specs.Prelude.{slice_get, filter, option_map}
use Rattle.std.specs.BTreeMap.Range.{entries_between}
use Rattle.std.specs.declared.ops.Bound.TheVariants.{Excluded, Unbounded}
use Rattle.std.proofs.Math.Dec.{T}
use Rattle.std.specs.Borrow.{Bor}
use Rattle.std.specs.List.{AllByRecursion}
use Rattle.std.specs.List.Sorted.{IsStrictlySortedBy}
use Rattle.std.specs.Map.{keys_of, lookup}
use Rattle.std.specs.Map.Iter.{TakesFirst, deref_pair}
use Rattle.std.specs.Ordering.{eq_by_cmp, nat_cmp}
use Rattle.std.specs.Cmp.{IsTotalOrder, eq_by_cmp_equiv}
use Rattle.std.specs.Cmp.Lexicographic.{slice_cmp, nat_list_cmp_total}
use Rattle.std.specs.FinMap as finite_map
use Rattle.std.specs.FinMap.{IsAntisymmetric, find, is_sorted, from_entries}
use Rattle.std.specs.FinMap.Entries.{below_all, same_entries}
use Rattle.std.proofs.lemmas.Map.Keys.{sorted_head, sorted_tail}

both : (a b : Bool) → T a → T b → T (a && b)
both true b p q = q
both false b p q = p

module _ {K X : Type 0} (R : K → K → Ordering) where
  below : (k : K) (es : List (K × X)) → AllByRecursion (λ y. R k y ≡ Less) (keys_of es) → T (below_all R k es)
  below k [] h = tt
  below k (e ∷ es) h = both _ _ (subst (λ r. T (is_lt r)) (sym h.0) tt) (below k es h.1)

  -- keys that rise
  pub rising : (es : List (K × X)) → IsStrictlySortedBy R (keys_of es) → T (is_sorted R es)
  rising [] h = tt
  rising (e ∷ es) h = both _ _ (below e.0 es (sorted_head R e.0 (keys_of es) h)) (rising es (sorted_tail R e.0 (keys_of es) h))

  lookup_find : (q : K) (es : List (K × X)) → lookup (eq_by_cmp R q) es ≡ find R q es
  lookup_find q [] = refl
  lookup_find q (e ∷ es) = ap (cond (eq_by_cmp R q e.0) (Some e.1)) (lookup_find q es)

module _ {K X : Type 0} {R : K → K → Ordering} (o : IsTotalOrder R) where
  pub map_get : (es : List (K × X)) (q : K) → finite_map.get (from_entries {R = R} es) q ≡ lookup (eq_by_cmp R q) es
  map_get es q = finite_map.get-from_entries o es q ∙ sym (lookup_find R q es)

  -- at each key the new entries have what the old ones have, or where the key ties with k, this
  module _ (same : IsAntisymmetric R) (es ns : List (K × X)) (k : K) (now : Option X) (updates : (q : K) → lookup (eq_by_cmp R q) ns ≡ cond (eq_by_cmp R k q) now (lookup (eq_by_cmp R q) es)) where
    updated : (q : K) → finite_map.get (from_entries {R = R} ns) q ≡ cond (eq_by_cmp R q k) now (finite_map.get (from_entries {R = R} es) q)
    updated q = map_get ns q ∙ updates q ∙ ap (cond (eq_by_cmp R k q) now) (sym (map_get es q)) ∙ ap (λ b. cond b now (finite_map.get (from_entries {R = R} es) q)) ((eq_by_cmp_equiv o).symm k q)

    pub map_insert : (v : X) → now ≡ Some v → from_entries {R = R} ns ≡ finite_map.insert (from_entries es) k v
    map_insert v is = finite_map.same_map o same _ _ (λ q. updated q ∙ ap (λ n. cond (eq_by_cmp R q k) n (finite_map.get (from_entries {R = R} es) q)) is ∙ sym (finite_map.get-insert o (from_entries es) k v q))

    pub map_remove : now ≡ None → from_entries {R = R} ns ≡ finite_map.remove (from_entries es) k
    map_remove is = finite_map.same_map o same _ _ (λ q. updated q ∙ ap (λ n. cond (eq_by_cmp R q k) n (finite_map.get (from_entries {R = R} es) q)) is ∙ sym (finite_map.get-remove o (from_entries es) k q))

  -- where the keys rise, the map has these entries
  module _ (same : IsAntisymmetric R) (es : List (K × X)) (sorted : IsStrictlySortedBy R (keys_of es)) where
    pub map_entries : finite_map.entries (from_entries {R = R} es) ≡ es
    map_entries = same_entries R o same _ es (finite_map.entries_sorted (from_entries es)) (rising R es sorted) (λ q. sym (finite_map.get-entries (from_entries es) q) ∙ finite_map.get-from_entries o es q)

    pub map_len : finite_map.len (from_entries {R = R} es) ≡ length es
    map_len = finite_map.len-entries (from_entries es) ∙ ap length map_entries

    pub map_keys : finite_map.keys (from_entries {R = R} es) ≡ keys_of es
    map_keys = ap keys_of map_entries

-- lists of bytes in their order
pub by_bytes : IsTotalOrder (slice_cmp nat_cmp)
by_bytes = nat_list_cmp_total

pub exact : IsAntisymmetric (slice_cmp nat_cmp)
exact = finite_map.slice_cmp-IsAntisymmetric finite_map.nat_cmp-IsAntisymmetric

-- what an iterator gives first
pub first_item : {A X : Type 0} (shows : A → X) (s t : List X) (first : Option A) → TakesFirst shows s first t → option_map shows first ≡ slice_get s 0
first_item shows s t None takes = rw takes.0 refl
first_item shows s t (Some x) takes = rw takes refl

-- and where it gives entries, its key
pub first_key : {K X : Type 0} (s t : List (K × X)) (first : Option (Bor K × Bor X)) → TakesFirst deref_pair s first t → option_map (λ p. p.0.now) first ≡ slice_get (keys_of s) 0
first_key s t None takes = rw takes.0 refl
first_key s t (Some p) takes = rw takes refl

keys_either : {K X : Type 0} (b : Bool) (e : K × X) (es : List (K × X)) (ks : List K) → keys_of es ≡ ks → keys_of (cond b (e ∷ es) es) ≡ cond b (e.0 ∷ ks) ks
keys_either true e es ks same = ap (λ l. e.0 ∷ l) same
keys_either false e es ks same = same

-- entries chosen by their keys
pub keys_filter : {K X : Type 0} (p : K → Bool) (es : List (K × X)) → keys_of (filter (λ e. p e.0) es) ≡ filter p (keys_of es)
keys_filter p [] = refl
keys_filter p (e ∷ es) = keys_either (p e.0) e _ _ (keys_filter p es)

and_true : (b : Bool) → (b && true) ≡ b
and_true true = refl
and_true false = refl

-- the entries behind a key
pub keys_behind : {K X : Type 0} (R : K → K → Ordering) (from : K) (es : List (K × X)) → keys_of (entries_between R (Excluded from) Unbounded es) ≡ filter (λ k. is_lt (R from k)) (keys_of es)
keys_behind R from es = keys_filter (λ k. is_lt (R from k) && true) es ∙ ap (λ p. filter p (keys_of es)) (λ i k. and_true (is_lt (R from k)) i)
