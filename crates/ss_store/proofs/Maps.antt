-- Finite maps that tell the same of each key.
use Rattle.std.proofs.Common.{◌≡◌, Bool, true, false, cond, ◌&&◌, List, [], ◌∷◌, map, length, Option, None, Some, refl, sym, ap, ap₂, subst, ◌∙◌, Ordering, is_lt}
use Rattle.std.specs.Prelude.{option_map, is_some}
use Rattle.std.proofs.Math.Dec.{T}
use Rattle.std.specs.Map.{keys_of}
use Rattle.std.specs.Ordering.{eq_by_cmp}
use Rattle.std.specs.Cmp.{IsTotalOrder}
use Rattle.std.specs.FinMap as finite_map
use Rattle.std.specs.FinMap.{FinMap, IsAntisymmetric, find, is_sorted}
use Rattle.std.specs.FinMap.Entries.{below_all, same_entries}
use Rattle.std.proofs.lemmas.Map.Entries.{length-keys_of}

-- entries with each value read by a function
abbrev reads : {K X Z : Type 0} → (X → Z) → List (K × X) → List (K × Z)
reads f es = map (λ e. (e.0, f e.1)) es

picked : {X Z : Type 0} (f : X → Z) (b : Bool) (x : X) (o : Option X) (p : Option Z) → p ≡ option_map f o → cond b (Some (f x)) p ≡ option_map f (cond b (Some x) o)
picked f true x o p is = refl
picked f false x o p is = is

module _ {K X Z : Type 0} (R : K → K → Ordering) (f : X → Z) where
  keys_reads : (es : List (K × X)) → keys_of (reads f es) ≡ keys_of es
  keys_reads [] = refl
  keys_reads (e ∷ es) = ap (λ ks. e.0 ∷ ks) (keys_reads es)

  below_reads : (k : K) (es : List (K × X)) → below_all R k (reads f es) ≡ below_all R k es
  below_reads k [] = refl
  below_reads k (e ∷ es) = ap (λ b. is_lt (R k e.0) && b) (below_reads k es)

  sorted_reads : (es : List (K × X)) → is_sorted R (reads f es) ≡ is_sorted R es
  sorted_reads [] = refl
  sorted_reads (e ∷ es) = ap₂ (λ a b. a && b) (below_reads e.0 es) (sorted_reads es)

  find_reads : (q : K) (es : List (K × X)) → find R q (reads f es) ≡ option_map f (find R q es)
  find_reads q [] = refl
  find_reads q (e ∷ es) = picked f (eq_by_cmp R q e.0) e.1 (find R q es) (find R q (reads f es)) (find_reads q es)

-- ---- two maps of which two functions read the same at each key

replaced : {X Y Z : Type 0} (f : X → Z) (g : Y → Z) (b : Bool) (x y : Option X × Option Y) → option_map f x.0 ≡ option_map g x.1 → option_map f y.0 ≡ option_map g y.1 → option_map f (cond b x.0 y.0) ≡ option_map g (cond b x.1 y.1)
replaced f g true x y first second = first
replaced f g false x y first second = second

module _ {K X Y Z : Type 0} {R : K → K → Ordering} (o : IsTotalOrder R) (f : X → Z) (g : Y → Z) where
  abbrev pub AreAlike : FinMap R X → FinMap R Y → Type 0
  AreAlike m n = (q : K) → option_map f (finite_map.get m q) ≡ option_map g (finite_map.get n q)

  pub alike_insert : (m : FinMap R X) (n : FinMap R Y) (k : K) (x : X) (y : Y) → f x ≡ g y → AreAlike m n → AreAlike (finite_map.insert m k x) (finite_map.insert n k y)
  alike_insert m n k x y same alike q =
      ap (option_map f) (finite_map.get-insert o m k x q)
      ∙ replaced f g (eq_by_cmp R q k) (Some x, Some y) (finite_map.get m q, finite_map.get n q) (ap Some same) (alike q)
      ∙ sym (ap (option_map g) (finite_map.get-insert o n k y q))

  pub alike_remove : (m : FinMap R X) (n : FinMap R Y) (k : K) → AreAlike m n → AreAlike (finite_map.remove m k) (finite_map.remove n k)
  alike_remove m n k alike q =
      ap (option_map f) (finite_map.get-remove o m k q)
      ∙ replaced f g (eq_by_cmp R q k) (None, None) (finite_map.get m q, finite_map.get n q) refl (alike q)
      ∙ sym (ap (option_map g) (finite_map.get-remove o n k q))

  module _ (exact : IsAntisymmetric R) (m : FinMap R X) (n : FinMap R Y) (alike : (q : K) → option_map f (finite_map.get m q) ≡ option_map g (finite_map.get n q)) where
    same_reads : reads f (finite_map.entries m) ≡ reads g (finite_map.entries n)
    same_reads = same_entries R o exact _ _
        (subst T (sym (sorted_reads R f (finite_map.entries m))) (finite_map.entries_sorted m))
        (subst T (sym (sorted_reads R g (finite_map.entries n))) (finite_map.entries_sorted n))
        (λ q. find_reads R f q (finite_map.entries m) ∙ ap (option_map f) (sym (finite_map.get-entries m q)) ∙ alike q ∙ ap (option_map g) (finite_map.get-entries n q) ∙ sym (find_reads R g q (finite_map.entries n)))

    pub alike_keys : finite_map.keys m ≡ finite_map.keys n
    alike_keys = sym (keys_reads R f (finite_map.entries m)) ∙ ap keys_of same_reads ∙ keys_reads R g (finite_map.entries n)

    pub alike_len : finite_map.len m ≡ finite_map.len n
    alike_len =
        finite_map.len-entries m ∙ sym (length-keys_of (finite_map.entries m))
        ∙ ap length alike_keys
        ∙ length-keys_of (finite_map.entries n) ∙ sym (finite_map.len-entries n)

is_some-read : {X Z : Type 0} (f : X → Z) (o : Option X) → is_some (option_map f o) ≡ is_some o
is_some-read f None = refl
is_some-read f (Some x) = refl

pub alike_some : {X Y Z : Type 0} (f : X → Z) (g : Y → Z) (x : Option X) (y : Option Y) → option_map f x ≡ option_map g y → is_some x ≡ is_some y
alike_some f g x y same = sym (is_some-read f x) ∙ ap is_some same ∙ is_some-read g y

pub read_whole : {X : Type 0} (o : Option X) → option_map (λ x. x) o ≡ o
read_whole None = refl
read_whole (Some x) = refl
