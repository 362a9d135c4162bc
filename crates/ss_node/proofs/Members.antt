-- Members of lists, for the walks of trees.
use Rattle.std.proofs.Common.{◌≡◌, ◌⊎◌, inl, inr, ℕ, zero, suc, List, [], ◌∷◌, ◌++◌, map, reverse, take, drop, length, Contains, slice_get, Some, Result, Ok, Err, refl, sym, ap, ◌∙◌, subst, arith}
use Rattle.std.specs.List.{flat_map}
use Rattle.std.proofs.lemmas.List.{take_at, drop_at}
use Rattle.std.proofs.lemmas.List.Concat.{flat_map-cons}
use Rattle.std.proofs.lemmas.Option.{none-some}
use Rattle.ss_node.specs.declared.fault.NodeFault.{NodeFault}

pub data In {X : Type 0} (x : X) : List X → Type 0 where
  here : {xs : List X} → In x (x ∷ xs)
  there : {y : X} {xs : List X} → In x xs → In x (y ∷ xs)

pub in-left : {X : Type 0} {x : X} {xs : List X} (ys : List X) → In x xs → In x (xs ++ ys)
in-left ys here = here
in-left ys (there m) = there (in-left ys m)

pub in-right : {X : Type 0} {x : X} (xs : List X) {ys : List X} → In x ys → In x (xs ++ ys)
in-right [] m = m
in-right (y ∷ xs) m = there (in-right xs m)

pub in-either : {X : Type 0} {x : X} (xs ys : List X) → In x (xs ++ ys) → In x xs ⊎ In x ys
in-either [] ys m = inr m
in-either (y ∷ xs) ys here = inl here
in-either (y ∷ xs) ys (there m) = elim (in-either xs ys m) [ inl l ↦ inl (there l) | inr r ↦ inr r ]

pub in-map : {X Y : Type 0} (f : X → Y) {x : X} {xs : List X} → In x xs → In (f x) (map f xs)
in-map f here = here
in-map f (there m) = there (in-map f m)

pub of-map : {X Y : Type 0} (f : X → Y) {y : Y} (xs : List X) → In y (map f xs) → (x : X) × In x xs × (y ≡ f x)
of-map f [] m = elim m [ ]
of-map f (x ∷ xs) here = (x, here, refl)
of-map f (x ∷ xs) (there m) = let r = of-map f xs m in (r.0, there r.1, r.2)

pub in-flat : {X Y : Type 0} (f : X → List Y) {y : Y} {x : X} (xs : List X) → In x xs → In y (f x) → In y (flat_map f xs)
in-flat f [] m k = elim m [ ]
in-flat f {y = y} (x ∷ xs) here k = subst (In y) (sym (flat_map-cons f x xs)) (in-left (flat_map f xs) k)
in-flat f {y = y} (z ∷ xs) (there m) k = subst (In y) (sym (flat_map-cons f z xs)) (in-right (f z) (in-flat f xs m k))

pub Some-same : {A : Type 0} (x y : A) → Some x ≡ Some y → x ≡ y
Some-same x y h = cc

pub in-get : {X : Type 0} (xs : List X) (i : ℕ) (x : X) → slice_get xs i ≡ Some x → In x xs
in-get [] i x e = absurd (none-some x e)
in-get {X} (y ∷ xs) zero x e = subst (λ (z : X). In z (y ∷ xs)) (Some-same y x e) here
in-get (y ∷ xs) (suc i) x e = there (in-get xs i x e)

pub contains-in : {X : Type 0} (xs : List X) (x : X) → In x xs → Contains xs x
contains-in [] x m = elim m [ ]
contains-in (x ∷ xs) _ here = (0, omega arith, refl)
contains-in (y ∷ xs) x (there m) = let r = contains-in xs x m in (suc r.0, omega (arith, r.1), r.2)

pub in-contains : {X : Type 0} (xs : List X) (x : X) → Contains xs x → In x xs
in-contains [] x (k, lt, e) = absurd (omega (arith, lt))
in-contains (y ∷ xs) x (zero, lt, e) = subst (λ z. In z (y ∷ xs)) e here
in-contains (y ∷ xs) x (suc k, lt, e) = there (in-contains xs x (k, omega (arith, lt), e))

-- ---- results

pub Ok-same : {A : Type 0} (x y : A) → ◌≡◌ {A = Result A NodeFault} (Ok x) (Ok y) → x ≡ y
Ok-same x y h = cc

pub Err-same : {A : Type 0} (x y : NodeFault) → ◌≡◌ {A = Result A NodeFault} (Err x) (Err y) → x ≡ y
Err-same x y h = cc

pub Ok-Err : {A : Type 0} (x : A) (y : NodeFault) → ◌≡◌ {A = Result A NodeFault} (Ok x) (Err y) → ⊥
Ok-Err x y h = cc

-- ---- lists that are pending

pub no-items : {X : Type 0} (items : List X) → length items ≡ 0 → items ≡ []
no-items [] h = refl
no-items (x ∷ items) h = absurd (omega (arith, h))

-- what was added is turned round
pub reversed-end : {Z : Type 0} (was added items : List Z) (start : ℕ) → items ≡ was ++ added → start ≡ length was → take start items ++ reverse (drop start items) ≡ was ++ reverse added
reversed-end was added items start is at =
    rw (is, at) (ap (λ l. l ++ reverse (drop (length was) (was ++ added))) (take_at was added (length was) refl) ∙ ap (λ l. was ++ reverse l) (drop_at was added (length was) refl))
