-- The slots that are taken, one after another.
use Rattle.std.proofs.Common.{◌≡◌, ℕ, zero, suc, ◌+◌, ◌-◌, ◌<◌, ◌≤◌, Bool, true, false, cond, List, [], ◌∷◌, ◌++◌, length, refl, sym, ap, ◌∙◌, inl, inr, arith, length-append, append_assoc}
use Rattle.std.proofs.lemmas.List.{append-nil}
use Rattle.std.proofs.lemmas.Bool.{cases_lt}
use Rattle.std.specs.List.{zip}
use native.Mathlib.Numerals.{add-one}
use Rattle.ss_node.specs.Bits.{is_set, ones_below}
use Rattle.ss_amt.specs.Walks.{taken_below}

pub ones-clear : (bits : List ℕ) (n : ℕ) → is_set bits n ≡ false → ones_below bits (n + 1) ≡ ones_below bits n
unfolding ones_below
ones-clear bits n h = rw (add-one, h) (omega arith)

pub ones-set : (bits : List ℕ) (n : ℕ) → is_set bits n ≡ true → ones_below bits (n + 1) ≡ ones_below bits n + 1
unfolding ones_below
ones-set bits n h = rw (add-one, h) refl

pub taken-clear : (bits : List ℕ) (n : ℕ) → is_set bits n ≡ false → taken_below bits (n + 1) ≡ taken_below bits n
unfolding taken_below
taken-clear bits n h = rw (add-one, h) (append-nil (taken_below bits n))

pub taken-set : (bits : List ℕ) (n : ℕ) → is_set bits n ≡ true → taken_below bits (n + 1) ≡ taken_below bits n ++ n ∷ []
unfolding taken_below
taken-set bits n h = rw (add-one, h) refl

step-le : (bits : List ℕ) (n : ℕ) (b : Bool) → is_set bits n ≡ b → ones_below bits n ≤ ones_below bits (n + 1)
step-le bits n true h = omega (arith, ones-set bits n h)
step-le bits n false h = omega (arith, ones-clear bits n h)

ones-more : (bits : List ℕ) (n k : ℕ) → ones_below bits n ≤ ones_below bits (n + k)
ones-more bits n zero = let e : n + 0 ≡ n = omega arith in rw e (omega arith)
ones-more bits n (suc k) =
    let e : n + suc k ≡ n + k + 1 = omega arith in
    rw e (omega (arith, ones-more bits n k, step-le bits (n + k) (is_set bits (n + k)) refl))

pub ones-mono : (bits : List ℕ) (m n : ℕ) → m ≤ n → ones_below bits m ≤ ones_below bits n
ones-mono bits m n le = let e : m + (n - m) ≡ n = omega arith in ap-le e (ones-more bits m (n - m))
  where
    ap-le : m + (n - m) ≡ n → ones_below bits m ≤ ones_below bits (m + (n - m)) → ones_below bits m ≤ ones_below bits n
    ap-le e h = rw e at h

-- fewer bits are set below a slot than below another, so it is before it
pub before-end : (bits : List ℕ) (next end : ℕ) → ones_below bits next < ones_below bits end → next < end
before-end bits next end lt = elim (cases_lt next end) [ inl h ↦ h | inr le ↦ absurd (omega (arith, ones-mono bits end next le)) ]

-- there are as many slots as bits
pub taken-length : (bits : List ℕ) (n : ℕ) → length (taken_below bits n) ≡ ones_below bits n
unfolding taken_below ones_below
taken-length bits zero = refl
taken-length bits (suc n) = length-append (taken_below bits n) (cond (is_set bits n) (n ∷ []) []) ∙ counted (is_set bits n) (taken-length bits n)
  where
    counted : (b : Bool) → length (taken_below bits n) ≡ ones_below bits n → length (taken_below bits n) + length (cond b (n ∷ []) []) ≡ ones_below bits n + cond b 1 0
    counted true h = ap (λ k. k + 1) h
    counted false h = ap (λ k. k + 0) h

taken-more : (bits : List ℕ) (n k : ℕ) → (others : List ℕ) × (taken_below bits (n + k) ≡ taken_below bits n ++ others)
unfolding taken_below
taken-more bits n zero = let e : n + 0 ≡ n = omega arith in ([], ap (taken_below bits) e ∙ sym (append-nil (taken_below bits n)))
taken-more bits n (suc k) =
    let e : n + suc k ≡ suc (n + k) = omega arith in
    let some = taken-more bits n k in
    let last = cond (is_set bits (n + k)) ((n + k) ∷ []) [] in
    (some.0 ++ last, ap (taken_below bits) e ∙ ap (λ l. l ++ last) some.1 ∙ append_assoc (taken_below bits n) some.0 last)

-- ---- entries beside their slots

pub zip-none : {X : Type 0} (slots : List ℕ) → zip {X = X} slots [] ≡ []
zip-none [] = refl
zip-none (s ∷ slots) = refl

zip-prefix : {X : Type 0} (slots others : List ℕ) (entries : List X) → length entries ≡ length slots → zip (slots ++ others) entries ≡ zip slots entries
zip-prefix {X} [] others [] h = zip-none {X = X} others
zip-prefix [] others (x ∷ entries) h = absurd (omega (arith, h))
zip-prefix (s ∷ slots) others [] h = absurd (omega (arith, h))
zip-prefix (s ∷ slots) others (x ∷ entries) h = ap (λ l. (s, x) ∷ l) (zip-prefix slots others entries (omega (arith, h)))

pub zip-push : {X : Type 0} (slots : List ℕ) (entries : List X) (s : ℕ) (x : X) → length entries ≡ length slots → zip (slots ++ s ∷ []) (entries ++ x ∷ []) ≡ zip slots entries ++ (s, x) ∷ []
zip-push [] [] s x h = refl
zip-push [] (y ∷ entries) s x h = absurd (omega (arith, h))
zip-push (t ∷ slots) [] s x h = absurd (omega (arith, h))
zip-push (t ∷ slots) (y ∷ entries) s x h = ap (λ l. (t, y) ∷ l) (zip-push slots entries s x (omega (arith, h)))

-- entries that end before some slot stand beside the same slots in the whole node
pub zip-whole : {X : Type 0} (bits : List ℕ) (n whole : ℕ) (entries : List X) → n ≤ whole → length entries ≡ length (taken_below bits n) → zip (taken_below bits whole) entries ≡ zip (taken_below bits n) entries
zip-whole bits n whole entries le h =
    let more = taken-more bits n (whole - n) in
    let e : n + (whole - n) ≡ whole = omega arith in
    ap (λ l. zip l entries) (ap (taken_below bits) (sym e) ∙ more.1) ∙ zip-prefix (taken_below bits n) more.0 entries h
