-- Fields of one kind, one after another, as a loop reads them.
use Rattle.std.proofs.Common.{◌≡◌, ℕ, zero, suc, List, [], ◌∷◌, ◌++◌, length, Result, Ok, Err, refl, sym, ap, subst, ◌∙◌}
use Rattle.std.proofs.lemmas.List.{append-nil, append_assoc}
use Rattle.std.specs.List.{flat_map, AllByRecursion}
use Rattle.ss_records.proofs.Parts.{IsBytes, Takes, IsField, IsWhole, begins, begins_again, ended_whole}
use Rattle.ss_cid.specs.Steps.{◌>>=◌}
use Rattle.ss_cid.proofs.Chains.{bind-Ok, Ok-same}
use Rattle.ss_records.specs.Fields.{items_at, items_of, ended}

-- what was read before, and what is still read
abbrev pub with_front : {X : Type 0} → List X → Result (List X × List ℕ) ℕ → Result (List X × List ℕ) ℕ
with_front front read = read >>= λ items. Ok (front ++ items.0, items.1)

regroup : {X : Type 0} (front : List X) (x : X) (read : Result (List X × List ℕ) ℕ)
    → with_front front (read >>= λ items. Ok (x ∷ items.0, items.1)) ≡ with_front (front ++ x ∷ []) read
regroup front x (Ok items) = ap (λ xs. Ok (xs, items.1)) (sym (append_assoc front (x ∷ []) items.0))
regroup front x (Err e) = refl

-- in reading all, `front` was read, and so many items are left in `bytes`
pub record Reads {X : Type 0} (item : List ℕ → Result (X × List ℕ) ℕ) (all : Result (List X) ℕ) (front : List X) (left : ℕ) (bytes : List ℕ) : Type 0 where
  pub so_far : (with_front front (items_at item left bytes) >>= λ items. ended items.0 items.1) ≡ all

with_nothing : {X : Type 0} (read : Result (List X × List ℕ) ℕ) → with_front [] read ≡ read
with_nothing (Ok items) = refl
with_nothing (Err e) = refl

pub Reads-start : {X : Type 0} (item : List ℕ → Result (X × List ℕ) ℕ) (n left : ℕ) (bytes : List ℕ) → left ≡ n → Reads item (items_of item n bytes) [] left bytes
unfolding items_of
Reads-start item n left bytes e = record { so_far = rw e (ap (λ read. read >>= λ items. ended items.0 items.1) (with_nothing (items_at item n bytes))) }

pub Reads-next : {X : Type 0} (item : List ℕ → Result (X × List ℕ) ℕ) (all : Result (List X) ℕ) (front : List X) (left fewer : ℕ) (bytes : List ℕ) (x : X) (rest : List ℕ)
    → Reads item all front left bytes → left ≡ suc fewer → item bytes ≡ Ok (x, rest) → Reads item all (front ++ x ∷ []) fewer rest
unfolding items_at
Reads-next item all front left fewer bytes x rest r e h = record {
  so_far =
      let one : with_front front (items_at item left bytes) ≡ with_front (front ++ x ∷ []) (items_at item fewer rest) = rw (e, h) (regroup front x (items_at item fewer rest)) in
      sym (ap (λ read. read >>= λ items. ended items.0 items.1) one) ∙ r.so_far;
}

pub Reads-fault : {X : Type 0} (item : List ℕ → Result (X × List ℕ) ℕ) (all : Result (List X) ℕ) (front : List X) (left fewer : ℕ) (bytes : List ℕ) (at : ℕ)
    → Reads item all front left bytes → left ≡ suc fewer → item bytes ≡ Err at → all ≡ Err at
unfolding items_at
Reads-fault item all front left fewer bytes at r e h = sym r.so_far ∙ rw (e, h) refl

pub Reads-end : {X : Type 0} (item : List ℕ → Result (X × List ℕ) ℕ) (all : Result (List X) ℕ) (front : List X) (left : ℕ) (bytes : List ℕ)
    → Reads item all front left bytes → left ≡ 0 → all ≡ ended front bytes
unfolding items_at
Reads-end item all front left bytes r e =
    sym r.so_far ∙ rw e (ap (λ xs. ended xs bytes) (append-nil front))

items_take : {X : Type 0} {text : X → List ℕ} {P : X → Type 0} {item : List ℕ → Result (X × List ℕ) ℕ} → IsField text P item
    → (n : ℕ) (bytes : List ℕ) (xs : List X) (rest : List ℕ) → IsBytes bytes → items_at item n bytes ≡ Ok (xs, rest)
    → Takes bytes (flat_map text xs) rest × (length xs ≡ n) × AllByRecursion P xs
unfolding items_at
items_take {text = text} {P = P} field zero bytes xs rest small h =
    subst (λ p. Takes bytes (flat_map text p.0) p.1 × (length p.0 ≡ 0) × AllByRecursion P p.0) (Ok-same h)
    (record { parts = refl; rest_bytes = small }, refl, tt)
items_take {text = text} {P = P} {item = item} field (suc n) bytes xs rest small h =
    begins field _ bytes (xs, rest) small h _ (λ x one e1 holds small1 h1.
    let others = bind-Ok (items_at item n one) (λ o. Ok (x ∷ o.0, o.1)) (xs, rest) h1 in
    let taken = items_take field n one others.0.0 others.0.1 small1 others.1 in
    subst (λ p. Takes bytes (flat_map text p.0) p.1 × (length p.0 ≡ suc n) × AllByRecursion P p.0) (Ok-same others.2) (
      record {
        parts = e1 ∙ ap (λ b. text x ++ b) taken.0.parts ∙ sym (append_assoc (text x) (flat_map text others.0.0) others.0.1);
        rest_bytes = taken.0.rest_bytes;
      },
      ap suc taken.1,
      (holds, taken.2),
    ))

items_again : {X : Type 0} {text : X → List ℕ} {P : X → Type 0} {item : List ℕ → Result (X × List ℕ) ℕ} → IsField text P item
    → (xs : List X) (rest : List ℕ) → AllByRecursion P xs → items_at item (length xs) (flat_map text xs ++ rest) ≡ Ok (xs, rest)
unfolding items_at
items_again field [] rest all = refl
items_again {text = text} {item = item} field (x ∷ xs) rest all =
    ap (items_at item (suc (length xs))) (append_assoc (text x) (flat_map text xs) rest)
    ∙ begins_again field _ x (flat_map text xs ++ rest) all.0
    ∙ rw (items_again field xs rest all.1) refl

-- so many fields of one kind are a field
pub items_field : {X : Type 0} {text : X → List ℕ} {P : X → Type 0} {item : List ℕ → Result (X × List ℕ) ℕ} → IsField text P item
    → (n : ℕ) → IsField (flat_map text) (λ xs. (length xs ≡ n) × AllByRecursion P xs) (items_at item n)
items_field field n = record {
  takes = λ bytes xs rest small h. let taken = items_take field n bytes xs rest small h in (taken.0, (taken.1, taken.2));
  again = λ xs rest is. rw (← is.0) (items_again field xs rest is.1);
}

-- and with nothing behind them all of the bytes
pub items_whole : {X : Type 0} {text : X → List ℕ} {P : X → Type 0} {item : List ℕ → Result (X × List ℕ) ℕ} → IsField text P item
    → (n : ℕ) → IsWhole (flat_map text) (λ xs. (length xs ≡ n) × AllByRecursion P xs) (items_of item n)
unfolding items_of
items_whole field n = ended_whole (items_field field n)
