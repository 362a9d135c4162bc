-- Reading items from left to right, against the grammar and the first fault.
use Rattle.std.proofs.Common.{◌≡◌, ◌⊎◌, inl, inr, ℕ, zero, suc, ◌+◌, ◌^◌, ◌<◌, ◌≤◌, List, [], ◌∷◌, ◌++◌, length, Result, Ok, Err, refl, sym, ap, ◌∙◌, append_assoc, arith, length-append}
use Rattle.ss_cid.proofs.Chains.{bind-Ok, Ok-same}
use Rattle.ss_cid.specs.Steps.{◌>>=◌}
use Rattle.ss_cbor.specs.Item.{Part, items_in, links_of, Items, none}
use Rattle.ss_cbor.specs.Reading.{piece_at, part_at}
use Rattle.ss_cbor.specs.Fault.{FirstFault, here, later, walk}
use Rattle.ss_cbor.specs.declared.fault.CborFault.{CborFault}
use Rattle.ss_cbor.specs.declared.fault.CborKind.TheVariants.{Truncated}
use Rattle.ss_cbor.proofs.Numbers.{IsBytes, Takes}
use Rattle.ss_cbor.proofs.Parts.{TakesPart, part_takes, part_again, IsPart-some}
use Rattle.ss_cbor.proofs.Rows.{Items-cons, Items-uncons, Items-none, Items-few}

pub Err-same : {A E : Type 0} {d e : E} → ◌≡◌ {A = Result A E} (Err d) (Err e) → d ≡ e
Err-same h = cc

-- a refusal of a step comes from its first half or its second
pub bind-Err : {A B E : Type 0} (r : Result A E) (f : A → Result B E) (e : E) → (r >>= f) ≡ Err e → (r ≡ Err e) ⊎ ((x : A) × (r ≡ Ok x) × (f x ≡ Err e))
bind-Err (Ok x) f e h = inr (x, refl, h)
bind-Err (Err d) f e h = inl (ap Err (Err-same h))

-- what a row of items took
pub record TakesItems (due : ℕ) (bytes : List ℕ) (x : List (List ℕ) × List ℕ) : Type 0 where
  pub front : List ℕ
  pub takes : Takes bytes front x.1
  pub items : Items due front x.0

takes_part_first : (due : ℕ) (bytes : List ℕ) (first : Part × List ℕ) (others : List (List ℕ) × List ℕ) → TakesPart due bytes first →
    TakesItems (items_in first.0 + due) first.1 others → TakesItems (suc due) bytes (links_of first.0 ++ others.0, others.1)
takes_part_first due bytes first others p q = record {
  front = p.front ++ q.front;
  takes = record { parts = rw (p.takes.parts, q.takes.parts, append_assoc) refl; fits = q.takes.fits };
  items = Items-cons first.0 due p.front q.front others.0 p.is q.items;
}

pub walk_takes : (most due end : ℕ) (bytes : List ℕ) (x : List (List ℕ) × List ℕ) → due < 2 ^ 63 → IsBytes bytes →
    walk most due end bytes ≡ Ok x → TakesItems due bytes x
unfolding walk
walk_takes most zero end bytes x room fits h = rw (← (Ok-same h)) (record { front = []; takes = record { parts = refl; fits = fits }; items = none })
walk_takes zero (suc due) end bytes x room fits h = absurd (cc)
walk_takes (suc most) (suc due) end bytes x room fits h =
    let p = bind-Ok (part_at due end bytes) _ x h in
    let q = bind-Ok (walk most (items_in p.0.0 + due) end p.0.1) _ x p.2 in
    let first = part_takes due end bytes p.0 (omega arith) fits p.1 in
    let others = walk_takes most (items_in p.0.0 + due) end p.0.1 q.0 (omega (arith, first.fits)) first.takes.fits q.1 in
    rw (← (Ok-same q.2)) (takes_part_first due bytes p.0 q.0 first others)

pub walk_again : (most due end : ℕ) (front rest : List ℕ) (links : List (List ℕ)) → length front ≤ most → length front < 2 ^ 63 →
    Items due front links → walk most due end (front ++ rest) ≡ Ok (links, rest)
unfolding walk
walk_again most zero end front rest links le room h = let e = Items-none h in rw (e.0, e.1) refl
walk_again zero (suc due) end front rest links le room h = absurd (omega (arith, Items-few h))
walk_again (suc most) (suc due) end front rest links le room h =
    let u = Items-uncons h in
    let some = IsPart-some u.front u.part u.is in
    let few = Items-few u.items in
    let len : length front ≡ length u.front + length u.rest = ap length u.parts ∙ length-append u.front u.rest in
    let first : part_at due end (u.front ++ (u.rest ++ rest)) ≡ Ok (u.part, u.rest ++ rest) = part_again due end u.front (u.rest ++ rest) u.part u.is (omega (arith, few.0)) in
    let others : walk most (items_in u.part + due) end (u.rest ++ rest) ≡ Ok (u.others, rest) =
    walk_again most (items_in u.part + due) end u.rest rest u.others (omega arith) (omega arith) u.items in
    let regrouped : front ++ rest ≡ u.front ++ (u.rest ++ rest) = ap (λ (l : List ℕ). l ++ rest) u.parts ∙ append_assoc u.front u.rest rest in
    ap (walk (suc most) (suc due) end) regrouped ∙ rw (first, others) (ap (λ (l : List (List ℕ)). Ok (l, rest)) (sym u.links_are))

-- a part takes a byte
pub part_shorter : (due end : ℕ) (bytes : List ℕ) (x : Part × List ℕ) → TakesPart due bytes x → length x.1 < length bytes
part_shorter due end bytes x t =
    omega (arith, IsPart-some t.front x.0 t.is, ap length t.takes.parts, length-append t.front x.1)

pub no_bytes : (due end : ℕ) (bytes : List ℕ) → length bytes ≤ 0 → part_at due end bytes ≡ Err (record { kind = Truncated; at = end })
unfolding part_at piece_at
no_bytes due end [] le = refl
no_bytes due end (b ∷ bytes) le = absurd (omega arith)

-- a walk that is refused has that first fault
pub walk_faults : (most due end : ℕ) (bytes : List ℕ) (fault : CborFault) → due < 2 ^ 63 → IsBytes bytes → length bytes ≤ most →
    walk most due end bytes ≡ Err fault → FirstFault end due bytes fault
unfolding walk
walk_faults most zero end bytes fault room fits le h = absurd (cc)
walk_faults zero (suc due) end bytes fault room fits le h = here (no_bytes due end bytes le ∙ ap Err (Err-same h))
walk_faults (suc most) (suc due) end bytes fault room fits le h =
    elim (bind-Err (part_at due end bytes) _ fault h) [
      | inl e ↦ here e
      | inr p ↦
          let first = part_takes due end bytes p.0 (omega arith) fits p.1 in
          elim (bind-Err (walk most (items_in p.0.0 + due) end p.0.1) _ fault p.2) [
            | inl e ↦ later {rest = p.0.1} {part = p.0.0} p.1
                (walk_faults most (items_in p.0.0 + due) end p.0.1 fault (omega (arith, first.fits)) first.takes.fits (omega (arith, part_shorter due end bytes p.0 first)) e)
            | inr q ↦ absurd (cc (q.2))
          ]
    ]

-- where there is a first fault, a walk is refused with it
pub walk_refused : (most end : ℕ) {due : ℕ} {bytes : List ℕ} {fault : CborFault} → due < 2 ^ 63 → IsBytes bytes → length bytes ≤ most →
    FirstFault end due bytes fault → walk most due end bytes ≡ Err fault
unfolding walk
walk_refused zero end room fits le (here {due = due} {bytes = bytes} e) = ap Err (Err-same (sym (no_bytes due end bytes le) ∙ e))
walk_refused (suc most) end room fits le (here e) = rw e refl
walk_refused zero end room fits le (later {due = due} {bytes = bytes} e f) = let none = no_bytes due end bytes le in absurd (cc (none, e))
walk_refused (suc most) end room fits le (later {due = due} {bytes = bytes} {rest = rest} {part = part} e f) =
    let first = part_takes due end bytes (part, rest) (omega arith) fits e in
    let others = walk_refused most end (omega (arith, first.fits)) first.takes.fits (omega (arith, part_shorter due end bytes (part, rest) first)) f in
    rw (e, others) refl

bind_same : {A B E : Type 0} (r : Result A E) (f g : A → Result B E) → ((x : A) → r ≡ Ok x → f x ≡ g x) → (r >>= f) ≡ (r >>= g)
bind_same (Ok x) f g h = h x refl
bind_same (Err e) f g h = refl

-- more parts than there are bytes change nothing
pub walk_enough : (m n due end : ℕ) (bytes : List ℕ) → due < 2 ^ 63 → IsBytes bytes → length bytes ≤ m → length bytes ≤ n →
    walk m due end bytes ≡ walk n due end bytes
unfolding walk
walk_enough m n zero end bytes room fits p q = refl
walk_enough zero zero (suc due) end bytes room fits p q = refl
walk_enough zero (suc n) (suc due) end bytes room fits p q = rw (no_bytes due end bytes p) refl
walk_enough (suc m) zero (suc due) end bytes room fits p q = rw (no_bytes due end bytes q) refl
walk_enough (suc m) (suc n) (suc due) end bytes room fits p q =
    bind_same (part_at due end bytes) _ _ (λ x ok.
    let first = part_takes due end bytes x (omega arith) fits ok in
    let shorter = part_shorter due end bytes x first in
    ap (λ (w : Result (List (List ℕ) × List ℕ) CborFault). w >>= λ others. Ok (links_of x.0 ++ others.0, others.1))
    (walk_enough m n (items_in x.0 + due) end x.1 (omega (arith, first.fits)) first.takes.fits (omega arith) (omega arith)))
