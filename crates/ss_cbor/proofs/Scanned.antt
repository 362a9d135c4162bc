-- A block is scanned exactly where it is one item, and else with its first fault.
use Rattle.std.proofs.Common.{◌≡◌, ◌≢◌, inl, inr, ℕ, ◌+◌, ◌-◌, ◌^◌, ◌<◌, ◌≤◌, false, cond, eqb, List, [], ◌++◌, length, Result, Ok, Err, refl, sym, ap, subst, ◌∙◌, arith, length-append}
use Rattle.std.specs.Prelude.{◌↔◌, IfOk}
use Rattle.std.proofs.lemmas.Bool.{eqb-true, eqb-false, eq-eqb, ne_eqb}
use Rattle.std.proofs.lemmas.List.{append-nil, nil_from_length}
use Rattle.ss_cid.proofs.Chains.{bind-Ok, chosen-Ok, Ok-same}
use Rattle.ss_cbor.specs.Item.{IsItem}
use Rattle.ss_cbor.specs.Fault.{FirstFault, IsTrailing, IsRefused, walk, items_at, rest_at, scanned}
use Rattle.ss_cbor.specs.declared.fault.CborFault.{CborFault}
use Rattle.ss_cbor.specs.declared.fault.CborKind.TheVariants.{Trailing}
use Rattle.ss_cbor.proofs.Numbers.{IsBytes}
use Rattle.ss_cbor.proofs.Heads.{choose}
use Rattle.ss_cbor.specs.Reading.{links_left}
use Rattle.ss_cbor.proofs.LinkRows.{links_of_item}
use Rattle.ss_cbor.proofs.Rows.{Items-few}
use Rattle.ss_cbor.proofs.Walk.{bind-Err, Err-same, TakesItems, walk_takes, walk_again, walk_faults, walk_refused}

abbrev trailing : ℕ → CborFault
trailing at = record { kind = Trailing; at = at }

-- the rest of the bytes behind one item decides
abbrev closed : List ℕ → List (List ℕ) × List ℕ → Result (List (List ℕ)) CborFault
closed bytes x = cond (eqb (length x.1) 0) (Ok x.0) (Err (trailing (length bytes - length x.1)))

module _ (bytes : List ℕ) (fits : IsBytes bytes) (room : length bytes < 2 ^ 63) where
  items-accepts : (links : List (List ℕ)) (rest front : List ℕ) → bytes ≡ front ++ rest → IsItem front links → items_at 1 (length bytes) bytes ≡ Ok (links, rest)
  unfolding items_at
  items-accepts links rest front parts h =
      let len : length bytes ≡ length front + length rest = ap length parts ∙ length-append front rest in
      ap (walk (length bytes) 1 (length bytes)) parts ∙ walk_again (length bytes) 1 (length bytes) front rest links (omega arith) (omega arith) h

  items-takes : (x : List (List ℕ) × List ℕ) → items_at 1 (length bytes) bytes ≡ Ok x → TakesItems 1 bytes x
  unfolding items_at
  items-takes x h = walk_takes (length bytes) 1 (length bytes) bytes x (omega arith) fits h

  pub scanned-Ok : (links : List (List ℕ)) → scanned bytes ≡ Ok links → IsItem bytes links
  unfolding scanned
  scanned-Ok links h =
      let x = bind-Ok (items_at 1 (length bytes) bytes) (closed bytes) links h in
      let c = chosen-Ok (eqb (length x.0.1) 0) (trailing (length bytes - length x.0.1)) (Ok x.0.0) links x.2 in
      let t = items-takes x.0 x.1 in
      let nothing : x.0.1 ≡ [] = nil_from_length x.0.1 (eqb-true _ _ c.0) in
      let whole : t.front ≡ bytes = sym (append-nil t.front) ∙ ap (λ (l : List ℕ). t.front ++ l) (sym nothing) ∙ sym t.takes.parts in
      subst (λ (l : List (List ℕ)). IsItem bytes l) (Ok-same c.1) (subst (λ (b : List ℕ). IsItem b x.0.0) whole t.items)

  pub Ok-scanned : (links : List (List ℕ)) → IsItem bytes links → scanned bytes ≡ Ok links
  unfolding scanned
  Ok-scanned links h = rw (items-accepts links [] bytes (sym (append-nil bytes)) h) refl

  trailing-is : (x : List (List ℕ) × List ℕ) (fault : CborFault) → TakesItems 1 bytes x → length x.1 ≢ 0 → trailing (length bytes - length x.1) ≡ fault → IsTrailing bytes fault
  trailing-is x fault t some is =
      let len : length bytes ≡ length t.front + length x.1 = ap length t.takes.parts ∙ length-append t.front x.1 in
      let place : length bytes - length x.1 ≡ length t.front = omega arith in
      record {
        item = t.front;
        rest = x.1;
        links = x.0;
        parts = t.takes.parts;
        is_item = t.items;
        some = λ none. some (ap length none);
        is = sym is ∙ ap trailing place;
      }

  pub scanned-Err : (fault : CborFault) → scanned bytes ≡ Err fault → IsRefused bytes fault
  unfolding scanned items_at
  scanned-Err fault h =
      elim (bind-Err (items_at 1 (length bytes) bytes) (closed bytes) fault h) [
        | inl e ↦ inl (walk_faults (length bytes) 1 (length bytes) bytes fault (omega arith) fits (omega arith) e)
        | inr x ↦ elim (choose (eqb (length x.0.1) 0) _ _ _ x.2) [
          | inl c ↦ absurd (cc (c.1))
          | inr c ↦ inr (trailing-is x.0 fault (items-takes x.0 x.1) (eqb-false _ _ c.0) (Err-same c.1))
        ]
      ]

  refused : (fault : CborFault) → FirstFault (length bytes) 1 bytes fault → scanned bytes ≡ Err fault
  unfolding scanned items_at
  refused fault h = rw (walk_refused (length bytes) (length bytes) (omega arith) fits (omega arith) h) refl

  refused_trailing : (fault : CborFault) → IsTrailing bytes fault → scanned bytes ≡ Err fault
  unfolding scanned
  refused_trailing fault t =
      let len : length bytes ≡ length t.item + length t.rest = ap length t.parts ∙ length-append t.item t.rest in
      let place : length bytes - length t.rest ≡ length t.item = omega arith in
      let some : eqb (length t.rest) 0 ≡ false = ne_eqb (length t.rest) 0 (λ e. t.some (nil_from_length t.rest e)) in
      rw (items-accepts t.links t.rest t.item t.parts t.is_item, some, place) (ap Err (sym t.is))

  pub Err-scanned : (fault : CborFault) → IsRefused bytes fault → scanned bytes ≡ Err fault
  Err-scanned fault (inl h) = refused fault h
  Err-scanned fault (inr t) = refused_trailing fault t

-- ---- from what follows the item

closed_by : (end : ℕ) (bytes rest : List ℕ) → rest_at 1 end bytes ≡ Ok rest → (links : List (List ℕ)) × (items_at 1 end bytes ≡ Ok (links, rest))
unfolding rest_at
closed_by end bytes rest h =
    let x = bind-Ok (items_at 1 end bytes) (λ x. Ok x.1) rest h in
    (x.0.0, x.1 ∙ ap (λ (r : List ℕ). Ok (x.0.0, r)) (Ok-same x.2))

pub scanned-fault : (bytes : List ℕ) (fault : CborFault) → rest_at 1 (length bytes) bytes ≡ Err fault → scanned bytes ≡ Err fault
unfolding scanned rest_at
scanned-fault bytes fault h =
    elim (bind-Err (items_at 1 (length bytes) bytes) (λ x. Ok x.1) fault h) [ inl e ↦ rw e refl | inr x ↦ absurd (cc (x.2)) ]

pub scanned-trailing : (bytes rest : List ℕ) → rest_at 1 (length bytes) bytes ≡ Ok rest → length rest ≢ 0 → scanned bytes ≡ Err (trailing (length bytes - length rest))
unfolding scanned
scanned-trailing bytes rest h some =
    let x = closed_by (length bytes) bytes rest h in
    rw (x.1, ne_eqb (length rest) 0 some) refl

pub scanned-closed : (bytes rest : List ℕ) → IsBytes bytes → length bytes < 2 ^ 63 → rest_at 1 (length bytes) bytes ≡ Ok rest → length rest ≡ 0 → scanned bytes ≡ Ok (links_left bytes)
unfolding scanned
scanned-closed bytes rest fits room h none =
    let x = closed_by (length bytes) bytes rest h in
    let is : scanned bytes ≡ Ok x.0 = rw (x.1, eq-eqb (length rest) 0 none) refl in
    is ∙ ap (λ (l : List (List ℕ)). Ok l) (sym (links_of_item bytes x.0 room (scanned-Ok bytes fits room x.0 is)))

-- ---- the clauses of a scan

pub accepts : (bytes : List ℕ) (r : Result (List (List ℕ)) CborFault) → IsBytes bytes → length bytes < 2 ^ 63 → r ≡ scanned bytes →
    (links : List (List ℕ)) → (r ≡ Ok links) ↔ IsItem bytes links
accepts bytes r fits room is links = (λ h. scanned-Ok bytes fits room links (sym is ∙ h), λ h. is ∙ Ok-scanned bytes fits room links h)

pub refuses : (bytes : List ℕ) (r : Result (List (List ℕ)) CborFault) → IsBytes bytes → length bytes < 2 ^ 63 → r ≡ scanned bytes →
    (fault : CborFault) → (r ≡ Err fault) ↔ IsRefused bytes fault
refuses bytes r fits room is fault = (λ h. scanned-Err bytes fits room fault (sym is ∙ h), λ h. is ∙ Err-scanned bytes fits room fault h)

few_by : (bytes : List ℕ) (r : Result (List (List ℕ)) CborFault) → ((links : List (List ℕ)) → r ≡ Ok links → IsItem bytes links) → IfOk r (λ links. length links ≤ length bytes)
few_by bytes (Ok links) h = (Items-few (h links refl)).1
few_by bytes (Err e) h = tt

pub few : (bytes : List ℕ) (r : Result (List (List ℕ)) CborFault) → IsBytes bytes → length bytes < 2 ^ 63 → r ≡ scanned bytes → IfOk r (λ links. length links ≤ length bytes)
few bytes r fits room is = few_by bytes r (λ links h. scanned-Ok bytes fits room links (sym is ∙ h))
