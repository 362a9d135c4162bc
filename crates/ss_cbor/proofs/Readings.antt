-- Laws of items.
use Rattle.std.proofs.Common.{◌≡◌, ◌⊎◌, inl, inr, ℕ, zero, suc, ◌+◌, ◌^◌, ◌<◌, List, [], ◌∷◌, ◌++◌, length, All, Result, Ok, Err, refl, sym, ap, subst, ◌∙◌, arith, length-append}
use Rattle.std.specs.List.{flat_map}
use Rattle.std.proofs.lemmas.Bool.{cases_lt}
use Rattle.std.proofs.lemmas.List.{get_or_past, append-nil, append_assoc}
use Rattle.std.proofs.lemmas.List.Elements.{All-get_or}
use Rattle.std.proofs.lemmas.List.Concat.{flat_map-cons}
use Rattle.ss_cid.proofs.Chains.{Ok-same}
use Rattle.ss_cbor.specs.Item.{Part, items_in, links_of, IsPart, Items, IsItem, none, AreParts, Closes}
use Rattle.ss_cbor.specs.Fault.{walk, item_at, IsRefused, scanned}
use Rattle.ss_cbor.specs.declared.fault.CborFault.{CborFault}
use Rattle.ss_cbor.proofs.Numbers.{IsBytes}
use Rattle.ss_cbor.proofs.Fronts.{item_again}
use Rattle.ss_cbor.proofs.Rows.{Items-cons}
use Rattle.ss_cbor.proofs.Scanned.{scanned-Ok, Ok-scanned, scanned-Err, Err-scanned}
use Rattle.ss_cbor.proofs.Walk.{walk_again, Err-same}

pub one_reading : (a b x y : List ℕ) (l m : List (List ℕ)) → length a < 2 ^ 63 → length b < 2 ^ 63 →
    IsItem a l → IsItem b m → a ++ x ≡ b ++ y → (a ≡ b) × (l ≡ m)
one_reading a b x y l m p q h i same =
    let end = length (b ++ y) in
    let first : item_at end (b ++ y) ≡ Ok (a, x) = ap (item_at end) (sym same) ∙ item_again end a x l p h in
    let second : item_at end (b ++ y) ≡ Ok (b, y) = item_again end b y m q i in
    let items : ◌≡◌ {A = List ℕ × List ℕ} (a, x) (b, y) = Ok-same (sym first ∙ second) in
    let long : length (b ++ y) ≡ length a + length x = ap length (sym same) ∙ length-append a x in
    let lengths : length (b ++ y) ≡ length b + length y = length-append b y in
    let left : walk end 1 end (b ++ y) ≡ Ok (l, x) = ap (walk end 1 end) (sym same) ∙ walk_again end 1 end a x l (omega arith) p h in
    let right : walk end 1 end (b ++ y) ≡ Ok (m, y) = walk_again end 1 end b y m (omega arith) q i in
    let links : ◌≡◌ {A = List (List ℕ) × List ℕ} (l, x) (m, y) = Ok-same (sym left ∙ right) in
    (ap (λ (p : List ℕ × List ℕ). p.0) items, ap (λ (p : List (List ℕ) × List ℕ). p.0) links)

small : (bytes : List ℕ) → All (λ b. b < 256) bytes → IsBytes bytes
small bytes h i =
    elim (cases_lt i (length bytes)) [
      | inl lt ↦ All-get_or (λ b. b < 256) bytes i 0 lt h
      | inr le ↦ rw (get_or_past bytes i 0 le) (omega arith)
    ]

either_by : (bytes : List ℕ) → IsBytes bytes → length bytes < 2 ^ 63 → (r : Result (List (List ℕ)) CborFault) → scanned bytes ≡ r →
    ((links : List (List ℕ)) × IsItem bytes links) ⊎ ((fault : CborFault) × IsRefused bytes fault)
either_by bytes fits room (Ok links) h = inl (links, scanned-Ok bytes fits room links h)
either_by bytes fits room (Err fault) h = inr (fault, scanned-Err bytes fits room fault h)

pub either : (bytes : List ℕ) → All (λ b. b < 256) bytes → length bytes < 2 ^ 63 →
    ((links : List (List ℕ)) × IsItem bytes links) ⊎ ((fault : CborFault) × IsRefused bytes fault)
either bytes fits room = either_by bytes (small bytes fits) room (scanned bytes) refl

pub one_fault : (bytes : List ℕ) (e f : CborFault) → All (λ b. b < 256) bytes → length bytes < 2 ^ 63 → IsRefused bytes e → IsRefused bytes f → e ≡ f
one_fault bytes e f fits room h i =
    Err-same (sym (Err-scanned bytes (small bytes fits) room e h) ∙ Err-scanned bytes (small bytes fits) room f i)

pub no_fault : (bytes : List ℕ) (links : List (List ℕ)) (fault : CborFault) → All (λ b. b < 256) bytes → length bytes < 2 ^ 63 →
    IsItem bytes links → IsRefused bytes fault → ⊥
no_fault bytes links fault fits room h i =
    let p = Ok-scanned bytes (small bytes fits) room links h in
    let q = Err-scanned bytes (small bytes fits) room fault i in
    cc (p, q)

-- ---- parts that close

pub closed_items : (due : ℕ) (bytes : List ℕ) (parts : List Part) → AreParts bytes parts → Closes due parts → Items due bytes (flat_map links_of parts)
closed_items zero bytes [] h c = subst (λ (b : List ℕ). Items zero b []) (sym h) none
closed_items zero bytes (part ∷ parts) h c = absurd c
closed_items (suc due) bytes [] h c = absurd c
closed_items (suc due) bytes (part ∷ parts) (front, rest, is, others, split) c =
    subst (λ (b : List ℕ). Items (suc due) b (flat_map links_of (part ∷ parts))) (sym split)
    (subst (λ (l : List (List ℕ)). Items (suc due) (front ++ rest) l) (sym (flat_map-cons links_of part parts))
    (Items-cons part due front rest (flat_map links_of parts) is (closed_items (items_in part + due) rest parts others c)))

-- one part more
pub AreParts-append : (bytes front : List ℕ) (parts : List Part) (part : Part) → AreParts bytes parts → IsPart front part → AreParts (bytes ++ front) (parts ++ part ∷ [])
AreParts-append bytes front [] part h is = (front, [], is, refl, ap (λ (l : List ℕ). l ++ front) h ∙ sym (append-nil front))
AreParts-append bytes front (p ∷ ps) part (first, rest, first_is, others, split) is =
    (first, rest ++ front, first_is, AreParts-append rest front ps part others is, ap (λ (l : List ℕ). l ++ front) split ∙ append_assoc first rest front)
