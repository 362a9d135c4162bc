-- A walk has what look-ups find.
use Rattle.std.proofs.Common.{◌≡◌, ◌↔◌, ◌⊎◌, inl, inr, ℕ, zero, suc, ◌+◌, ◌-◌, ◌*◌, ◌/◌, ◌%◌, ◌^◌, ◌<◌, ◌≤◌, Bool, true, false, cond, List, [], ◌∷◌, ◌++◌, map, length, Contains, slice_get, Option, Some, None, Result, Ok, Err, refl, sym, ap, ◌∙◌, subst, arith}
use Rattle.std.specs.List.{zip}
use Rattle.std.proofs.lemmas.Nat.{pow-add, pow_pos, mod-mul-add, div-mul-add, mod_below, div-add-mod'}
use Rattle.std.proofs.Math.Nat.{mul_assoc, mul-le-mul_right, div-lt_iff_lt-mul}
use Rattle.std.proofs.lemmas.Option.{none-some}
use Rattle.std.proofs.lemmas.Bool.{cases_lt}
use Rattle.std.proofs.lemmas.List.{append-nil}
use Rattle.ss_cid.specs.Maps.{Kept}
use Rattle.ss_node.specs.Bits.{is_set, ones_below, at_slot}
use Rattle.ss_node.specs.Blocks.{Held, Names, node}
use Rattle.ss_node.specs.declared.fault.NodeFault.{NodeFault}
use Rattle.ss_node.proofs.Naming.{names-one}
use Rattle.ss_node.proofs.Members.{In, here, there, in-left, in-right, in-either, in-map, of-map, in-contains, contains-in, Ok-same}
use Rattle.ss_amt.specs.Node.{Node, node_from, node_in, root_in, slot_of}
use Rattle.ss_amt.specs.Paths.{AmtGet, Finds, leaf, vacant, no_child, child_finds, no_root, past, within}
use Rattle.ss_amt.specs.Walks.{Pair, before, taken_below, slotted, child_at, children_of, value_at, values_of, Walks, AmtValues, done, stuck, opened, no_root as no_tree, root_walks}
use Rattle.ss_amt.specs.declared.shape.Shape.{Shape}
use Rattle.ss_amt.specs.declared.listing.Pending.{Pending}
use Rattle.ss_amt.proofs.Taken.{taken-length, zip-none}
use Rattle.ss_amt.proofs.Nodes.{node-flat, node-tall, root-node}

-- ---- the entries of a node beside their slots

-- what stands at a place of a list, as a list
abbrev at_end : {X : Type 0} → ℕ → Option X → List (ℕ × X)
at_end s (Some x) = (s, x) ∷ []
at_end s None = []

zip-snoc : {X : Type 0} (slots : List ℕ) (s : ℕ) (xs : List X) → zip (slots ++ s ∷ []) xs ≡ zip slots xs ++ at_end s (slice_get xs (length slots))
zip-snoc [] s [] = refl
zip-snoc [] s (x ∷ xs) = refl
zip-snoc (t ∷ slots) s [] = refl
zip-snoc (t ∷ slots) s (x ∷ xs) = ap (λ l. (t, x) ∷ l) (zip-snoc slots s xs)

of-end : {X : Type 0} (s t : ℕ) (x : X) (o : Option X) → In (s, x) (at_end t o) → (s ≡ t) × (o ≡ Some x)
of-end s t x None m = elim m [ ]
of-end s t x (Some y) here = (refl, refl)
of-end s t x (Some y) (there m) = elim m [ ]

to-end : {X : Type 0} (s : ℕ) (x : X) (o : Option X) → o ≡ Some x → In (s, x) (at_end s o)
to-end {X} s x o e = subst (λ (p : Option X). In (s, x) (at_end s p)) (sym e) here

slot-set : {X : Type 0} (bits : List ℕ) (xs : List X) (n : ℕ) → is_set bits n ≡ true → at_slot bits xs n ≡ slice_get xs (ones_below bits n)
slot-set bits xs n h = rw h refl

slot-clear : {X : Type 0} (bits : List ℕ) (xs : List X) (n : ℕ) → is_set bits n ≡ false → at_slot bits xs n ≡ None
slot-clear bits xs n h = rw h refl

-- an entry stands beside a slot exactly where the slot has it
module _ {X : Type 0} (bits : List ℕ) (xs : List X) (n s : ℕ) (x : X) where
  of-last : is_set bits n ≡ true → In (s, x) (at_end n (slice_get xs (length (taken_below bits n)))) → (s < suc n) × (at_slot bits xs s ≡ Some x)
  of-last h m =
      let e = of-end s n x (slice_get xs (length (taken_below bits n))) m in
      (omega (arith, e.0), ap (at_slot bits xs) e.0 ∙ slot-set bits xs n h ∙ ap (slice_get xs) (sym (taken-length bits n)) ∙ e.1)

  of-step : (b : Bool) → is_set bits n ≡ b → (In (s, x) (zip (taken_below bits n) xs) → (s < n) × (at_slot bits xs s ≡ Some x)) →
      In (s, x) (zip (taken_below bits n ++ cond b (n ∷ []) []) xs) → (s < suc n) × (at_slot bits xs s ≡ Some x)
  of-step true h ih m =
      elim (in-either (zip (taken_below bits n) xs) _ (subst (In (s, x)) (zip-snoc (taken_below bits n) n xs) m)) [
        | inl l ↦ let e = ih l in (omega (arith, e.0), e.1)
        | inr r ↦ of-last h r
      ]
  of-step false h ih m = let e = ih (subst (λ l. In (s, x) (zip l xs)) (append-nil (taken_below bits n)) m) in (omega (arith, e.0), e.1)

  to-step : (b : Bool) → is_set bits n ≡ b → (s < n → In (s, x) (zip (taken_below bits n) xs)) → s < suc n → at_slot bits xs s ≡ Some x → In (s, x) (zip (taken_below bits n ++ cond b (n ∷ []) []) xs)
  to-step true h ih lt e =
      subst (In (s, x)) (sym (zip-snoc (taken_below bits n) n xs)) (elim (cases_lt s n) [
        | inl below ↦ in-left _ (ih below)
        | inr from ↦
            let same : s ≡ n = omega arith in
            let got : slice_get xs (length (taken_below bits n)) ≡ Some x = ap (slice_get xs) (taken-length bits n) ∙ sym (slot-set bits xs n h) ∙ ap (at_slot bits xs) (sym same) ∙ e in
            in-right (zip (taken_below bits n) xs) (subst (λ k. In (k, x) (at_end n (slice_get xs (length (taken_below bits n))))) (sym same) (to-end n x _ got))
      ])
  to-step false h ih lt e =
      subst (λ l. In (s, x) (zip l xs)) (sym (append-nil (taken_below bits n))) (elim (cases_lt s n) [
        | inl below ↦ ih below
        | inr from ↦
            let same : s ≡ n = omega arith in
            absurd (none-some x (sym (slot-clear bits xs n h) ∙ ap (at_slot bits xs) (sym same) ∙ e))
      ])

of-zip : {X : Type 0} (bits : List ℕ) (xs : List X) (n s : ℕ) (x : X) → In (s, x) (zip (taken_below bits n) xs) → (s < n) × (at_slot bits xs s ≡ Some x)
unfolding taken_below
of-zip bits xs zero s x m = elim m [ ]
of-zip bits xs (suc n) s x m = of-step bits xs n s x (is_set bits n) refl (of-zip bits xs n s x) m

to-zip : {X : Type 0} (bits : List ℕ) (xs : List X) (n s : ℕ) (x : X) → s < n → at_slot bits xs s ≡ Some x → In (s, x) (zip (taken_below bits n) xs)
unfolding taken_below
to-zip bits xs zero s x lt e = absurd (omega arith)
to-zip bits xs (suc n) s x lt e = to-step bits xs n s x (is_set bits n) refl (λ below. to-zip bits xs n s x below e) lt e

-- ---- the slot of an index

-- an index that is so far into the slots of a node whose first index is a multiple of the span of the slots
slot-is : (width height k s r : ℕ) → s < 2 ^ width → r < 2 ^ (width * height) → slot_of width height ((k * 2 ^ width + s) * 2 ^ (width * height) + r) ≡ s
slot-is width height k s r lt low =
    ap (λ n. n % 2 ^ width) (div-mul-add (k * 2 ^ width + s) (2 ^ (width * height)) r low) ∙ mod-mul-add k (2 ^ width) s lt

-- the first index of a node is a multiple of how many it has
pub record IsAligned (width height first : ℕ) : Type 0 where
  pub times : ℕ
  pub is : first ≡ times * 2 ^ (width * (height + 1))

span : (width height : ℕ) → 2 ^ (width * (height + 1)) ≡ 2 ^ width * 2 ^ (width * height)
span width height = let e : width * (height + 1) ≡ width + width * height = omega arith in ap (λ n. 2 ^ n) e ∙ pow-add 2 width (width * height)

-- an index of a node, by its slot and what is left
pub record IsAt (width height first index s r : ℕ) : Type 0 where
  pub low : s < 2 ^ width
  pub rest : r < 2 ^ (width * height)
  pub is : index ≡ first + s * 2 ^ (width * height) + r
  pub slot : slot_of width height index ≡ s

at-slot : (width height first s r : ℕ) → IsAligned width height first → s < 2 ^ width → r < 2 ^ (width * height) → IsAt width height first (first + s * 2 ^ (width * height) + r) s r
at-slot width height first s r a lt low =
    let p = 2 ^ (width * height) in
    let whole : first ≡ (a.times * 2 ^ width) * p = a.is ∙ ap (λ n. a.times * n) (span width height) ∙ sym (mul_assoc a.times (2 ^ width) p) in
    let more : (a.times * 2 ^ width + s) * p ≡ (a.times * 2 ^ width) * p + s * p = omega arith in
    let split : first + s * p + r ≡ (a.times * 2 ^ width + s) * p + r = omega (arith, whole, more) in
    record { low = lt; rest = low; is = refl; slot = ap (slot_of width height) split ∙ slot-is width height a.times s r lt low }

-- each index of a node has a slot
place : (width height first index : ℕ) → IsAligned width height first → first ≤ index → index < first + 2 ^ (width * (height + 1)) → (s : ℕ) × (r : ℕ) × IsAt width height first index s r
place width height first index a ge lt =
    let p = 2 ^ (width * height) in
    let d = index - first in
    let some : 0 < p = pow_pos (width * height) in
    let within_span : d < 2 ^ width * p = omega (arith, span width height, lt, ge) in
    let s : ℕ = d / p in
    let r : ℕ = d % p in
    let low : d / p < 2 ^ width = (div-lt_iff_lt-mul some).1 within_span in
    let rest : d % p < p = mod_below d p some in
    let is : first + d / p * p + d % p ≡ index = omega (arith, div-add-mod' d p, ge) in
    let at = at-slot width height first (d / p) (d % p) a low rest in
    (d / p, d % p, record { low = low; rest = rest; is = sym is; slot = subst (λ i. slot_of width height i ≡ d / p) is at.slot })

-- ---- what look-ups find in a node, and what a walk lists of it

-- the node of a CID has this value at the index
pub record Has (held : Held) (width : ℕ) (p : Pending) (index : ℕ) (v : List ℕ) : Type 0 where
  pub node_is : Node
  pub names : Names held (node_in width p.height) p.cid (Ok node_is)
  pub from : p.first ≤ index
  pub until : index < p.first + 2 ^ (width * (p.height + 1))
  pub finds : Finds held width index p.height node_is (Ok (Some v))

-- one of these has it
pub record OneHas (held : Held) (width : ℕ) (pending : List Pending) (index : ℕ) (v : List ℕ) : Type 0 where
  pub which : Pending
  pub member : In which pending
  pub has : Has held width which index v

-- at height 0
leaf-is : {held : Held} {width index : ℕ} {n : Node} (v : List ℕ) (answer : Result (Option (List ℕ)) NodeFault) → Finds held width index 0 n answer → answer ≡ Ok (Some v) → at_slot n.bits n.values (slot_of width 0 index) ≡ Some v
leaf-is v answer leaf e = Ok-same _ _ e

-- above it
pub record ChildFinds (held : Held) (width index height : ℕ) (n : Node) (v : List ℕ) : Type 0 where
  pub child : List ℕ
  pub next : Node
  pub leads : at_slot n.bits n.links (slot_of width (suc height) index) ≡ Some child
  pub names : Names held (node_in width height) child (Ok next)
  pub finds : Finds held width index height next (Ok (Some v))

child-is : {held : Held} {n : Node} (width index height : ℕ) (v : List ℕ) (answer : Result (Option (List ℕ)) NodeFault) → Finds held width index (suc height) n answer → answer ≡ Ok (Some v) → ChildFinds held width index height n v
child-is width index height v answer (vacant e) f = absurd (none-some v (Ok-same _ _ f))
child-is width index height v answer (no_child c x e h) f = absurd (cc)
child-is {held = held} width index height v answer (child_finds c next e h finds) f = record { child = c; next = next; leads = e; names = h; finds = subst (Finds held width index height next) f finds }

-- a node has the value at the index
pub record InNode (held : Held) (width height first index : ℕ) (n : Node) (v : List ℕ) : Type 0 where
  pub from : first ≤ index
  pub until : index < first + 2 ^ (width * (height + 1))
  pub finds : Finds held width index height n (Ok (Some v))

named-block : {held : Held} {read : List ℕ → Option Node} {cid : List ℕ} {n : Node} → Names held read cid (Ok n) → (block : List ℕ) × (read block ≡ Some n)
named-block (node block n c p r) = (block, r)

-- what is not listed of a node
abbrev Flat : ℕ → Node → Type 0
Flat height n = (height ≡ 0 → n.links ≡ []) × ((lower : ℕ) → height ≡ suc lower → n.values ≡ [])

flat-by : (width height end : ℕ) (bytes : List ℕ) (n : Node) → node_from width height end bytes ≡ Some n → Flat height n
flat-by width height end bytes n h = (
  λ e. node-flat width end bytes n (subst (λ k. node_from width k end bytes ≡ Some n) e h),
  λ lower e. node-tall width lower end bytes n (subst (λ k. node_from width k end bytes ≡ Some n) e h),
)

none-in-map : {X Y : Type 0} (f : ℕ × X → Y) {y : Y} (slots : List ℕ) (xs : List X) → xs ≡ [] → In y (map f (zip slots xs)) → ⊥
none-in-map {X} f {y} slots xs e m = let none = subst (In y) (ap (λ l. map f (zip slots l)) e ∙ ap (map f) (zip-none {X = X} slots)) m in elim none [ ]

module _ (held : Held) (width first index : ℕ) (n : Node) (v : List ℕ) where
  unit : 2 ^ (width * 0) ≡ 1
  unit = let e : width * 0 ≡ 0 = omega arith in ap (λ k. 2 ^ k) e

  full : 2 ^ (width * (0 + 1)) ≡ 2 ^ width
  full = let e : width * (0 + 1) ≡ width = omega arith in ap (λ k. 2 ^ k) e

  pair-same : (a b : ℕ) (x y : List ℕ) → ◌≡◌ {A = Pair} (a, x) (b, y) → (a ≡ b) × (x ≡ y)
  pair-same a b x y e = (ap (λ (p : Pair). p.0) e, ap (λ (p : Pair). p.1) e)

  leaf-slot : (s : ℕ) → IsAligned width 0 first → s < 2 ^ width → slot_of width 0 (first + s) ≡ s
  leaf-slot s a lt =
      let at = at-slot width 0 first s 0 a lt (omega (arith, unit)) in
      let one : s * 2 ^ (width * 0) ≡ s * 1 = ap (λ k. s * k) unit in
      let whole : first + s * 2 ^ (width * 0) + 0 ≡ first + s = omega (arith, one) in
      subst (λ i. slot_of width 0 i ≡ s) whole at.slot

  leaf-at : (s : ℕ) (x : List ℕ) → IsAligned width 0 first → s < 2 ^ width → at_slot n.bits n.values s ≡ Some x → index ≡ first + s → v ≡ x → InNode held width 0 first index n v
  leaf-at s x a lt e is same =
      let slot : slot_of width 0 index ≡ s = ap (slot_of width 0) is ∙ leaf-slot s a lt in
      let got : at_slot n.bits n.values (slot_of width 0 index) ≡ Some v = ap (at_slot n.bits n.values) slot ∙ e ∙ ap Some (sym same) in
      record { from = omega (arith, is); until = omega (arith, is, lt, full); finds = subst (λ o. Finds held width index 0 n (Ok o)) got leaf }

  value-in : IsAligned width 0 first → In (index, v) (values_of width first n) → InNode held width 0 first index n v
  value-in a m =
      let entry = of-map (value_at first) (slotted width n.bits n.values) m in
      let is = pair-same index (first + entry.0.0) v entry.0.1 entry.2 in
      let z = of-zip n.bits n.values (2 ^ width) entry.0.0 entry.0.1 entry.1 in
      leaf-at entry.0.0 entry.0.1 a z.0 z.1 is.0 is.1

  in-value : IsAligned width 0 first → InNode held width 0 first index n v → In (index, v) (values_of width first n)
  in-value a h =
      let at = place width 0 first index a h.from h.until in
      let none : at.1 ≡ 0 = omega (arith, at.2.rest, unit) in
      let one : at.0 * 2 ^ (width * 0) ≡ at.0 * 1 = ap (λ k. at.0 * k) unit in
      let is : index ≡ first + at.0 = omega (arith, at.2.is, none, one) in
      let got : at_slot n.bits n.values at.0 ≡ Some v = ap (at_slot n.bits n.values) (sym at.2.slot) ∙ leaf-is v (Ok (Some v)) h.finds refl in
      subst (λ i. In (i, v) (values_of width first n)) (sym is) (in-map (value_at first) (to-zip n.bits n.values (2 ^ width) at.0 v at.2.low got))

  child-in : (height : ℕ) → IsAligned width (suc height) first → OneHas held width (children_of width (suc height) first n) index v → InNode held width (suc height) first index n v
  child-in height a one =
      let entry = of-map (child_at width (suc height) first) (slotted width n.bits n.links) one.member in
      let z = of-zip n.bits n.links (2 ^ width) entry.0.0 entry.0.1 entry.1 in
      child-has height entry.0.0 entry.0.1 a z.0 z.1 (subst (λ p. Has held width p index v) entry.2 one.has)
    where
      child-has : (height s : ℕ) (c : List ℕ) → IsAligned width (suc height) first → s < 2 ^ width → at_slot n.bits n.links s ≡ Some c → Has held width (child_at width (suc height) first (s, c)) index v → InNode held width (suc height) first index n v
      child-has height s c a lt e has =
          let lower : suc height - 1 ≡ height = omega arith in
          let p = 2 ^ (width * suc height) in
          let start : ℕ = first + s * 2 ^ (width * suc height) in
          let step : 2 ^ (width * ((suc height - 1) + 1)) ≡ 2 ^ (width * suc height) = ap (λ k. 2 ^ (width * k)) (let f : (suc height - 1) + 1 ≡ suc height = omega arith in f) in
          let r : ℕ = index - (first + s * 2 ^ (width * suc height)) in
          let rest : index - (first + s * 2 ^ (width * suc height)) < 2 ^ (width * suc height) = omega (arith, has.until, step, has.from) in
          let at = at-slot width (suc height) first s (index - (first + s * 2 ^ (width * suc height))) a lt rest in
          let is : first + s * 2 ^ (width * suc height) + (index - (first + s * 2 ^ (width * suc height))) ≡ index = omega (arith, has.from) in
          let slot : slot_of width (suc height) index ≡ s = subst (λ i. slot_of width (suc height) i ≡ s) is at.slot in
          let less : (s + 1) * 2 ^ (width * suc height) ≤ 2 ^ width * 2 ^ (width * suc height) = mul-le-mul_right (2 ^ (width * suc height)) (omega arith) in
          let more : (s + 1) * 2 ^ (width * suc height) ≡ s * 2 ^ (width * suc height) + 2 ^ (width * suc height) = omega arith in
          record {
            from = omega (arith, has.from);
            until = omega (arith, has.until, step, span width (suc height), less, more);
            finds = child_finds c has.node_is (ap (at_slot n.bits n.links) slot ∙ e) (subst (λ k. Names held (node_in width k) c (Ok has.node_is)) lower has.names) (subst (λ k. Finds held width index k has.node_is (Ok (Some v))) lower has.finds);
          }

  in-child : (height : ℕ) → IsAligned width (suc height) first → InNode held width (suc height) first index n v → OneHas held width (children_of width (suc height) first n) index v
  in-child height a h =
      let at = place width (suc height) first index a h.from h.until in
      let c = child-is width index height v (Ok (Some v)) h.finds refl in
      let got : at_slot n.bits n.links at.0 ≡ Some c.child = ap (at_slot n.bits n.links) (sym at.2.slot) ∙ c.leads in
      let lower : height ≡ suc height - 1 = omega arith in
      let step : 2 ^ (width * ((suc height - 1) + 1)) ≡ 2 ^ (width * suc height) = ap (λ k. 2 ^ (width * k)) (let f : (suc height - 1) + 1 ≡ suc height = omega arith in f) in
      record {
        which = child_at width (suc height) first (at.0, c.child);
        member = in-map (child_at width (suc height) first) (to-zip n.bits n.links (2 ^ width) at.0 c.child at.2.low got);
        has = record {
          node_is = c.next;
          names = subst (λ k. Names held (node_in width k) c.child (Ok c.next)) lower c.names;
          from = omega (arith, at.2.is);
          until = omega (arith, at.2.is, at.2.rest, step);
          finds = subst (λ k. Finds held width index k c.next (Ok (Some v))) lower c.finds;
        };
      }

-- ---- a node at any height

module _ (held : Held) (width first index : ℕ) (n : Node) (v : List ℕ) where
  pub listed-in : (height : ℕ) → IsAligned width height first → Flat height n → In (index, v) (values_of width first n) ⊎ OneHas held width (children_of width height first n) index v → InNode held width height first index n v
  listed-in zero a flat (inl m) = value-in held width first index n v a m
  listed-in zero a flat (inr one) = absurd (none-in-map (child_at width 0 first) (taken_below n.bits (2 ^ width)) n.links (flat.0 refl) one.member)
  listed-in (suc height) a flat (inl m) = absurd (none-in-map (value_at first) (taken_below n.bits (2 ^ width)) n.values (flat.1 height refl) m)
  listed-in (suc height) a flat (inr one) = child-in held width first index n v height a one

  pub in-listed : (height : ℕ) → IsAligned width height first → InNode held width height first index n v → In (index, v) (values_of width first n) ⊎ OneHas held width (children_of width height first n) index v
  in-listed zero a h = inl (in-value held width first index n v a h)
  in-listed (suc height) a h = inr (in-child held width first index n v height a h)

child-aligned : (width height first : ℕ) (entry : ℕ × List ℕ) → IsAligned width (suc height) first → IsAligned width (suc height - 1) (first + entry.0 * 2 ^ (width * suc height))
child-aligned width height first entry a =
    let p = 2 ^ (width * suc height) in
    let step : (suc height - 1) + 1 ≡ suc height = omega arith in
    let whole : first ≡ (a.times * 2 ^ width) * p = a.is ∙ ap (λ k. a.times * k) (span width (suc height)) ∙ sym (mul_assoc a.times (2 ^ width) p) in
    let more : (a.times * 2 ^ width + entry.0) * p ≡ (a.times * 2 ^ width) * p + entry.0 * p = omega arith in
    let is : first + entry.0 * p ≡ (a.times * 2 ^ width + entry.0) * p = omega (arith, whole, more) in
    record { times = a.times * 2 ^ width + entry.0; is = is ∙ ap (λ k. (a.times * 2 ^ width + entry.0) * 2 ^ (width * k)) (sym step) }

-- all that is pending is aligned
abbrev AllAligned : ℕ → List Pending → Type 0
AllAligned width pending = (p : Pending) → In p pending → IsAligned width p.height p.first

children-aligned : (width height first : ℕ) (n : Node) → IsAligned width height first → (height ≡ 0 → n.links ≡ []) → AllAligned width (children_of width height first n)
children-aligned width zero first n a flat p m = absurd (none-in-map (child_at width 0 first) (taken_below n.bits (2 ^ width)) n.links (flat refl) m)
children-aligned width (suc height) first n a flat p m =
    let entry = of-map (child_at width (suc height) first) (slotted width n.bits n.links) m in
    subst (λ (q : Pending). IsAligned width q.height q.first) (sym entry.2) (child-aligned width height first entry.0 a)

both-aligned : (width : ℕ) (a b : List Pending) → AllAligned width a → AllAligned width b → AllAligned width (a ++ b)
both-aligned width a b h i p m = elim (in-either a b m) [ inl l ↦ h p l | inr r ↦ i p r ]

-- ---- a walk has what one of the pending nodes has, and no more

abbrev Agrees : Held → ℕ → List Pending → List Pair → Type 0
Agrees held width pending values = (index : ℕ) (v : List ℕ) → (In (index, v) values → OneHas held width pending index v) × (OneHas held width pending index v → In (index, v) values)

nothing-agrees : (held : Held) (width : ℕ) → Agrees held width [] []
nothing-agrees held width index v = (λ m. elim m [ ], λ one. none one.which one.member)
  where
    none : (p : Pending) → In p [] → In {X = Pair} (index, v) []
    none p m = elim m [ ]

module _ (held : Held) (kept : Kept) (exposed : held.told ≡ Some kept) (width : ℕ) (next : Pending) (others : List Pending) (n : Node) (names : Names held (node_in width next.height) next.cid (Ok n)) (a : IsAligned width next.height next.first) where
  flat : Flat next.height n
  flat = let b = named-block names in flat-by width next.height (length b.0) b.0 n b.1

  module _ (values : List Pair) (ih : Agrees held width (children_of width next.height next.first n ++ others) values) (index : ℕ) (v : List ℕ) where
    next-has : In (index, v) (values_of width next.first n) ⊎ OneHas held width (children_of width next.height next.first n) index v → OneHas held width (next ∷ others) index v
    next-has h =
        let found = listed-in held width next.first index n v next.height a flat h in
        record { which = next; member = here; has = record { node_is = n; names = names; from = found.from; until = found.until; finds = found.finds } }

    listed-has : In (index, v) (values_of width next.first n ++ values) → OneHas held width (next ∷ others) index v
    listed-has m = elim (in-either (values_of width next.first n) values m) [
      | inl l ↦ next-has (inl l)
      | inr r ↦
          let one = (ih index v).0 r in
          elim (in-either (children_of width next.height next.first n) others one.member) [
            | inl l ↦ next-has (inr (record { which = one.which; member = l; has = one.has }))
            | inr o ↦ record { which = one.which; member = there o; has = one.has }
          ]
    ]

    has-listed : (which : Pending) → In which (next ∷ others) → Has held width which index v → In (index, v) (values_of width next.first n ++ values)
    has-listed which here has =
        let same : has.node_is ≡ n = Ok-same has.node_is n (names-one held kept exposed (node_in width next.height) next.cid has.names names) in
        let found : InNode held width next.height next.first index n v = record { from = has.from; until = has.until; finds = subst (λ (m : Node). Finds held width index next.height m (Ok (Some v))) same has.finds } in
        elim (in-listed held width next.first index n v next.height a found) [
          | inl l ↦ in-left values l
          | inr one ↦ in-right (values_of width next.first n) ((ih index v).1 (record { which = one.which; member = in-left others one.member; has = one.has }))
        ]
    has-listed which (there m) has = in-right (values_of width next.first n) ((ih index v).1 (record { which = which; member = in-right (children_of width next.height next.first n) m; has = has }))

  node-agrees : (values : List Pair) → Agrees held width (children_of width next.height next.first n ++ others) values → Agrees held width (next ∷ others) (values_of width next.first n ++ values)
  node-agrees values ih index v = (listed-has values ih index v, λ one. has-listed values ih index v one.which one.member one.has)

  opened-agrees : (answer : Result (List Pair) NodeFault) → ((values : List Pair) → answer ≡ Ok values → Agrees held width (children_of width next.height next.first n ++ others) values) →
      (values : List Pair) → before (values_of width next.first n) answer ≡ Ok values → Agrees held width (next ∷ others) values
  opened-agrees (Ok rest) ih values e = subst (Agrees held width (next ∷ others)) (Ok-same _ values e) (node-agrees rest (ih rest refl))
  opened-agrees (Err why) ih values e = absurd (cc)

module _ (held : Held) (kept : Kept) (exposed : held.told ≡ Some kept) (width : ℕ) where
  pub walk-agrees : {pending : List Pending} {answer : Result (List Pair) NodeFault} → Walks held width pending answer → AllAligned width pending → (values : List Pair) → answer ≡ Ok values → Agrees held width pending values
  walk-agrees done all values e = subst (Agrees held width []) (Ok-same [] values e) (nothing-agrees held width)
  walk-agrees (stuck p x h) all values e = absurd (cc)
  walk-agrees (opened {others = others} next n answer names w) all values e =
      let a = all next here in
      let b = named-block names in
      let flat = flat-by width next.height (length b.0) b.0 n b.1 in
      let aligned = both-aligned width (children_of width next.height next.first n) others (children-aligned width next.height next.first n a flat.0) (λ p m. all p (there m)) in
      opened-agrees held kept exposed width next others n names a answer (λ rest f. walk-agrees w aligned rest f) values e

-- ---- the whole tree

module _ (held : Held) (kept : Kept) (exposed : held.told ≡ Some kept) (root : List ℕ) (index : ℕ) (v : List ℕ) where
  get-is : (shape : Shape) (n : Node) → Names held root_in root (Ok (shape, n)) → (answer : Result (Option (List ℕ)) NodeFault) → AmtGet held root index answer → answer ≡ Ok (Some v) →
      InNode held shape.width shape.height 0 index n v
  get-is shape n names answer (no_root x h) e = absurd (cc)
  get-is shape n names answer (past s m h le) e = absurd (none-some v (Ok-same _ _ e))
  get-is shape n names answer (within s m a h lt finds) e = from_same (s, m) (shape, n) (Ok-same (s, m) (shape, n) (names-one held kept exposed root_in root h names)) lt (subst (Finds held s.width index s.height m) e finds)
    where
      from_same : (x y : Shape × Node) → x ≡ y → index < 2 ^ (x.0.width * (x.0.height + 1)) → Finds held x.0.width index x.0.height x.1 (Ok (Some v)) → InNode held y.0.width y.0.height 0 index y.1 v
      from_same x y same lt finds = subst (λ (z : Shape × Node). InNode held z.0.width z.0.height 0 index z.1 v) same (record { from = omega arith; until = omega (arith, lt); finds = finds })

  is-get : (shape : Shape) (n : Node) → Names held root_in root (Ok (shape, n)) → InNode held shape.width shape.height 0 index n v → AmtGet held root index (Ok (Some v))
  is-get shape n names h = within shape n (Ok (Some v)) names (omega (arith, h.until)) h.finds

root-block : {held : Held} {root : List ℕ} {shape : Shape} {n : Node} → Names held root_in root (Ok (shape, n)) → (block : List ℕ) × (root_in block ≡ Some (shape, n))
root-block (node block n c p r) = (block, r)

module _ (held : Held) (kept : Kept) (exposed : held.told ≡ Some kept) (root : List ℕ) (shape : Shape) (n : Node) (names : Names held root_in root (Ok (shape, n))) where
  aligned : IsAligned shape.width shape.height 0
  aligned = record { times = 0; is = omega arith }

  flat-root : Flat shape.height n
  flat-root =
      let b = root-block names in
      let read = root-node b.0 shape n b.1 in
      flat-by shape.width shape.height (length b.0) read.0 n read.1

  all-aligned : AllAligned shape.width (children_of shape.width shape.height 0 n)
  all-aligned = children-aligned shape.width shape.height 0 n aligned flat-root.0

  tree-agrees : (answer : Result (List Pair) NodeFault) → Walks held shape.width (children_of shape.width shape.height 0 n) answer → (values : List Pair) → before (values_of shape.width 0 n) answer ≡ Ok values →
      (index : ℕ) (v : List ℕ) → (In (index, v) values → AmtGet held root index (Ok (Some v))) × (AmtGet held root index (Ok (Some v)) → In (index, v) values)
  tree-agrees (Err why) w values e index v = absurd (cc)
  tree-agrees (Ok rest) w values e index v =
      let all : values_of shape.width 0 n ++ rest ≡ values = Ok-same _ values e in
      let agree = walk-agrees held kept exposed shape.width w all-aligned rest refl index v in (
        λ m. is-get held kept exposed root index v shape n names (listed-in held shape.width 0 index n v shape.height aligned flat-root
            (elim (in-either (values_of shape.width 0 n) rest (subst (In (index, v)) (sym all) m)) [ inl l ↦ inl l | inr r ↦ inr (agree.0 r) ])),
        λ g. subst (In (index, v)) all (elim (in-listed held shape.width 0 index n v shape.height aligned (get-is held kept exposed root index v shape n names (Ok (Some v)) g refl)) [
          | inl l ↦ in-left rest l
          | inr one ↦ in-right (values_of shape.width 0 n) (agree.1 one)
        ]),
      )

pub values-agree : (held : Held) (kept : Kept) → held.told ≡ Some kept → (root : List ℕ) (answer : Result (List Pair) NodeFault) → AmtValues held root answer → (values : List Pair) → answer ≡ Ok values → (index : ℕ) (v : List ℕ) →
    Contains values (index, v) ↔ AmtGet held root index (Ok (Some v))
values-agree held kept exposed root answer (no_tree x h) values e index v = absurd (cc)
values-agree held kept exposed root answer (root_walks shape n a names w) values e index v =
    let agree = tree-agrees held kept exposed root shape n names a w values e index v in
    (λ c. agree.0 (in-contains values (index, v) c), λ g. contains-in values (index, v) (agree.1 g))
