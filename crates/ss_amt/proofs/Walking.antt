-- Steps of a walk.
use native.Mathlib.Numerals.{unary_clauses}
use Rattle.std.proofs.Common.{◌≡◌, ℕ, zero, suc, ◌+◌, ◌-◌, ◌*◌, ◌^◌, ◌<◌, ◌≤◌, Bool, true, false, cond, List, [], ◌∷◌, ◌++◌, map, reverse, length, Option, Some, Result, Ok, Err, refl, sym, ap, ◌∙◌, subst, arith, append_assoc}
use Rattle.std.proofs.lemmas.List.{append-nil, reverse-append, reverse-reverse}
use Rattle.ss_node.specs.Blocks.{Held, FindsBlock, Names, node, Answers}
use Rattle.ss_node.proofs.Naming.{names-not_found}
use Rattle.ss_node.specs.declared.fault.NodeFault.{NodeFault}
use Rattle.std.specs.List.{sum_by, All, zip}
use Rattle.std.proofs.Math.Nat.{mul-le-mul_right, pow-suc, one-le-pow, pow-le-pow_right}
use Rattle.std.proofs.lemmas.List.Sums.{sum_by-cons, sum_by-append}
use Rattle.std.proofs.lemmas.List.Sorted.{sum_by-IsPermutation, IsPermutation-reverse, All-permutation}
use Rattle.std.proofs.lemmas.Slice.Zip.{length-zip}
use Rattle.ss_node.specs.Bits.{is_set}
use Rattle.ss_node.proofs.Ones.{ones_below-le}
use Rattle.ss_amt.proofs.Taken.{taken-length, zip-none}
use Rattle.ss_amt.proofs.Nodes.{node-flat, root-node}
use Rattle.std.proofs.lemmas.List.Elements.{All-map, All-weaker, All-append, All-nil, All-cons, All-head, All-tail, All-same}
use Rattle.ss_amt.specs.Node.{Node, node_from, node_in, root_in, is_shape}
use Rattle.ss_amt.specs.Walks.{Pair, before, child_at, children_of, IsPending, slotted, taken_below, values_of, Walks, AmtValues, done, stuck, opened, no_root, root_walks, WalksNode, WalksRoot}
use Rattle.ss_amt.proofs.Widths.{Fits, shape-fits, fits-shape, fits-below, slot-room}
use Rattle.ss_amt.specs.declared.shape.Shape.{Shape}
use Rattle.ss_amt.specs.declared.listing.Pending.{Pending}

-- ---- a node that was not found

node-stuck : (held : Held) (width : ℕ) (next : Pending) (was now : List Pending) (values_was values_now : List Pair) (fault : NodeFault) →
    Answers {T = Node} (Names held (node_in width next.height) next.cid) (Err fault) → WalksNode held width next was now values_was values_now (Err fault)
node-stuck held width next was now v w (NodeFault.Missing c) h = h
node-stuck held width next was now v w (NodeFault.BadNode c) h = h
node-stuck held width next was now v w NodeFault.Fault h = tt
node-stuck held width next was now v w NodeFault.NoMemory h = tt

pub node-not_found : (held : Held) (width : ℕ) (next : Pending) (was now : List Pending) (values_was values_now : List Pair) (fault : NodeFault) →
    FindsBlock held next.cid (Err fault) → WalksNode held width next was now values_was values_now (Err fault)
node-not_found held width next was now v w fault h = node-stuck held width next was now v w fault (names-not_found held (node_in width next.height) next.cid fault h)

root-stuck : (held : Held) (root : List ℕ) (was now : List Pending) (values_was values_now : List Pair) (fault : NodeFault) →
    Answers {T = Shape × Node} (Names held root_in root) (Err fault) → WalksRoot held root was now values_was values_now (Err fault)
root-stuck held root was now v w (NodeFault.Missing c) h = h
root-stuck held root was now v w (NodeFault.BadNode c) h = h
root-stuck held root was now v w NodeFault.Fault h = tt
root-stuck held root was now v w NodeFault.NoMemory h = tt

pub root-not_found : (held : Held) (root : List ℕ) (was now : List Pending) (values_was values_now : List Pair) (fault : NodeFault) →
    FindsBlock held root (Err fault) → WalksRoot held root was now values_was values_now (Err fault)
root-not_found held root was now v w fault h = root-stuck held root was now v w fault (names-not_found held root_in root fault h)

-- ---- the walk so far

-- these and what a walk of the pending nodes gives, the last of them first, are the values of the tree
abbrev pub Walking : Held → List ℕ → ℕ → List Pending → List Pair → Type 0
Walking held root width pending values = (answer : Result (List Pair) NodeFault) → Walks held width (reverse pending) answer → AmtValues held root (before values answer)

before-before : (a b : List Pair) (answer : Result (List Pair) NodeFault) → before a (before b answer) ≡ before (a ++ b) answer
before-before a b (Ok others) = ap (λ (l : List Pair). Ok l) (sym (append_assoc a b others))
before-before a b (Err why) = refl

turned : (was children : List Pending) → reverse (was ++ reverse children) ≡ children ++ reverse was
turned was children = reverse-append was (reverse children) ∙ ap (λ l. l ++ reverse was) (reverse-reverse children)

pub walking-root : (held : Held) (root : List ℕ) (shape : Shape) (was pending : List Pending) (values_was values : List Pair) → was ≡ [] → values_was ≡ [] → WalksRoot held root was pending values_was values (Ok shape) →
    Walking held root shape.width pending values
walking-root held root shape was pending values_was values none nothing h answer walks =
    let children = children_of shape.width shape.height 0 h.0 in
    let there : reverse pending ≡ children = ap reverse h.2 ∙ turned was children ∙ ap (λ l. children ++ reverse l) none ∙ append-nil children in
    let all : values ≡ values_of shape.width 0 h.0 = h.3 ∙ ap (λ l. l ++ values_of shape.width 0 h.0) nothing in
    subst (λ v. AmtValues held root (before v answer)) (sym all) (root_walks shape h.0 answer h.1 (subst (λ l. Walks held shape.width l answer) there walks))

pub root-fault : (held : Held) (root : List ℕ) (was now : List Pending) (v w : List Pair) (fault : NodeFault) → WalksRoot held root was now v w (Err fault) → Answers (AmtValues held root) (Err fault)
root-fault held root was now v w (NodeFault.Missing c) h = no_root (NodeFault.Missing c) h
root-fault held root was now v w (NodeFault.BadNode c) h = no_root (NodeFault.BadNode c) h
root-fault held root was now v w NodeFault.Fault h = tt
root-fault held root was now v w NodeFault.NoMemory h = tt

module _ (held : Held) (root : List ℕ) (width : ℕ) (all others now : List Pending) (values values_now : List Pair) (next : Pending) (popped : all ≡ others ++ next ∷ []) (w : Walking held root width all values) where
  first : reverse all ≡ next ∷ reverse others
  first = ap reverse popped ∙ reverse-append others (next ∷ [])

  pub walking-node : {u : Unit {0}} → WalksNode held width next others now values values_now (Ok u) → Walking held root width now values_now
  walking-node h answer walks =
      let children = children_of width next.height next.first h.0 in
      let more = values_of width next.first h.0 in
      let there : reverse now ≡ children ++ reverse others = ap reverse h.2 ∙ turned others children in
      let here = opened next h.0 answer h.1 (subst (λ l. Walks held width l answer) there walks) in
      let all_values = w (before more answer) (subst (λ l. Walks held width l (before more answer)) (sym first) here) in
      subst (λ v. AmtValues held root (before v answer)) (sym h.3) (subst (AmtValues held root) (before-before values more answer) all_values)

  walking-stuck : (fault : NodeFault) → Names held (node_in width next.height) next.cid (Err fault) → AmtValues held root (Err fault)
  walking-stuck fault h = w (Err fault) (subst (λ l. Walks held width l (Err fault)) (sym first) (stuck next fault h))

  pub walking-fault : (fault : NodeFault) → WalksNode held width next others now values values_now (Err fault) → Answers (AmtValues held root) (Err fault)
  walking-fault (NodeFault.Missing c) h = walking-stuck (NodeFault.Missing c) h
  walking-fault (NodeFault.BadNode c) h = walking-stuck (NodeFault.BadNode c) h
  walking-fault NodeFault.Fault h = tt
  walking-fault NodeFault.NoMemory h = tt

pub walking-end : (held : Held) (root : List ℕ) (width : ℕ) (pending : List Pending) (values : List Pair) → pending ≡ [] → Walking held root width pending values → AmtValues held root (Ok values)
walking-end held root width pending values none w =
    subst (λ v. AmtValues held root (Ok v)) (append-nil values) (w (Ok []) (subst (λ l. Walks held width l (Ok [])) (sym (ap reverse none)) done))

-- ---- the pending nodes keep their bounds

child-pending : (width height first : ℕ) (entry : ℕ × List ℕ) → Fits width (suc height) → first + 2 ^ (width * (suc height + 1)) ≤ 2 ^ 63 → entry.0 < 2 ^ width → IsPending width (child_at width (suc height) first entry)
child-pending width height first entry fits room lt =
    let lower : suc height - 1 ≡ height = omega arith in
    let step : height + 1 ≡ suc height = omega arith in
    record {
      shape = ap (is_shape width) lower ∙ fits-shape width height (fits-below width (suc height) height fits (omega arith));
      room = rw (lower, step) (slot-room width (suc height) first entry.0 room lt);
    }

children-pending : (width height first : ℕ) (entries : List (ℕ × List ℕ)) → Fits width (suc height) → first + 2 ^ (width * (suc height + 1)) ≤ 2 ^ 63 → All (λ (e : ℕ × List ℕ). e.0 < 2 ^ width) entries →
    All (IsPending width) (map (child_at width (suc height) first) entries)
children-pending width height first entries fits room low =
    All-map (IsPending width) (child_at width (suc height) first) entries (All-weaker (λ (e : ℕ × List ℕ). e.0 < 2 ^ width) (λ e. IsPending width (child_at width (suc height) first e)) (λ e lt. child-pending width height first e fits room lt) entries low)

-- ---- and what is left to walk falls

-- more than all nodes below a node
abbrev pub weight_of : ℕ → Pending → ℕ
weight_of width next = (2 ^ width + 1) ^ next.height

sum-children : (width height first : ℕ) (entries : List (ℕ × List ℕ)) → sum_by (weight_of width) (map (child_at width height first) entries) ≡ length entries * (2 ^ width + 1) ^ (height - 1)
sum-children width height first [] = omega arith
sum-children width height first (e ∷ entries) =
    let one = sum_by-cons (weight_of width) (child_at width height first e) (map (child_at width height first) entries) in
    let others = sum-children width height first entries in
    let more : suc (length entries) * (2 ^ width + 1) ^ (height - 1) ≡ (2 ^ width + 1) ^ (height - 1) + length entries * (2 ^ width + 1) ^ (height - 1) = omega arith in
    one ∙ ap (λ n. (2 ^ width + 1) ^ (height - 1) + n) others ∙ sym more

few-slotted : {X : Type 0} (width : ℕ) (bits : List ℕ) (entries : List X) → length (slotted width bits entries) ≤ 2 ^ width
few-slotted width bits entries = omega (arith, length-zip (taken_below bits (2 ^ width)) entries, taken-length bits (2 ^ width), ones_below-le bits (2 ^ width))

low-zipped : {X : Type 0} (n : ℕ) (slots : List ℕ) (entries : List X) → All (λ (s : ℕ). s < n) slots → All (λ (e : ℕ × X). e.0 < n) (zip slots entries)
low-zipped {X} n [] entries h = All-nil (λ (e : ℕ × X). e.0 < n)
low-zipped {X} n (s ∷ slots) [] h = All-nil (λ (e : ℕ × X). e.0 < n)
low-zipped {X} n (s ∷ slots) (x ∷ entries) h =
    All-cons (λ (e : ℕ × X). e.0 < n) (s, x) (zip slots entries) (All-head (λ (s : ℕ). s < n) s slots h) (low-zipped n slots entries (All-tail (λ (s : ℕ). s < n) s slots h))

taken-low : (bits : List ℕ) (n : ℕ) → All (λ (s : ℕ). s < n) (taken_below bits n)
unfolding taken_below
taken-low bits zero = All-nil (λ (s : ℕ). s < 0)
taken-low bits (suc n) =
    All-append (λ (s : ℕ). s < suc n) (taken_below bits n) (cond (is_set bits n) (n ∷ []) []) (All-weaker (λ (s : ℕ). s < n) (λ (s : ℕ). s < suc n) (λ s lt. omega arith) (taken_below bits n) (taken-low bits n)) (last (is_set bits n))
  where
    last : (b : Bool) → All (λ (s : ℕ). s < suc n) (cond b (n ∷ []) [])
    last true = All-cons (λ (s : ℕ). s < suc n) n [] (omega arith) (All-nil (λ (s : ℕ). s < suc n))
    last false = All-nil (λ (s : ℕ). s < suc n)

-- ---- a node at height 0 has no children

named-block : {held : Held} {read : List ℕ → Option Node} {cid : List ℕ} {n : Node} → Names held read cid (Ok n) → (block : List ℕ) × (read block ≡ Some n)
named-block (node block n c p r) = (block, r)

no-links : (links : List (List ℕ)) → length links ≡ 0 → links ≡ []
no-links [] h = refl
no-links (link ∷ links) h = absurd (omega (arith, h))

flat-links : {held : Held} {cid : List ℕ} {n : Node} (width height : ℕ) → Names held (node_in width height) cid (Ok n) → height ≡ 0 → n.links ≡ []
flat-links {n = n} width height names e =
    let b = named-block names in
    node-flat width (length b.0) b.0 n (subst (λ k. node_in width k b.0 ≡ Some n) e b.1)

root-block : {held : Held} {root : List ℕ} {shape : Shape} {n : Node} → Names held root_in root (Ok (shape, n)) → (block : List ℕ) × (root_in block ≡ Some (shape, n))
root-block (node block n c p r) = (block, r)

flat-root : {held : Held} {root : List ℕ} {n : Node} (shape : Shape) → Names held root_in root (Ok (shape, n)) → shape.height ≡ 0 → n.links ≡ []
flat-root {n = n} shape names e =
    let b = root-block names in
    let read = root-node b.0 shape n b.1 in
    node-flat shape.width (length b.0) read.0 n (subst (λ k. node_from shape.width k (length b.0) read.0 ≡ Some n) e read.1)

no-children : (width height first : ℕ) (bits : List ℕ) (links : List (List ℕ)) → links ≡ [] → map (child_at width height first) (slotted width bits links) ≡ []
no-children width height first bits links none = ap (λ l. map (child_at width height first) (slotted width bits l)) none ∙ ap (map (child_at width height first)) (zip-none {X = List ℕ} (taken_below bits (2 ^ width)))

children-fit : (width height first : ℕ) (bits : List ℕ) (links : List (List ℕ)) → Fits width height → first + 2 ^ (width * (height + 1)) ≤ 2 ^ 63 → (height ≡ 0 → links ≡ []) →
    All (IsPending width) (map (child_at width height first) (slotted width bits links))
children-fit width zero first bits links fits room flat =
    All-same (IsPending width) _ [] (no-children width zero first bits links (flat refl)) (All-nil (IsPending width))
children-fit width (suc height) first bits links fits room flat =
    children-pending width height first (slotted width bits links) fits room (low-zipped (2 ^ width) (taken_below bits (2 ^ width)) links (taken-low bits (2 ^ width)))

children-lighter : (width height first : ℕ) (bits : List ℕ) (links : List (List ℕ)) → (height ≡ 0 → links ≡ []) →
    sum_by (weight_of width) (map (child_at width height first) (slotted width bits links)) < (2 ^ width + 1) ^ height
children-lighter width zero first bits links flat =
    let none = ap (sum_by (weight_of width)) (no-children width zero first bits links (flat refl)) in
    let zero_sum : sum_by (weight_of width) [] ≡ 0 = refl in
    let unit : (2 ^ width + 1) ^ 0 ≡ 1 = simp unary_clauses refl in
    omega (arith, none, zero_sum, unit)
children-lighter width (suc height) first bits links flat =
    let sum = sum-children width (suc height) first (slotted width bits links) in
    let lower : suc height - 1 ≡ height = omega arith in
    let base = 2 ^ width + 1 in
    let less : length (slotted width bits links) * base ^ height ≤ 2 ^ width * base ^ height = mul-le-mul_right (base ^ height) (few-slotted width bits links) in
    let power : base ^ suc height ≡ base ^ height * base = pow-suc base height in
    let parts : base ^ height * base ≡ 2 ^ width * base ^ height + base ^ height = omega arith in
    let some : 1 ≤ base ^ height = one-le-pow height base (omega arith) in
    let sum_is : sum_by (weight_of width) (map (child_at width (suc height) first) (slotted width bits links)) ≡ length (slotted width bits links) * base ^ height = sum ∙ ap (λ k. length (slotted width bits links) * base ^ k) lower in
    omega (arith, sum_is, less, power, parts, some)

turned-fit : (width : ℕ) (was children now : List Pending) → now ≡ was ++ reverse children → All (IsPending width) was → All (IsPending width) children → All (IsPending width) now
turned-fit width was children now is all more =
    All-same (IsPending width) now (was ++ reverse children) is (All-append (IsPending width) was (reverse children) all (All-permutation (IsPending width) children (reverse children) (IsPermutation-reverse children) more))

turned-sum : (width : ℕ) (was children now : List Pending) → now ≡ was ++ reverse children → sum_by (weight_of width) now ≡ sum_by (weight_of width) was + sum_by (weight_of width) children
turned-sum width was children now is =
    ap (sum_by (weight_of width)) is ∙ sum_by-append (weight_of width) was (reverse children)
    ∙ ap (λ k. sum_by (weight_of width) was + k) (sum_by-IsPermutation (weight_of width) children (reverse children) (IsPermutation-reverse children))

-- ---- a step keeps the bounds, and less is left

module _ (held : Held) (width : ℕ) (next : Pending) (all others now : List Pending) (values values_now : List Pair) (popped : all ≡ others ++ next ∷ []) (u : Unit {0}) (h : WalksNode held width next others now values values_now (Ok u)) where
  pub step-pending : IsPending width next → All (IsPending width) others → All (IsPending width) now
  step-pending p rest =
      turned-fit width others (children_of width next.height next.first h.0) now h.2 rest
      (children-fit width next.height next.first h.0.bits h.0.links (shape-fits width next.height p.shape) p.room (flat-links width next.height h.1))

  pub step-smaller : sum_by (weight_of width) now < sum_by (weight_of width) all
  step-smaller =
      let after = turned-sum width others (children_of width next.height next.first h.0) now h.2 in
      let lighter = children-lighter width next.height next.first h.0.bits h.0.links (flat-links width next.height h.1) in
      let before_it = ap (sum_by (weight_of width)) popped ∙ sum_by-append (weight_of width) others (next ∷ []) in
      let one = sum_by-cons (weight_of width) next [] in
      let zero_sum : sum_by (weight_of width) [] ≡ 0 = refl in
      omega (arith, after, lighter, before_it, one, zero_sum)

pub root-pending : (held : Held) (root : List ℕ) (shape : Shape) (was pending : List Pending) (v w : List Pair) → was ≡ [] → WalksRoot held root was pending v w (Ok shape) → is_shape shape.width shape.height ≡ true →
    All (IsPending shape.width) pending
root-pending held root shape was pending v w none h is =
    let fits = shape-fits shape.width shape.height is in
    let room : 0 + 2 ^ (shape.width * (shape.height + 1)) ≤ 2 ^ 63 = let p = pow-le-pow_right {n = 2} (omega arith) fits.bits in omega (arith, p) in
    turned-fit shape.width was (children_of shape.width shape.height 0 h.0) pending h.2 (All-same (IsPending shape.width) was [] none (All-nil (IsPending shape.width)))
    (children-fit shape.width shape.height 0 h.0.bits h.0.links fits room (flat-root shape h.1))
