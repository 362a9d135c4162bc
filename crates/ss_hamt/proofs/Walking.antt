-- Steps of a walk.
use Rattle.std.proofs.Common.{◌≡◌, ◌⊎◌, inl, inr, ℕ, suc, ◌+◌, ◌-◌, ◌*◌, ◌^◌, ◌<◌, ◌≤◌, Bool, true, false, ltb, lt-ltb, List, [], ◌∷◌, ◌++◌, map, reverse, length, Option, Some, Result, Ok, Err, refl, sym, ap, ◌∙◌, subst, arith, append_assoc, length-append}
use Rattle.std.specs.Prelude.{not, ◌||◌}
use Rattle.std.specs.List.{sum_by, All, flat_map, list_any}
use Rattle.std.proofs.Math.Nat.{mul-le-mul_right, pow-suc, one-le-pow}
use Rattle.std.proofs.lemmas.Bool.{ltb-true, cases_lt}
use Rattle.std.proofs.lemmas.List.{append-nil, reverse-append, reverse-reverse, length-reverse}
use Rattle.std.proofs.lemmas.List.Concat.{flat_map-cons}
use Rattle.std.proofs.lemmas.List.Sums.{sum_by-cons, sum_by-append}
use Rattle.std.proofs.lemmas.List.Sorted.{sum_by-IsPermutation, IsPermutation-reverse, All-permutation}
use Rattle.std.proofs.lemmas.List.Elements.{All-map, All-weaker, All-append, All-nil, All-cons, All-head, All-tail, All-same}
use Rattle.std.proofs.lemmas.Option.{cond_some}
use Rattle.ss_cbor.specs.{Position.{Position, start_of}}
use Rattle.ss_node.specs.Blocks.{Held, FindsBlock, Names, node, Answers}
use Rattle.ss_node.proofs.Rows.{bind-Some}
use Rattle.ss_node.proofs.Naming.{names-not_found}
use Rattle.ss_node.specs.declared.fault.NodeFault.{NodeFault}
use Rattle.ss_hamt.specs.Node.{Node, Pointer, link, bucket, node_from}
use Rattle.ss_hamt.specs.Walks.{Pair, is_link, if_shallow, node_at, node_at_from, entry_part, parts_by, parts_of, before, Walks, HamtPairs, done, pair, stuck, opened, IsPending, WalksNode}
use Rattle.ss_hamt.specs.declared.listing.Pending.{Pending}

-- ---- nodes of a level

pub shallow-node : (level : ℕ) (n : Node) (has_child : Bool) → level ≤ 50 → has_child ≡ list_any is_link n.pointers → ((level ≡ 50) × (has_child ≡ false)) ⊎ (level ≡ 50 → ⊥) → if_shallow level n ≡ Some n
shallow-node level n has_child le is (inl h) =
    let none : list_any is_link n.pointers ≡ false = sym is ∙ h.1 in
    rw (h.0, none) refl
shallow-node level n has_child le is (inr h) =
    let low : ltb level 50 ≡ true = lt-ltb level 50 (elim (cases_lt level 50) [ inl lt ↦ lt | inr ge ↦ absurd (h (omega arith)) ]) in
    rw low refl

pub node_at-here : (level : ℕ) (start : Position) (bytes block : List ℕ) → start ≡ start_of bytes → bytes ≡ block → node_at_from level start.end start.rest ≡ node_at level block
node_at-here level start bytes block at is = rw (at, is) refl

-- ---- a node that was not found

node-stuck : (held : Held) (cid : List ℕ) (level : ℕ) (was now : List Pending) (fault : NodeFault) → Answers {T = Node} (Names held (node_at level) cid) (Err fault) → WalksNode held cid level was now (Err fault)
node-stuck held cid level was now (NodeFault.Missing c) h = h
node-stuck held cid level was now (NodeFault.BadNode c) h = h
node-stuck held cid level was now NodeFault.Fault h = tt
node-stuck held cid level was now NodeFault.NoMemory h = tt

pub node-not_found : (held : Held) (cid : List ℕ) (level : ℕ) (was now : List Pending) (fault : NodeFault) → FindsBlock held cid (Err fault) → WalksNode held cid level was now (Err fault)
node-not_found held cid level was now fault h = node-stuck held cid level was now fault (names-not_found held (node_at level) cid fault h)

-- ---- the walk so far

-- these and what a walk of what is pending gives, the last of it first, are the pairs of the tree
abbrev pub Walking : Held → List ℕ → List Pending → List Pair → Type 0
Walking held root pending pairs = (answer : Result (List Pair) NodeFault) → Walks held (reverse pending) answer → HamtPairs held root (before pairs answer)

before-before : (a b : List Pair) (answer : Result (List Pair) NodeFault) → before a (before b answer) ≡ before (a ++ b) answer
before-before a b (Ok others) = ap (λ (l : List Pair). Ok l) (sym (append_assoc a b others))
before-before a b (Err why) = refl

before-none : (answer : Result (List Pair) NodeFault) → answer ≡ before [] answer
before-none (Ok pairs) = refl
before-none (Err why) = refl

pub walking-root : (held : Held) (root : List ℕ) (pending : List Pending) (pairs : List Pair) → pending ≡ Pending.Child root 0 ∷ [] → pairs ≡ [] → Walking held root pending pairs
walking-root held root pending pairs is none answer walks =
    subst (λ p. HamtPairs held root (before p answer)) (sym none) (subst (HamtPairs held root) (before-none answer) (subst (λ l. Walks held l answer) (ap reverse is) walks))

module _ (held : Held) (root : List ℕ) (all others : List Pending) (pairs : List Pair) (next : Pending) (popped : all ≡ others ++ next ∷ []) (w : Walking held root all pairs) where
  first : reverse all ≡ next ∷ reverse others
  first = ap reverse popped ∙ reverse-append others (next ∷ [])

  pub walking-entry : (key value : List ℕ) (pairs_now : List Pair) → next ≡ Pending.Entry key value → pairs_now ≡ pairs ++ (key, value) ∷ [] → Walking held root others pairs_now
  walking-entry key value pairs_now is pushed answer walks =
      let here = pair key value answer walks in
      let all_pairs = w (before ((key, value) ∷ []) answer) (subst (λ l. Walks held l (before ((key, value) ∷ []) answer)) (sym (first ∙ ap (λ p. p ∷ reverse others) is)) here) in
      subst (λ p. HamtPairs held root (before p answer)) (sym pushed) (subst (HamtPairs held root) (before-before pairs ((key, value) ∷ []) answer) all_pairs)

  pub walking-node : {u : Unit {0}} (cid : List ℕ) (level : ℕ) (now : List Pending) → next ≡ Pending.Child cid level → WalksNode held cid level others now (Ok u) → Walking held root now pairs
  walking-node cid level now is h answer walks =
      let parts = parts_of level h.0 in
      let there : reverse now ≡ parts ++ reverse others = ap reverse h.2 ∙ reverse-append others (reverse parts) ∙ ap (λ l. l ++ reverse others) (reverse-reverse parts) in
      let here = opened cid level h.0 answer h.1 (subst (λ l. Walks held l answer) there walks) in
      w answer (subst (λ l. Walks held l answer) (sym (first ∙ ap (λ p. p ∷ reverse others) is)) here)

  walking-stuck : (cid : List ℕ) (level : ℕ) (fault : NodeFault) → next ≡ Pending.Child cid level → Names held (node_at level) cid (Err fault) → HamtPairs held root (Err fault)
  walking-stuck cid level fault is h = w (Err fault) (subst (λ l. Walks held l (Err fault)) (sym (first ∙ ap (λ p. p ∷ reverse others) is)) (stuck cid level fault h))

  pub walking-fault : (cid : List ℕ) (level : ℕ) (now : List Pending) (fault : NodeFault) → next ≡ Pending.Child cid level → WalksNode held cid level others now (Err fault) → Answers (HamtPairs held root) (Err fault)
  walking-fault cid level now (NodeFault.Missing c) is h = walking-stuck cid level (NodeFault.Missing c) is h
  walking-fault cid level now (NodeFault.BadNode c) is h = walking-stuck cid level (NodeFault.BadNode c) is h
  walking-fault cid level now NodeFault.Fault is h = tt
  walking-fault cid level now NodeFault.NoMemory is h = tt

pub walking-end : (held : Held) (root : List ℕ) (pending : List Pending) (pairs : List Pair) → pending ≡ [] → Walking held root pending pairs → HamtPairs held root (Ok pairs)
walking-end held root pending pairs none w =
    subst (λ p. HamtPairs held root (Ok p)) (append-nil pairs) (w (Ok []) (subst (λ l. Walks held l (Ok [])) (sym (ap reverse none)) done))

-- ---- what is left to walk falls: a child weighs more than as many parts as memory holds

abbrev pub weight_of : Pending → ℕ
weight_of (Pending.Child cid level) = (2 ^ 64) ^ (51 - level)
weight_of (Pending.Entry key value) = 1

-- a part of a node at this level
pub record IsPart (level : ℕ) (part : Pending) : Type 0 where
  pub pending : IsPending part
  pub light : weight_of part ≤ (2 ^ 64) ^ (50 - level)

child-part : (level : ℕ) (cid : List ℕ) → level < 50 → IsPart level (Pending.Child cid (level + 1))
child-part level cid lt = let e : 51 - (level + 1) ≡ 50 - level = omega arith in record { pending = omega arith; light = rw e (omega arith) }

entry-parts : (level : ℕ) (entries : List Pair) → All (IsPart level) (map entry_part entries)
entry-parts level entries =
    let some : 1 ≤ (2 ^ 64) ^ (50 - level) = one-le-pow (50 - level) (2 ^ 64) (omega arith) in
    All-map (IsPart level) entry_part entries (λ k d lt. record { pending = tt; light = some })

parts-fit : (level : ℕ) (pointers : List Pointer) → (level < 50) ⊎ (list_any is_link pointers ≡ false) → All (IsPart level) (flat_map (parts_by level) pointers)
parts-fit level [] h = All-nil (IsPart level)
parts-fit level (link child ∷ pointers) (inl lt) =
    All-same (IsPart level) _ _ (flat_map-cons (parts_by level) (link child) pointers)
    (All-append (IsPart level) (Pending.Child child (level + 1) ∷ []) (flat_map (parts_by level) pointers) (All-cons (IsPart level) _ [] (child-part level child lt) (All-nil (IsPart level))) (parts-fit level pointers (inl lt)))
parts-fit level (link child ∷ pointers) (inr none) = absurd (cc)
parts-fit level (bucket entries ∷ pointers) (inl lt) =
    All-same (IsPart level) _ _ (flat_map-cons (parts_by level) (bucket entries) pointers)
    (All-append (IsPart level) (map entry_part entries) (flat_map (parts_by level) pointers) (entry-parts level entries) (parts-fit level pointers (inl lt)))
parts-fit level (bucket entries ∷ pointers) (inr none) =
    All-same (IsPart level) _ _ (flat_map-cons (parts_by level) (bucket entries) pointers)
    (All-append (IsPart level) (map entry_part entries) (flat_map (parts_by level) pointers) (entry-parts level entries) (parts-fit level pointers (inr none)))

-- ---- a step keeps the bounds, and less is left

either : (level : ℕ) (a b : Bool) → ltb level 50 ≡ a → (a || not b) ≡ true → (level < 50) ⊎ (b ≡ false)
either level true b e h = inl (ltb-true level 50 e)
either level false true e h = absurd (cc)
either level false false e h = inr refl

named-block : {held : Held} {read : List ℕ → Option Node} {cid : List ℕ} {n : Node} → Names held read cid (Ok n) → (block : List ℕ) × (read block ≡ Some n)
named-block (node block n c p r) = (block, r)

shallow-named : (held : Held) (cid : List ℕ) (level : ℕ) (n : Node) → Names held (node_at level) cid (Ok n) → (level < 50) ⊎ (list_any is_link n.pointers ≡ false)
shallow-named held cid level n names =
    let b = named-block names in
    let read = bind-Some (node_from (length b.0) b.0) (if_shallow level) n b.1 in
    let kept = cond_some (ltb level 50 || not (list_any is_link read.0.pointers)) read.0 n read.2 in
    either level (ltb level 50) (list_any is_link n.pointers) refl (subst (λ (m : Node). (ltb level 50 || not (list_any is_link m.pointers)) ≡ true) kept.1 kept.0)

sum-light : (level : ℕ) (parts : List Pending) → All (IsPart level) parts → sum_by weight_of parts ≤ length parts * (2 ^ 64) ^ (50 - level)
sum-light level [] h = let none : sum_by weight_of [] ≡ 0 = refl in omega (arith, none)
sum-light level (part ∷ parts) h =
    let one = All-head (IsPart level) part parts h in
    let others = sum-light level parts (All-tail (IsPart level) part parts h) in
    let sum = sum_by-cons weight_of part parts in
    let more : suc (length parts) * (2 ^ 64) ^ (50 - level) ≡ (2 ^ 64) ^ (50 - level) + length parts * (2 ^ 64) ^ (50 - level) = suc-mul' (length parts) ((2 ^ 64) ^ (50 - level)) in
    omega (arith, one.light, others, sum, more)
  where
    suc-mul' : (n x : ℕ) → suc n * x ≡ x + n * x
    suc-mul' n x = omega arith

-- fewer parts than memory holds weigh less than their node
lighter : (level n x sum : ℕ) → level ≤ 50 → n < 2 ^ 64 → x ≡ (2 ^ 64) ^ (50 - level) → sum ≤ n * x → sum < (2 ^ 64) ^ (51 - level)
lighter level n x sum le few is h =
    let e : 51 - level ≡ suc (50 - level) = omega arith in
    let power : (2 ^ 64) ^ (51 - level) ≡ x * 2 ^ 64 = ap (λ k. (2 ^ 64) ^ k) e ∙ pow-suc (2 ^ 64) (50 - level) ∙ ap (λ y. y * 2 ^ 64) (sym is) in
    let some : 1 ≤ x = omega (arith, is, one-le-pow (50 - level) (2 ^ 64) (omega arith)) in
    let less : (n + 1) * x ≤ 2 ^ 64 * x = mul-le-mul_right x (omega arith) in
    let split : (n + 1) * x ≡ n * x + x = omega arith in
    let turn : 2 ^ 64 * x ≡ x * 2 ^ 64 = omega arith in
    omega (arith, power, some, less, split, turn, h)

module _ (held : Held) (cid : List ℕ) (level : ℕ) (all others now : List Pending) (next : Pending) (popped : all ≡ others ++ next ∷ []) (is : next ≡ Pending.Child cid level) (le : level ≤ 50) (u : Unit {0}) (h : WalksNode held cid level others now (Ok u)) where
  fit : All (IsPart level) (parts_of level h.0)
  fit = parts-fit level h.0.pointers (shallow-named held cid level h.0 h.1)

  pub step-pending : All IsPending others → All IsPending now
  step-pending rest =
      let parts = parts_of level h.0 in
      All-same IsPending now (others ++ reverse parts) h.2
      (All-append IsPending others (reverse parts) rest (All-permutation IsPending parts (reverse parts) (IsPermutation-reverse parts) (All-weaker (IsPart level) IsPending (λ x p. p.pending) parts fit)))

  pub step-smaller : length now < 2 ^ 64 → sum_by weight_of now < sum_by weight_of all
  step-smaller few =
      let parts = parts_of level h.0 in
      let after = ap (sum_by weight_of) h.2 ∙ sum_by-append weight_of others (reverse parts) in
      let turned = sum_by-IsPermutation weight_of parts (reverse parts) (IsPermutation-reverse parts) in
      let count : length now ≡ length others + length (reverse parts) = ap length h.2 ∙ length-append others (reverse parts) in
      let same = length-reverse parts in
      let light = lighter level (length parts) ((2 ^ 64) ^ (50 - level)) (sum_by weight_of parts) le (omega (arith, few, count, same)) refl (sum-light level parts fit) in
      let before_it = ap (sum_by weight_of) popped ∙ sum_by-append weight_of others (next ∷ []) in
      let one = sum_by-cons weight_of next [] in
      let none : sum_by weight_of [] ≡ 0 = refl in
      let weight : weight_of next ≡ (2 ^ 64) ^ (51 - level) = ap weight_of is in
      omega (arith, after, turned, light, before_it, one, none, weight)
