-- A walk has what look-ups find.
use Rattle.std.proofs.Common.{◌≡◌, ℕ, ◌+◌, Bool, true, false, cond, eqb, List, [], ◌∷◌, ◌++◌, Contains, slice_get, Option, Some, None, Result, Ok, Err, refl, sym, ap, subst}
use Rattle.std.specs.Prelude.{nat_eq}
use Rattle.std.specs.Cmp.Lexicographic.{pointwise}
use Rattle.std.proofs.lemmas.Option.{none-some, cond_some}
use Rattle.std.proofs.lemmas.Slice.Eq.{bytes_eq-Decides}
use Rattle.std.specs.Int.{bit_at}
use Rattle.ss_cid.specs.Maps.{Kept}
use Rattle.ss_cbor.specs.Options.{◌>>=◌}
use Rattle.ss_node.specs.Blocks.{Held, Names, node}
use Rattle.ss_node.specs.declared.fault.NodeFault.{NodeFault}
use Rattle.ss_node.proofs.Naming.{names-one}
use Rattle.ss_node.proofs.Members.{In, here, there, in-left, in-right, in-map, in-flat, in-get, contains-in, Some-same, Ok-same}
use Rattle.ss_hamt.specs.Slots.{slot_of, at_slot, ones_below}
use Rattle.ss_hamt.specs.Node.{Node, Pointer, link, bucket, node_in, value_of}
use Rattle.ss_hamt.specs.Paths.{HamtGet, Finds, vacant, in_bucket, too_deep, no_child, child_finds, no_root, root_finds}
use Rattle.ss_hamt.specs.Walks.{Pair, if_shallow, node_at, entry_part, parts_by, parts_of, before, Walks, HamtPairs, done, pair, stuck, opened}
use Rattle.ss_hamt.specs.declared.listing.Pending.{Pending}

-- ---- what a node has for a key is among its parts

in-slot : (bits : ℕ) (pointers : List Pointer) (slot : ℕ) (pointer : Pointer) → at_slot bits pointers slot ≡ Some pointer → In pointer pointers
in-slot bits pointers slot pointer e = in-get pointers (ones_below bits slot) pointer (chosen (eqb (bit_at bits slot) 1) (slice_get pointers (ones_below bits slot)) e)
  where
    chosen : (b : Bool) (o : Option Pointer) → cond b o None ≡ Some pointer → o ≡ Some pointer
    chosen true o h = h
    chosen false o h = absurd (none-some pointer h)

in-bucket : (key : List ℕ) (entries : List Pair) (v : List ℕ) → value_of key entries ≡ Some v → In (key, v) entries
in-bucket key [] v e = absurd (none-some v e)
in-bucket key (entry ∷ entries) v e = by_key (pointwise nat_eq key entry.0) refl e (in-bucket key entries v)
  where
    by_key : (b : Bool) → pointwise nat_eq key entry.0 ≡ b → cond b (Some entry.1) (value_of key entries) ≡ Some v → (value_of key entries ≡ Some v → In (key, v) entries) → In (key, v) (entry ∷ entries)
    by_key true h e ih =
        let key_is : key ≡ entry.0 = (bytes_eq-Decides key entry.0).0 h in
        let value_is : entry.1 ≡ v = Some-same entry.1 v e in
        subst (λ k. In (k, v) (entry ∷ entries)) (sym key_is) (subst (λ x. In (entry.0, x) (entry ∷ entries)) value_is here)
    by_key false h e ih = there (ih e)

-- ---- what a look-up finds, a walk lists

-- a look-up from here finds the value: at a child by its path, and an entry is it
abbrev HasKey : Held → List ℕ → List ℕ → Pending → Type 0
HasKey held key v (Pending.Child cid level) = (n : Node) × Names held node_in cid (Ok n) × Finds held key level cid n (Ok (Some v))
HasKey held key v (Pending.Entry k x) = (k ≡ key) × (x ≡ v)

-- a node of a level is a node
at-node : {held : Held} {cid : List ℕ} {n : Node} (level : ℕ) → Names held (node_at level) cid (Ok n) → Names held node_in cid (Ok n)
at-node level (node block n c p r) = node block n c p (kept (node_in block) r)
  where
    kept : (o : Option Node) → (o >>= if_shallow level) ≡ Some n → o ≡ Some n
    kept None h = absurd (cc)
    kept (Some m) h = ap Some (cond_some _ m n h).1

-- what a look-up finds from a node is among what the node leaves to walk, or is found from it
record OnePart (held : Held) (key v : List ℕ) (level : ℕ) (n : Node) : Type 0 where
  pub part : Pending
  pub member : In part (parts_of level n)
  pub has : HasKey held key v part

one-part : {held : Held} {key : List ℕ} {cid : List ℕ} {n : Node} (level : ℕ) (v : List ℕ) (answer : Result (Option (List ℕ)) NodeFault) → Finds held key level cid n answer → answer ≡ Ok (Some v) → OnePart held key v level n
one-part level v answer (vacant e) f = absurd (none-some v (Ok-same _ _ f))
one-part {key = key} {n = n} level v answer (in_bucket entries e) f =
    let entry = in-bucket key entries v (Ok-same _ _ f) in
    let slot = in-slot n.bits n.pointers (slot_of key level) (bucket entries) e in
    record { part = Pending.Entry key v; member = in-flat (parts_by level) n.pointers slot (in-map entry_part entry); has = (refl, refl) }
one-part level v answer (too_deep c e le) f = absurd (cc)
one-part level v answer (no_child c x e lt h) f = absurd (cc)
one-part {held = held} {key = key} {n = n} level v answer (child_finds c next e lt h finds) f =
    let slot = in-slot n.bits n.pointers (slot_of key level) (link c) e in
    record { part = Pending.Child c (level + 1); member = in-flat (parts_by level) n.pointers slot here; has = (next, h, subst (Finds held key (level + 1) c next) f finds) }

module _ (held : Held) (kept : Kept) (exposed : held.told ≡ Some kept) (key v : List ℕ) where
  abbrev Lists : List Pending → List Pair → Type 0
  Lists pending pairs = (p : Pending) → In p pending → HasKey held key v p → In (key, v) pairs

  pair-lists : (k x : List ℕ) (others : List Pending) (answer : Result (List Pair) NodeFault) → ((pairs : List Pair) → answer ≡ Ok pairs → Lists others pairs) → (pairs : List Pair) → before ((k, x) ∷ []) answer ≡ Ok pairs → Lists (Pending.Entry k x ∷ others) pairs
  pair-lists k x others (Err why) ih pairs e p m has = absurd (cc)
  pair-lists k x others (Ok rest) ih pairs e _ here has =
      subst (In (key, v)) (Ok-same _ pairs e) (subst (λ a. In (key, v) ((a, x) ∷ rest)) (sym has.0) (subst (λ b. In (key, v) ((key, b) ∷ rest)) (sym has.1) here))
  pair-lists k x others (Ok rest) ih pairs e p (there m) has = subst (In (key, v)) (Ok-same _ pairs e) (there (ih rest refl p m has))

  node-lists : (cid : List ℕ) (level : ℕ) (others : List Pending) (n : Node) → Names held (node_at level) cid (Ok n) → (pairs : List Pair) → Lists (parts_of level n ++ others) pairs → Lists (Pending.Child cid level ∷ others) pairs
  node-lists cid level others n names pairs ih _ here has =
      let same : has.0 ≡ n = Ok-same has.0 n (names-one held kept exposed node_in cid has.1 (at-node level names)) in
      let part = one-part level v (Ok (Some v)) (subst (λ (m : Node). Finds held key level cid m (Ok (Some v))) same has.2) refl in
      ih part.part (in-left others part.member) part.has
  node-lists cid level others n names pairs ih p (there m) has = ih p (in-right (parts_of level n) m) has

  nothing : (pairs : List Pair) → Lists [] pairs
  nothing pairs p m has = elim m [ ]

  walk-lists : {pending : List Pending} {answer : Result (List Pair) NodeFault} → Walks held pending answer → (pairs : List Pair) → answer ≡ Ok pairs → Lists pending pairs
  walk-lists done pairs e = nothing pairs
  walk-lists (pair {others = others} k x answer w) pairs e = pair-lists k x others answer (λ rest f. walk-lists w rest f) pairs e
  walk-lists (stuck c level x h) pairs e = absurd (cc)
  walk-lists (opened {others = others} c level n answer names w) pairs e = node-lists c level others n names pairs (walk-lists w pairs e)

  get-has : (root : List ℕ) (answer : Result (Option (List ℕ)) NodeFault) → HamtGet held root key answer → answer ≡ Ok (Some v) → HasKey held key v (Pending.Child root 0)
  get-has root answer (no_root x h) e = absurd (cc)
  get-has root answer (root_finds n a h finds) e = (n, h, subst (Finds held key 0 root n) e finds)

  pub found-is-listed : (root : List ℕ) (pairs : List Pair) → HamtPairs held root (Ok pairs) → HamtGet held root key (Ok (Some v)) → Contains pairs (key, v)
  found-is-listed root pairs w g = contains-in pairs (key, v) (walk-lists w pairs refl (Pending.Child root 0) here (get-has root (Ok (Some v)) g refl))
