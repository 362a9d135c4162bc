-- Steps of a look-up.
use Rattle.std.proofs.Common.{◌≡◌, ℕ, ◌+◌, ◌<◌, ◌≤◌, List, Option, Some, None, Result, Ok, Err, option_map, refl, sym, ap, ◌∙◌, subst}
use Rattle.ss_node.specs.Blocks.{Held, FindsBlock, Names, Answers}
use Rattle.ss_node.proofs.Naming.{names-not_found}
use Rattle.ss_node.specs.declared.fault.NodeFault.{NodeFault}
use Rattle.sha2.specs.Sha256.{sha256}
use Rattle.ss_hamt.specs.Slots.{group_of, slot_of, at_slot}
use Rattle.ss_hamt.specs.Node.{Node, Pointer, link, bucket, node_in, found_by, found_or_none, value_of}
use Rattle.ss_hamt.specs.Paths.{Answer, HamtGet, Finds, FindsEntry, vacant, in_bucket, too_deep, no_child, child_finds, no_root, root_finds}
use Rattle.ss_hamt.specs.declared.found.Found.{Found}

-- ---- a node that was not found

entry-stuck : (held : Held) (key cid : List ℕ) (slot : ℕ) (fault : NodeFault) → Answers {T = Node} (Names held node_in cid) (Err fault) → FindsEntry held key cid slot (Err fault)
entry-stuck held key cid slot (NodeFault.Missing c) h = h
entry-stuck held key cid slot (NodeFault.BadNode c) h = h
entry-stuck held key cid slot NodeFault.Fault h = tt
entry-stuck held key cid slot NodeFault.NoMemory h = tt

pub entry-not_found : (held : Held) (key cid : List ℕ) (slot : ℕ) (fault : NodeFault) → FindsBlock held cid (Err fault) → FindsEntry held key cid slot (Err fault)
entry-not_found held key cid slot fault h = entry-stuck held key cid slot fault (names-not_found held node_in cid fault h)

-- as it stands for the blocks at first and the slot of a key
pub entry-at : (was held : Held) (key cid hash : List ℕ) (slot level : ℕ) (a b : Result Found NodeFault) → held ≡ was → hash ≡ sha256 key → slot ≡ group_of hash level → a ≡ b →
    FindsEntry held key cid slot a → FindsEntry was key cid (slot_of key level) b
entry-at was held key cid hash slot level a b blocks hashed at same h =
    subst (λ x. FindsEntry was key cid (slot_of key level) x) same
    (subst (λ s. FindsEntry was key cid s a) (at ∙ ap (λ x. group_of x level) hashed) (subst (λ x. FindsEntry x key cid slot a) blocks h))

-- ---- what was found in a node, by its pointer

-- a child was found: the pointer is its link
child-points : (key : List ℕ) (child : List ℕ) (pointer : Option Pointer) → Found.Child child ≡ found_or_none (option_map (found_by key) pointer) → pointer ≡ Some (link child)
child-points key child None h = absurd (cc)
child-points key child (Some (link c)) h = let e : child ≡ c = cc in ap (λ x. Some (link x)) (sym e)
child-points key child (Some (bucket entries)) h = absurd (cc)

module _ (held : Held) (key : List ℕ) (level : ℕ) (cid : List ℕ) (node : Node) where
  value-found : (value : Option (List ℕ)) (pointer : Option Pointer) → at_slot node.bits node.pointers (slot_of key level) ≡ pointer → Found.Value value ≡ found_or_none (option_map (found_by key) pointer) →
      Finds held key level cid node (Ok value)
  value-found value None at h = let e : value ≡ None = cc in rw e (vacant at)
  value-found value (Some (link c)) at h = absurd (cc)
  value-found value (Some (bucket entries)) at h = let e : value ≡ value_of key entries = cc in rw e (in_bucket entries at)

-- ---- the path so far

-- what is found at this CID is found from the root
pub record Reached (held : Held) (root key : List ℕ) (level : ℕ) (cid : List ℕ) : Type 0 where
  pub stuck : (fault : NodeFault) → Names held node_in cid (Err fault) → HamtGet held root key (Err fault)
  pub next : (node : Node) (answer : Answer) → Names held node_in cid (Ok node) → Finds held key level cid node answer → HamtGet held root key answer

pub reached-root : (held : Held) (root key : List ℕ) → Reached held root key 0 root
reached-root held root key = record { stuck = λ fault h. no_root fault h; next = λ node answer h finds. root_finds node answer h finds }

module _ (held : Held) (root key : List ℕ) (level : ℕ) (cid : List ℕ) (r : Reached held root key level cid) where
  pub reached-fault : (fault : NodeFault) → FindsEntry held key cid (slot_of key level) (Err fault) → Answers (HamtGet held root key) (Err fault)
  reached-fault (NodeFault.Missing c) h = r.stuck (NodeFault.Missing c) h
  reached-fault (NodeFault.BadNode c) h = r.stuck (NodeFault.BadNode c) h
  reached-fault NodeFault.Fault h = tt
  reached-fault NodeFault.NoMemory h = tt

  pub reached-value : (value : Option (List ℕ)) → FindsEntry held key cid (slot_of key level) (Ok (Found.Value value)) → HamtGet held root key (Ok value)
  reached-value value h = r.next h.0 (Ok value) h.1 (value-found held key level cid h.0 value _ refl h.2)

  pub reached-deep : (child : List ℕ) → 50 ≤ level → FindsEntry held key cid (slot_of key level) (Ok (Found.Child child)) → HamtGet held root key (Err (NodeFault.BadNode cid))
  reached-deep child deep h = r.next h.0 (Err (NodeFault.BadNode cid)) h.1 (too_deep child (child-points key child _ h.2) deep)

  pub reached-child : (child : List ℕ) → level < 50 → FindsEntry held key cid (slot_of key level) (Ok (Found.Child child)) → Reached held root key (level + 1) child
  reached-child child lt h = record {
    stuck = λ fault names. r.next h.0 (Err fault) h.1 (no_child child fault (child-points key child _ h.2) lt names);
    next = λ node answer names finds. r.next h.0 answer h.1 (child_finds child node (child-points key child _ h.2) lt names finds);
  }
