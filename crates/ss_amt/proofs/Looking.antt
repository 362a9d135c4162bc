-- Steps of a look-up.
use Rattle.std.proofs.Common.{◌≡◌, ℕ, suc, ◌+◌, ◌*◌, ◌^◌, ◌<◌, ◌≤◌, List, Option, Some, None, Ok, Err, sym, ◌∙◌}
use Rattle.ss_node.specs.Blocks.{Held, FindsBlock, Names, Answers}
use Rattle.ss_node.proofs.Naming.{names-not_found}
use Rattle.ss_node.specs.declared.fault.NodeFault.{NodeFault}
use Rattle.ss_amt.specs.Node.{Node, node_in, root_in, slot_of, HasEntry}
use Rattle.ss_amt.specs.Paths.{Answer, AmtGet, Finds, FindsEntry, FindsRoot, leaf, vacant, no_child, child_finds, no_root, past, within}
use Rattle.ss_amt.specs.declared.shape.Shape.{Shape}
use Rattle.ss_amt.specs.declared.look_up.Found.{Found}

-- ---- a node that was not found

entry-stuck : (held : Held) (read : List ℕ → Option Node) (cid : List ℕ) (slot : ℕ) (fault : NodeFault) → Answers {T = Node} (Names held read cid) (Err fault) → FindsEntry held read cid slot (Err fault)
entry-stuck held read cid slot (NodeFault.Missing c) h = h
entry-stuck held read cid slot (NodeFault.BadNode c) h = h
entry-stuck held read cid slot NodeFault.Fault h = tt
entry-stuck held read cid slot NodeFault.NoMemory h = tt

pub entry-not_found : (held : Held) (read : List ℕ → Option Node) (cid : List ℕ) (slot : ℕ) (fault : NodeFault) → FindsBlock held cid (Err fault) → FindsEntry held read cid slot (Err fault)
entry-not_found held read cid slot fault h = entry-stuck held read cid slot fault (names-not_found held read cid fault h)

root-stuck : (held : Held) (cid : List ℕ) (index : ℕ) (fault : NodeFault) → Answers {T = Shape × Node} (Names held root_in cid) (Err fault) → FindsRoot held cid index (Err fault)
root-stuck held cid index (NodeFault.Missing c) h = h
root-stuck held cid index (NodeFault.BadNode c) h = h
root-stuck held cid index NodeFault.Fault h = tt
root-stuck held cid index NodeFault.NoMemory h = tt

pub root-not_found : (held : Held) (cid : List ℕ) (index : ℕ) (fault : NodeFault) → FindsBlock held cid (Err fault) → FindsRoot held cid index (Err fault)
root-not_found held cid index fault h = root-stuck held cid index fault (names-not_found held root_in cid fault h)

-- ---- the path so far

-- what is found from here is found from the root
pub record Reached (held : Held) (root : List ℕ) (index width height : ℕ) (found : Found) : Type 0 where
  pub node : Node
  pub entry : HasEntry (slot_of width height index) node found.link found.value
  pub next : (answer : Answer) → Finds held width index height node answer → AmtGet held root index answer

pub reached-root : (held : Held) (root : List ℕ) (index : ℕ) (shape : Shape) (found : Found) → FindsRoot held root index (Ok (shape, found)) → index < 2 ^ (shape.width * (shape.height + 1)) →
    Reached held root index shape.width shape.height found
reached-root held root index shape found h lt = record { node = h.0; entry = h.2; next = λ answer finds. within shape h.0 answer h.1 lt finds }

module _ (held : Held) (root : List ℕ) (index width height : ℕ) (found : Found) where
  pub reached-none : Reached held root index width (suc height) found → found.link ≡ None → AmtGet held root index (Ok None)
  reached-none r e = r.next (Ok None) (vacant (sym r.entry.link_is ∙ e))

  pub reached-value : Reached held root index width 0 found → AmtGet held root index (Ok found.value)
  reached-value r = rw r.entry.value_is (r.next _ leaf)

  pub reached-child : (child : List ℕ) (next : Found) → Reached held root index width (suc height) found → found.link ≡ Some child →
      FindsEntry held (node_in width height) child (slot_of width height index) (Ok next) → Reached held root index width height next
  reached-child child next r e h = record {
    node = h.0;
    entry = h.2;
    next = λ answer finds. r.next answer (child_finds child h.0 (sym r.entry.link_is ∙ e) h.1 finds);
  }

  stuck-child : (child : List ℕ) (fault : NodeFault) → Reached held root index width (suc height) found → found.link ≡ Some child → Names held (node_in width height) child (Err fault) → AmtGet held root index (Err fault)
  stuck-child child fault r e h = r.next (Err fault) (no_child child fault (sym r.entry.link_is ∙ e) h)

  pub reached-fault : (child : List ℕ) (fault : NodeFault) → Reached held root index width (suc height) found → found.link ≡ Some child →
      FindsEntry held (node_in width height) child (slot_of width height index) (Err fault) → Answers (AmtGet held root index) (Err fault)
  reached-fault child (NodeFault.Missing c) r e h = stuck-child child (NodeFault.Missing c) r e h
  reached-fault child (NodeFault.BadNode c) r e h = stuck-child child (NodeFault.BadNode c) r e h
  reached-fault child NodeFault.Fault r e h = tt
  reached-fault child NodeFault.NoMemory r e h = tt

pub root-fault : (held : Held) (root : List ℕ) (index : ℕ) (fault : NodeFault) → FindsRoot held root index (Err fault) → Answers (AmtGet held root index) (Err fault)
root-fault held root index (NodeFault.Missing c) h = no_root (NodeFault.Missing c) h
root-fault held root index (NodeFault.BadNode c) h = no_root (NodeFault.BadNode c) h
root-fault held root index NodeFault.Fault h = tt
root-fault held root index NodeFault.NoMemory h = tt

pub root-past : (held : Held) (root : List ℕ) (index : ℕ) (shape : Shape) (found : Found) → FindsRoot held root index (Ok (shape, found)) → 2 ^ (shape.width * (shape.height + 1)) ≤ index → AmtGet held root index (Ok None)
root-past held root index shape found h le = past shape h.0 h.1 le
