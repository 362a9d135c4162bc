-- What an AMT has at an index, by the path from its root through nodes that are fetched one after another.
use Rattle.std.specs.Prelude.{◌≡◌, ℕ, zero, suc, ◌+◌, ◌*◌, ◌^◌, ◌<◌, ◌≤◌, List, Option, Some, None, Result, Ok, Err, ⊤}
use Rattle.ss_node.specs.{Bits.at_slot, Blocks.{Held, Names}, declared.fault.NodeFault.NodeFault}
use Rattle.ss_amt.specs.{Node.{Node, node_in, root_in, slot_of, HasEntry}, declared.shape.Shape.Shape, declared.look_up.Found.Found}

-- a value, none, or why there is no answer
abbrev pub Answer : Type 0
Answer = Result (Option (List ℕ)) NodeFault

-- the node leads to this child at an index
abbrev pub LeadsTo : ℕ → ℕ → ℕ → Node → Option (List ℕ) → Type 0
LeadsTo width index height node child = at_slot node.bits node.links (slot_of width height index) ≡ child

-- What is found at an index from a node of some height: at height 0 the value of its slot, and above what is found from the child of its slot,
-- if it has one. The first CID on the path that names no node is the answer.
pub data Finds (held : Held) (width index : ℕ) : ℕ → Node → Answer → Type 0 where
  leaf : {node : Node} → Finds held width index zero node (Ok (at_slot node.bits node.values (slot_of width 0 index)))
  vacant : {height : ℕ} {node : Node} → LeadsTo width index (suc height) node None → Finds held width index (suc height) node (Ok None)
  no_child : {height : ℕ} {node : Node} (child : List ℕ) (fault : NodeFault) → LeadsTo width index (suc height) node (Some child) →
      Names held (node_in width height) child (Err fault) → Finds held width index (suc height) node (Err fault)
  child_finds : {height : ℕ} {node : Node} {answer : Answer} (child : List ℕ) (next : Node) → LeadsTo width index (suc height) node (Some child) →
      Names held (node_in width height) child (Ok next) → Finds held width index height next answer → Finds held width index (suc height) node answer

-- What a tree has at an index: none past its slots.
pub data AmtGet (held : Held) (root : List ℕ) (index : ℕ) : Answer → Type 0 where
  no_root : (fault : NodeFault) → Names held root_in root (Err fault) → AmtGet held root index (Err fault)
  past : (shape : Shape) (node : Node) → Names held root_in root (Ok (shape, node)) → 2 ^ (shape.width * (shape.height + 1)) ≤ index →
      AmtGet held root index (Ok None)
  within : (shape : Shape) (node : Node) (answer : Answer) → Names held root_in root (Ok (shape, node)) → index < 2 ^ (shape.width * (shape.height + 1)) →
      Finds held shape.width index shape.height node answer → AmtGet held root index answer

-- ---- what the steps of a look-up answer

-- the node of a CID was read, and this found at a slot of it; or why it was not
abbrev pub FindsEntry : Held → (List ℕ → Option Node) → List ℕ → ℕ → Result Found NodeFault → Type 0
FindsEntry held read cid slot (Ok found) = (node : Node) × Names held read cid (Ok node) × HasEntry slot node found.link found.value
FindsEntry held read cid slot (Err NodeFault.Fault) = ⊤
FindsEntry held read cid slot (Err NodeFault.NoMemory) = ⊤
FindsEntry held read cid slot (Err fault) = Names held read cid (Err fault)

-- the same of a root, whose shape is answered too
abbrev pub FindsRoot : Held → List ℕ → ℕ → Result (Shape × Found) NodeFault → Type 0
FindsRoot held cid index (Ok found) =
    (node : Node) × Names held root_in cid (Ok (found.0, node)) × HasEntry (slot_of found.0.width found.0.height index) node found.1.link found.1.value
FindsRoot held cid index (Err NodeFault.Fault) = ⊤
FindsRoot held cid index (Err NodeFault.NoMemory) = ⊤
FindsRoot held cid index (Err fault) = Names held root_in cid (Err fault)
