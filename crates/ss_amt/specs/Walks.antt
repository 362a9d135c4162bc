-- The values of an AMT in the order of a walk, by paths through nodes that are fetched one after another.
use Rattle.std.specs.Prelude.{◌≡◌, ℕ, zero, suc, ◌+◌, ◌-◌, ◌*◌, ◌^◌, ◌≤◌, List, [], ◌∷◌, ◌++◌, map, reverse, if◌then◌else◌, Option, Some, None, Result, Ok, Err, ⊤, true}
use Rattle.std.specs.List.{zip}
use Rattle.ss_cbor.specs.Position.{Position}
use Rattle.ss_chain.specs.HeaderReading.{item_from}
use Rattle.ss_cbor.specs.Reading.{link_from}
use Rattle.ss_node.specs.{Bits.{is_set}, Blocks.{Held, Names}, Rows.many_from, declared.fault.NodeFault.NodeFault}
use Rattle.ss_amt.specs.{Node.{Node, node_in, root_in, is_shape}, declared.shape.Shape.Shape, declared.listing.{Pending.Pending, Unlisted.Unlisted}}

-- an index and its value
abbrev pub Pair : Type 0
Pair = ℕ × List ℕ

-- the slots below n that are taken, ascending
unfoldable pub taken_below : List ℕ → ℕ → List ℕ
taken_below bits zero = []
taken_below bits (suc n) = taken_below bits n ++ (if is_set bits n then n ∷ [] else [])

-- the entries of a node, each with its slot
abbrev pub slotted : {X : Type 0} → ℕ → List ℕ → List X → List (ℕ × X)
slotted width bits entries = zip (taken_below bits (2 ^ width)) entries

-- a child of a node of this height whose first index is `first`
abbrev pub child_at : ℕ → ℕ → ℕ → ℕ × List ℕ → Pending
child_at width height first entry = record { cid = entry.1; height = height - 1; first = first + entry.0 * 2 ^ (width * height) }

abbrev pub children_of : ℕ → ℕ → ℕ → Node → List Pending
children_of width height first node = map (child_at width height first) (slotted width node.bits node.links)

abbrev pub value_at : ℕ → ℕ × List ℕ → Pair
value_at first entry = (first + entry.0, entry.1)

abbrev pub values_of : ℕ → ℕ → Node → List Pair
values_of width first node = map (value_at first) (slotted width node.bits node.values)

-- these and what a walk gives, if it gives any
abbrev pub before : List Pair → Result (List Pair) NodeFault → Result (List Pair) NodeFault
before values (Ok others) = Ok (values ++ others)
before values (Err fault) = Err fault

-- The values of nodes one after another: those of the first node or of its children in turn, slots ascending, and then those of the others.
-- The first CID that names no node is the answer.
pub data Walks (held : Held) (width : ℕ) : List Pending → Result (List Pair) NodeFault → Type 0 where
  done : Walks held width [] (Ok [])
  stuck : {others : List Pending} (next : Pending) (fault : NodeFault) → Names held (node_in width next.height) next.cid (Err fault) → Walks held width (next ∷ others) (Err fault)
  opened : {others : List Pending} (next : Pending) (node : Node) (answer : Result (List Pair) NodeFault) → Names held (node_in width next.height) next.cid (Ok node) →
      Walks held width (children_of width next.height next.first node ++ others) answer → Walks held width (next ∷ others) (before (values_of width next.first node) answer)

-- the values of a tree
pub data AmtValues (held : Held) (root : List ℕ) : Result (List Pair) NodeFault → Type 0 where
  no_root : (fault : NodeFault) → Names held root_in root (Err fault) → AmtValues held root (Err fault)
  root_walks : (shape : Shape) (node : Node) (answer : Result (List Pair) NodeFault) → Names held root_in root (Ok (shape, node)) →
      Walks held shape.width (children_of shape.width shape.height 0 node) answer → AmtValues held root (before (values_of shape.width 0 node) answer)

-- ---- what the steps of a walk leave

-- the indices of a node's slots are below 2 ^ 63
pub record IsPending (width : ℕ) (next : Pending) : Type 0 where
  pub shape : is_shape width next.height ≡ true
  pub room : next.first + 2 ^ (width * (next.height + 1)) ≤ 2 ^ 63

-- a row of links was read, and the children added so that the first is the last of the list
abbrev pub ListsChildren : ℕ → ℕ → ℕ → List ℕ → ℕ → Position → Position → List Pending → List Pending → Result (Unit {0}) Unlisted → Type 0
ListsChildren width height first bits n old new was now (Ok _) =
    (row : List (List ℕ)) × (many_from link_from n old.end old.rest ≡ Some (row, new.rest)) × (new.end ≡ old.end) ×
    (now ≡ was ++ reverse (map (child_at width height first) (slotted width bits row)))
ListsChildren width height first bits n old new was now (Err Unlisted.NotANode) = many_from link_from n old.end old.rest ≡ None
ListsChildren width height first bits n old new was now (Err Unlisted.NoMemory) = ⊤

-- a row of values was read and added
abbrev pub ListsValues : ℕ → ℕ → List ℕ → ℕ → Position → Position → List Pair → List Pair → Result (Unit {0}) Unlisted → Type 0
ListsValues width first bits n old new was now (Ok _) =
    (row : List (List ℕ)) × (many_from item_from n old.end old.rest ≡ Some (row, new.rest)) × (new.end ≡ old.end) ×
    (now ≡ was ++ map (value_at first) (slotted width bits row))
ListsValues width first bits n old new was now (Err Unlisted.NotANode) = many_from item_from n old.end old.rest ≡ None
ListsValues width first bits n old new was now (Err Unlisted.NoMemory) = ⊤

-- a node was read, and its children and values added
abbrev pub ListsNode : ℕ → ℕ → ℕ → Option Node → List Pending → List Pending → List Pair → List Pair → Result (Unit {0}) Unlisted → Type 0
ListsNode width height first read was now values_was values_now (Ok _) =
    (n : Node) × (read ≡ Some n) × (now ≡ was ++ reverse (children_of width height first n)) × (values_now ≡ values_was ++ values_of width first n)
ListsNode width height first read was now values_was values_now (Err Unlisted.NotANode) = read ≡ None
ListsNode width height first read was now values_was values_now (Err Unlisted.NoMemory) = ⊤

-- the next node was read, and its children and values added; or why it was not
abbrev pub WalksNode : Held → ℕ → Pending → List Pending → List Pending → List Pair → List Pair → Result (Unit {0}) NodeFault → Type 0
WalksNode held width next was now values_was values_now (Ok _) =
    (n : Node) × Names held (node_in width next.height) next.cid (Ok n) × (now ≡ was ++ reverse (children_of width next.height next.first n)) ×
    (values_now ≡ values_was ++ values_of width next.first n)
WalksNode held width next was now values_was values_now (Err NodeFault.Fault) = ⊤
WalksNode held width next was now values_was values_now (Err NodeFault.NoMemory) = ⊤
WalksNode held width next was now values_was values_now (Err fault) = Names held (node_in width next.height) next.cid (Err fault)

-- the same of a root, whose shape is answered
abbrev pub WalksRoot : Held → List ℕ → List Pending → List Pending → List Pair → List Pair → Result Shape NodeFault → Type 0
WalksRoot held root was now values_was values_now (Ok shape) =
    (n : Node) × Names held root_in root (Ok (shape, n)) × (now ≡ was ++ reverse (children_of shape.width shape.height 0 n)) ×
    (values_now ≡ values_was ++ values_of shape.width 0 n)
WalksRoot held root was now values_was values_now (Err NodeFault.Fault) = ⊤
WalksRoot held root was now values_was values_now (Err NodeFault.NoMemory) = ⊤
WalksRoot held root was now values_was values_now (Err fault) = Names held root_in root (Err fault)
