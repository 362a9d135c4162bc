-- The pairs of a HAMT in the order of a walk, by paths through nodes that are fetched one after another.
use Rattle.std.specs.Prelude.{◌≡◌, ℕ, ◌+◌, ◌≤◌, nat_lt, not, ◌||◌, Bool, true, false, List, [], ◌∷◌, ◌++◌, map, reverse, length, if◌then◌else◌, Option, Some, None, Result, Ok, Err, ⊤}
use Rattle.std.specs.List.{flat_map, list_any}
use Rattle.ss_cbor.specs.{Options.{◌>>=◌}, Position.Position}
use Rattle.ss_node.specs.{Blocks.{Held, Names}, declared.fault.NodeFault.NodeFault}
use Rattle.ss_hamt.specs.{Node.{Node, Pointer, link, bucket, node_from}, declared.listing.{Pending.Pending, Unlisted.Unlisted}}

-- a key and its value
abbrev pub Pair : Type 0
Pair = List ℕ × List ℕ

abbrev pub is_link : Pointer → Bool
is_link (link child) = true
is_link (bucket entries) = false

-- the node, unless it has children at level 50 or below
abbrev pub if_shallow : ℕ → Node → Option Node
if_shallow level node = if nat_lt level 50 || not (list_any is_link node.pointers) then Some node else None

-- the node of a level that the bytes are, to their end
abbrev pub node_at_from : ℕ → ℕ → List ℕ → Option Node
node_at_from level end bytes = node_from end bytes >>= if_shallow level

-- the node of a level that a block is
abbrev pub node_at : ℕ → List ℕ → Option Node
node_at level block = node_at_from level (length block) block

abbrev pub entry_part : Pair → Pending
entry_part pair = Pending.Entry pair.0 pair.1

-- what a pointer of a node at a level leaves to walk: a child, or each entry of a bucket
abbrev pub parts_by : ℕ → Pointer → List Pending
parts_by level (link child) = Pending.Child child (level + 1) ∷ []
parts_by level (bucket entries) = map entry_part entries

abbrev pub parts_of : ℕ → Node → List Pending
parts_of level node = flat_map (parts_by level) node.pointers

-- these and what a walk gives, if it gives any
abbrev pub before : List Pair → Result (List Pair) NodeFault → Result (List Pair) NodeFault
before pairs (Ok others) = Ok (pairs ++ others)
before pairs (Err fault) = Err fault

-- The pairs of entries and children one after another: an entry is a pair, and a child is walked slot by slot, buckets in order.
-- The first CID that names no node of its level is the answer.
pub data Walks (held : Held) : List Pending → Result (List Pair) NodeFault → Type 0 where
  done : Walks held [] (Ok [])
  pair : {others : List Pending} (key value : List ℕ) (answer : Result (List Pair) NodeFault) → Walks held others answer →
      Walks held (Pending.Entry key value ∷ others) (before ((key, value) ∷ []) answer)
  stuck : {others : List Pending} (cid : List ℕ) (level : ℕ) (fault : NodeFault) → Names held (node_at level) cid (Err fault) →
      Walks held (Pending.Child cid level ∷ others) (Err fault)
  opened : {others : List Pending} (cid : List ℕ) (level : ℕ) (node : Node) (answer : Result (List Pair) NodeFault) → Names held (node_at level) cid (Ok node) →
      Walks held (parts_of level node ++ others) answer → Walks held (Pending.Child cid level ∷ others) answer

-- the pairs of a tree
abbrev pub HamtPairs : Held → List ℕ → Result (List Pair) NodeFault → Type 0
HamtPairs held root answer = Walks held (Pending.Child root 0 ∷ []) answer

-- ---- what the steps of a walk leave

-- a node that is pending is at level 50 at most
abbrev pub IsPending : Pending → Type 0
IsPending (Pending.Child cid level) = level ≤ 50
IsPending (Pending.Entry key value) = ⊤

-- what is pending after a step that reads `from` at a position and adds what `made` says
abbrev pub Lists : {Y R : Type 0} → (ℕ → List ℕ → Option (Y × List ℕ)) → (Y → List Pending) → (Y → R → Type 0) → Position → Position → List Pending → List Pending → Result R Unlisted → Type 0
Lists {Y} from made Says old new was now (Ok answer) =
    (y : Y) × (from old.end old.rest ≡ Some (y, new.rest)) × (new.end ≡ old.end) × (now ≡ was ++ made y) × Says y answer
Lists from made Says old new was now (Err Unlisted.NotANode) = from old.end old.rest ≡ None
Lists from made Says old new was now (Err Unlisted.NoMemory) = ⊤

-- a node was read, and what it leaves to walk was added; or why it was not
abbrev pub ListsNode : ℕ → Option Node → List Pending → List Pending → Result (Unit {0}) Unlisted → Type 0
ListsNode level read was now (Ok _) = (n : Node) × (read ≡ Some n) × (now ≡ was ++ reverse (parts_of level n))
ListsNode level read was now (Err Unlisted.NotANode) = read ≡ None
ListsNode level read was now (Err Unlisted.NoMemory) = ⊤

-- the same of the node of a CID
abbrev pub WalksNode : Held → List ℕ → ℕ → List Pending → List Pending → Result (Unit {0}) NodeFault → Type 0
WalksNode held cid level was now (Ok _) = (n : Node) × Names held (node_at level) cid (Ok n) × (now ≡ was ++ reverse (parts_of level n))
WalksNode held cid level was now (Err NodeFault.Fault) = ⊤
WalksNode held cid level was now (Err NodeFault.NoMemory) = ⊤
WalksNode held cid level was now (Err fault) = Names held (node_at level) cid (Err fault)
