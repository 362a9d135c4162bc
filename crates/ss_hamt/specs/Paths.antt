-- What a HAMT has for a key, by the path from its root through nodes that are fetched one after another.
use Rattle.std.specs.Prelude.{◌≡◌, ℕ, ◌+◌, ◌<◌, ◌≤◌, List, Option, Some, None, Result, Ok, Err, ⊤, MatchOption, option_map, option_copied, slice_get}
use denote.Bor.{Bor}
use Rattle.ss_cbor.specs.Position.{Position}
use Rattle.ss_node.specs.{Blocks.{Held, Names}, Rows.many_from, declared.fault.NodeFault.NodeFault}
use Rattle.ss_hamt.specs.{Slots.{slot_of, at_slot}, Node.{Node, Pointer, link, bucket, node_in, value_of, found_at, found_by, found_of, entry_from, pointer_from}, declared.found.Found.Found, declared.pointer.Entry.Entry}

-- a value, none, or why there is no answer
abbrev pub Answer : Type 0
Answer = Result (Option (List ℕ)) NodeFault

-- the node has this pointer at the slot of a key
abbrev pub Points : List ℕ → ℕ → Node → Option Pointer → Type 0
Points key level node pointer = at_slot node.bits node.pointers (slot_of key level) ≡ pointer

-- What is found for a key from the node of a CID at a level: nothing in a slot that is not taken, the value of the first entry with the key
-- in a bucket, and at a link what is found from the child. The first CID on the path that names no node is the answer, and at level 50
-- the node itself, since it has no children.
pub data Finds (held : Held) (key : List ℕ) : ℕ → List ℕ → Node → Answer → Type 0 where
  vacant : {level : ℕ} {cid : List ℕ} {node : Node} → Points key level node None → Finds held key level cid node (Ok None)
  in_bucket : {level : ℕ} {cid : List ℕ} {node : Node} (entries : List (List ℕ × List ℕ)) → Points key level node (Some (bucket entries)) →
      Finds held key level cid node (Ok (value_of key entries))
  too_deep : {level : ℕ} {cid : List ℕ} {node : Node} (child : List ℕ) → Points key level node (Some (link child)) → 50 ≤ level →
      Finds held key level cid node (Err (NodeFault.BadNode cid))
  no_child : {level : ℕ} {cid : List ℕ} {node : Node} (child : List ℕ) (fault : NodeFault) → Points key level node (Some (link child)) → level < 50 →
      Names held node_in child (Err fault) → Finds held key level cid node (Err fault)
  child_finds : {level : ℕ} {cid : List ℕ} {node : Node} {answer : Answer} (child : List ℕ) (next : Node) → Points key level node (Some (link child)) → level < 50 →
      Names held node_in child (Ok next) → Finds held key (level + 1) child next answer → Finds held key level cid node answer

-- what a tree has for a key
pub data HamtGet (held : Held) (root key : List ℕ) : Answer → Type 0 where
  no_root : (fault : NodeFault) → Names held node_in root (Err fault) → HamtGet held root key (Err fault)
  root_finds : (node : Node) (answer : Answer) → Names held node_in root (Ok node) → Finds held key 0 root node answer → HamtGet held root key answer

-- ---- what the steps of a look-up answer

-- the node of a CID was read, and this found in it for a key at a slot; or why it was not
abbrev pub FindsEntry : Held → List ℕ → List ℕ → ℕ → Result Found NodeFault → Type 0
FindsEntry held key cid slot (Ok found) = (node : Node) × Names held node_in cid (Ok node) × (found ≡ found_at key slot node)
FindsEntry held key cid slot (Err NodeFault.Fault) = ⊤
FindsEntry held key cid slot (Err NodeFault.NoMemory) = ⊤
FindsEntry held key cid slot (Err fault) = Names held node_in cid (Err fault)

-- what was read for a key at a slot, if there is a node
abbrev pub ReadsEntry : List ℕ → ℕ → Option Node → Option Entry → Type 0
ReadsEntry key slot node None = node ≡ None
ReadsEntry key slot node (Some entry) = (n : Node) × (node ≡ Some n) × (found_of entry ≡ found_at key slot n)

-- A cursor passed n entries of a bucket, and the answer is the value of the first with a key.
pub record Seeks (key : List ℕ) (n : ℕ) (old new : Position) (answer : Option (Option (Bor (List ℕ)))) : Type 0 where
  pub value : MatchOption answer (many_from entry_from n old.end old.rest ≡ None)
      (λ found. (entries : List (List ℕ × List ℕ)) × (many_from entry_from n old.end old.rest ≡ Some (entries, new.rest)) × (option_copied found ≡ value_of key entries))
  pub end : new.end ≡ old.end

-- A cursor passed n pointers, and the answer is what the one at an index has for a key, if there are so many.
pub record PicksPointer (key : List ℕ) (n index : ℕ) (old new : Position) (answer : Option (Option Entry)) : Type 0 where
  pub value : MatchOption answer (many_from pointer_from n old.end old.rest ≡ None)
      (λ picked. (pointers : List Pointer) × (many_from pointer_from n old.end old.rest ≡ Some (pointers, new.rest)) × (option_map found_of picked ≡ option_map (found_by key) (slice_get pointers index)))
  pub end : new.end ≡ old.end

-- what was read of a pointer for a key
pub record ReadsPointer (key : List ℕ) (old new : Position) (answer : Option Entry) : Type 0 where
  pub value : MatchOption answer (pointer_from old.end old.rest ≡ None) (λ entry. (pointer : Pointer) × (pointer_from old.end old.rest ≡ Some (pointer, new.rest)) × (found_of entry ≡ found_by key pointer))
  pub end : new.end ≡ old.end
