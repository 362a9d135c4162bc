-- Nodes of an AMT, an array with gaps kept as a tree, after Filecoin's form. A root is the array [width, height, count, node], or
-- [height, count, node] with width 3. A node is an array of a bitmap, of links and of values. `end` is the length of the whole input.
use Rattle.std.specs.Prelude.{◌≡◌, ℕ, ◌+◌, ◌*◌, ◌/◌, ◌%◌, ◌^◌, max, nat_le, ◌==◌, ◌&&◌, if◌then◌else◌, Bool, List, length, Option, Some, None, option_copied}
use Rattle.ss_cbor.specs.{Options.{◌>>=◌}, Reading.{count_from, number_from, link_from, blob_from}}
use Rattle.ss_chain.specs.HeaderReading.{item_from}
use Rattle.ss_node.specs.{Rows.array_from, Bits.{ones_below, at_slot}}
use Rattle.ss_amt.specs.declared.shape.Shape.{Shape}
use Rattle.ss_amt.specs.declared.node.Entry.{Entry}

-- which slots of a node are taken, and for each of these, in order, the link of a child or a value
pub record Node : Type 0 where
  pub bits : List ℕ
  pub links : List (List ℕ)
  pub values : List (List ℕ)

-- A node has 2 ^ width slots, and those of a whole tree are numbered by less than 64 bits.
abbrev pub is_shape : ℕ → ℕ → Bool
is_shape width height = nat_le 1 width && nat_le width 18 && nat_le (width * (height + 1)) 63

-- a bitmap of 2 ^ width bits, in one byte at least, of which the unused bits are zero
abbrev pub is_bitmap : ℕ → List ℕ → Bool
is_bitmap width bits = (length bits == max 1 (2 ^ width / 8)) && (ones_below bits (8 * length bits) == ones_below bits (2 ^ width))

-- at height 0 there is one value for each slot that is taken, and no link; above there is one link for each, and no value
abbrev pub has_counts : ℕ → ℕ → ℕ → ℕ → Bool
has_counts height taken links values = if height == 0 then (links == 0) && (values == taken) else (links == taken) && (values == 0)

-- the node of a height that the bytes are, to their end
unfoldable pub node_from : ℕ → ℕ → ℕ → List ℕ → Option Node
node_from width height end bytes = do
  parts ← count_from end bytes
  bits ← blob_from end parts.1
  links ← array_from link_from end bits.1
  values ← array_from item_from end links.1
  let taken = ones_below bits.0 (2 ^ width) in
      if (parts.0 == 3) && is_bitmap width bits.0 && has_counts height taken (length links.0) (length values.0) && (length values.1 == 0)
      then Some (record { bits = bits.0; links = links.0; values = values.0 }) else None

-- the shape of a tree of this width, from its height and its count, which is not compared, and what follows
unfoldable pub shape_from : ℕ → ℕ → List ℕ → Option (Shape × List ℕ)
shape_from width end bytes = do
  height ← number_from end bytes
  count ← number_from end height.1
  if is_shape width height.0 then Some (record { width = width; height = height.0 }, count.1) else None

-- the shape that a root begins with
unfoldable pub root_shape_from : ℕ → List ℕ → Option (Shape × List ℕ)
root_shape_from end bytes = do
  parts ← count_from end bytes
  if parts.0 == 3 then shape_from 3 end parts.1
      else if parts.0 == 4 then (number_from end parts.1 >>= λ width. shape_from width.0 end width.1)
      else None

-- the node that a block is
abbrev pub node_in : ℕ → ℕ → List ℕ → Option Node
node_in width height block = node_from width height (length block) block

-- the root that a block is: its shape and its node
unfoldable pub root_in : List ℕ → Option (Shape × Node)
root_in block = do
  shape ← root_shape_from (length block) block
  node ← node_from shape.0.width shape.0.height (length block) shape.1
  Some (shape.0, node)

-- the slot of an index in a node of a height
abbrev pub slot_of : ℕ → ℕ → ℕ → ℕ
slot_of width height index = index / 2 ^ (width * height) % 2 ^ width

-- what a node has at a slot
pub record HasEntry (slot : ℕ) (node : Node) (link value : Option (List ℕ)) : Type 0 where
  pub link_is : link ≡ at_slot node.bits node.links slot
  pub value_is : value ≡ at_slot node.bits node.values slot

-- what was read at a slot, if there is a node
abbrev pub ReadsEntry : ℕ → Option Node → Option Entry → Type 0
ReadsEntry slot node None = node ≡ None
ReadsEntry slot node (Some entry) = (n : Node) × (node ≡ Some n) × HasEntry slot n entry.link (option_copied entry.value)
