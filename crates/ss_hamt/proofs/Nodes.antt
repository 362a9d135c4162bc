-- Reading a node from left to right.
use Rattle.std.proofs.Common.{◌≡◌, ℕ, true, false, cond, eqb, ◌&&◌, List, length, Option, Some, None, option_map, refl, sym, ap, ◌∙◌, slice_get}
use Rattle.std.specs.Prelude.{count_ones}
use Rattle.std.specs.Int.{bit_at}
use Rattle.ss_cbor.specs.{Position.{Position, Takes, start_of}, Reading.{count_from, blob_from}}
use Rattle.ss_node.specs.Rows.{many_from, array_from}
use Rattle.ss_node.proofs.Rows.{many-length}
use Rattle.ss_hamt.specs.Slots.{is_bitfield, bits_of, ones_below}
use Rattle.ss_hamt.specs.Node.{Node, Pointer, pointer_from, node_from, node_in, found_by, found_or_none, found_at, found_of}
use Rattle.ss_hamt.specs.declared.found.Found.{Found}
use Rattle.ss_hamt.specs.declared.pointer.Entry.{Entry}
use Rattle.ss_hamt.proofs.Buckets.{same_number}

-- what was read of a node, before its count and the end of the input were tested
pub record IsRead (old new : Position) (node : Node) (count : ℕ) : Type 0 where
  pub same : node_from old.end old.rest ≡ cond (eqb count (count_ones node.bits) && eqb (length new.rest) 0) (Some node) None

pub read-parts : {X : Type 0} (view : X → List ℕ) (parts bits count : ℕ) (field : X) (pointers : List Pointer) (p0 p1 p2 p3 p4 : Position) →
    Takes same_number count_from p0 p1 (Some parts) → parts ≡ 2 → Takes view blob_from p1 p2 (Some field) → is_bitfield (view field) ≡ true → bits ≡ bits_of (view field) →
    Takes same_number count_from p2 p3 (Some count) → many_from pointer_from count p3.end p3.rest ≡ Some (pointers, p4.rest) →
    IsRead p0 p4 (record { bits = bits; pointers = pointers }) count
unfolding node_from array_from
read-parts view parts bits count field pointers p0 p1 p2 p3 p4 h0 two h1 short is h2 h3 =
    let e1 : p1.end ≡ p0.end = h0.end in
    let e2 : p2.end ≡ p0.end = h1.end ∙ e1 in
    let e3 : p3.end ≡ p0.end = h2.end ∙ e2 in
    let blob = ap (λ e. blob_from e p1.rest) (sym e1) ∙ h1.value in
    let head = ap (λ e. count_from e p2.rest) (sym e2) ∙ h2.value in
    let row = ap (λ e. many_from pointer_from count e p3.rest) (sym e3) ∙ h3 in
    let n = many-length pointer_from count p3.end p3.rest pointers p4.rest h3 in
    record { same = rw (h0.value, blob, head, row, two, short, n, ← is) refl }

module _ (old new : Position) (node : Node) (count : ℕ) (read : IsRead old new node count) where
  pub node-miscounted : eqb count (count_ones node.bits) ≡ false → node_from old.end old.rest ≡ None
  node-miscounted h = read.same ∙ rw h refl

  pub node-unended : eqb count (count_ones node.bits) ≡ true → eqb (length new.rest) 0 ≡ false → node_from old.end old.rest ≡ None
  node-unended h e = read.same ∙ rw (h, e) refl

  pub node-whole : eqb count (count_ones node.bits) ≡ true → eqb (length new.rest) 0 ≡ true → node_from old.end old.rest ≡ Some node
  node-whole h e = read.same ∙ rw (h, e) refl

-- ---- what a node has at a slot that is taken, and at one that is not

pub found-set : (key : List ℕ) (slot index : ℕ) (node : Node) (picked : Option Entry) → index ≡ ones_below node.bits slot → eqb (bit_at node.bits slot) 1 ≡ true →
    option_map found_of picked ≡ option_map (found_by key) (slice_get node.pointers index) → found_or_none (option_map found_of picked) ≡ found_at key slot node
found-set key slot index node picked at is here = rw is (ap found_or_none (here ∙ ap (λ i. option_map (found_by key) (slice_get node.pointers i)) at))

pub found-clear : (key : List ℕ) (slot : ℕ) (node : Node) → eqb (bit_at node.bits slot) 1 ≡ false → Found.Value None ≡ found_at key slot node
found-clear key slot node is = rw is refl

pub node-here : (start : Position) (bytes block : List ℕ) → start ≡ start_of bytes → bytes ≡ block → node_from start.end start.rest ≡ node_in block
node-here start bytes block at is = rw (at, is) refl
