-- Reading a node from left to right.
use Rattle.std.proofs.Common.{◌≡◌, ℕ, suc, ◌<◌, ◌^◌, Bool, true, false, cond, eqb, ◌&&◌, List, [], ◌∷◌, length, Option, Some, None, option_map, refl, sym, ap, ◌∙◌, subst, slice_get, ne_eqb, eqb-true, Bor, arith}
use Rattle.std.specs.Prelude.{option_copied}
use Rattle.std.proofs.lemmas.Option.{some_pair_parts, cond_some}
use Rattle.ss_cbor.specs.{Options.{◌>>=◌}, Position.{Position, Takes, Reads, start_of}, Reading.{count_from, blob_from, link_from}}
use Rattle.ss_chain.specs.HeaderReading.{item_from}
use Rattle.ss_node.specs.Rows.{many_from, array_from}
use Rattle.ss_node.specs.Bits.{is_set, ones_below}
use Rattle.ss_node.proofs.Rows.{many-length, bind-Some}
use Rattle.ss_amt.specs.Node.{Node, is_bitmap, has_counts, node_from, node_in, root_in, root_shape_from, HasEntry}
use Rattle.ss_amt.specs.declared.shape.Shape.{Shape}

-- what was read of a node, before its counts and the end of the input were tested
pub record IsRead (width height : ℕ) (old new : Position) (node : Node) (links values : ℕ) : Type 0 where
  pub link_count : length node.links ≡ links
  pub value_count : length node.values ≡ values
  pub same : node_from width height old.end old.rest ≡ cond (has_counts height (ones_below node.bits (2 ^ width)) links values && eqb (length new.rest) 0) (Some node) None

abbrev number : ℕ → ℕ
number n = n

pub read-parts : {X : Type 0} (view : X → List ℕ) (width height parts links values : ℕ) (bits : X) (ls vs : List (List ℕ)) (p0 p1 p2 p3 p4 p5 p6 : Position) →
    Takes number count_from p0 p1 (Some parts) → parts ≡ 3 → Takes view blob_from p1 p2 (Some bits) → is_bitmap width (view bits) ≡ true →
    Takes number count_from p2 p3 (Some links) → many_from link_from links p3.end p3.rest ≡ Some (ls, p4.rest) → p4.end ≡ p3.end →
    Takes number count_from p4 p5 (Some values) → many_from item_from values p5.end p5.rest ≡ Some (vs, p6.rest) →
    IsRead width height p0 p6 (record { bits = view bits; links = ls; values = vs }) links values
unfolding node_from array_from
read-parts view width height parts links values bits ls vs p0 p1 p2 p3 p4 p5 p6 h0 three h1 bitmap h2 h3 e4 h4 h5 =
    let e1 : p1.end ≡ p0.end = h0.end in
    let e2 : p2.end ≡ p0.end = h1.end ∙ e1 in
    let e3 : p3.end ≡ p0.end = h2.end ∙ e2 in
    let e5 : p4.end ≡ p0.end = e4 ∙ e3 in
    let e6 : p5.end ≡ p0.end = h4.end ∙ e5 in
    let blob = ap (λ e. blob_from e p1.rest) (sym e1) ∙ h1.value in
    let count = ap (λ e. count_from e p2.rest) (sym e2) ∙ h2.value in
    let row = ap (λ e. many_from link_from links e p3.rest) (sym e3) ∙ h3 in
    let second = ap (λ e. count_from e p4.rest) (sym e5) ∙ h4.value in
    let items = ap (λ e. many_from item_from values e p5.rest) (sym e6) ∙ h5 in
    let n = many-length link_from links p3.end p3.rest ls p4.rest h3 in
    let m = many-length item_from values p5.end p5.rest vs p6.rest h5 in
    record { link_count = n; value_count = m; same = rw (h0.value, blob, count, row, second, items, three, bitmap, n, m) refl }

module _ (width height : ℕ) (old new : Position) (node : Node) (links values : ℕ) (read : IsRead width height old new node links values) where
  pub node-miscounted : has_counts height (ones_below node.bits (2 ^ width)) links values ≡ false → node_from width height old.end old.rest ≡ None
  node-miscounted h = read.same ∙ rw h refl

  pub node-unended : has_counts height (ones_below node.bits (2 ^ width)) links values ≡ true → eqb (length new.rest) 0 ≡ false → node_from width height old.end old.rest ≡ None
  node-unended h e = read.same ∙ rw (h, e) refl

  pub node-whole : has_counts height (ones_below node.bits (2 ^ width)) links values ≡ true → eqb (length new.rest) 0 ≡ true → node_from width height old.end old.rest ≡ Some node
  node-whole h e = read.same ∙ rw (h, e) refl

-- what was picked, as contracts see it
pub picked-link : (o : Option (List ℕ)) → o ≡ option_map (λ (cid : List ℕ). cid) o
picked-link None = refl
picked-link (Some cid) = refl

pub picked-value : (o : Option (Bor (List ℕ))) → option_copied o ≡ option_map (λ (item : Bor (List ℕ)). item.now) o
picked-value None = refl
picked-value (Some item) = refl

-- the entry of a slot that is taken, and of one that is not
pub entry-set : (slot index : ℕ) (node : Node) (link value : Option (List ℕ)) → index ≡ ones_below node.bits slot → is_set node.bits slot ≡ true →
    link ≡ slice_get node.links index → value ≡ slice_get node.values index → HasEntry slot node link value
entry-set slot index node link value at is l v = record { link_is = rw is (l ∙ ap (slice_get node.links) at); value_is = rw is (v ∙ ap (slice_get node.values) at) }

pub entry-clear : (slot : ℕ) (node : Node) → is_set node.bits slot ≡ false → HasEntry slot node None None
entry-clear slot node is = record { link_is = rw is refl; value_is = rw is refl }

-- ---- a node, and a root, from the start of a block

pub node-here : (width height : ℕ) (start : Position) (bytes block : List ℕ) → start ≡ start_of bytes → bytes ≡ block → node_from width height start.end start.rest ≡ node_in width height block
node-here width height start bytes block at is = rw (at, is) refl

pub root-shapeless : (start next : Position) (bytes block : List ℕ) → start ≡ start_of bytes → bytes ≡ block → Reads {X = Shape} (λ shape. shape) root_shape_from start next None → root_in block ≡ None
unfolding root_in
root-shapeless start next bytes block at is reads =
    let none : root_shape_from (length block) block ≡ None = subst (λ (p : Position). root_shape_from p.end p.rest ≡ None) (at ∙ ap start_of is) reads.value in
    rw none refl

pub root-here : (start next : Position) (bytes block : List ℕ) (shape : Shape) → start ≡ start_of bytes → bytes ≡ block → Reads {X = Shape} (λ shape. shape) root_shape_from start next (Some shape) →
    root_in block ≡ (node_from shape.width shape.height next.end next.rest >>= λ node. Some (shape, node))
unfolding root_in
root-here start next bytes block shape at is reads =
    let some : root_shape_from (length block) block ≡ Some (shape, next.rest) = subst (λ (p : Position). root_shape_from p.end p.rest ≡ Some (shape, next.rest)) (at ∙ ap start_of is) reads.value in
    let end : next.end ≡ length block = reads.end ∙ ap (λ (p : Position). p.end) (at ∙ ap start_of is) in
    rw (some, end) refl

-- ---- a node whose counts do not fit is none, whatever follows

-- what the test of a node that was read to its end gives
abbrev judged : ℕ → ℕ → List ℕ → List (List ℕ) → List (List ℕ) × List ℕ → Option Node
judged width height bits links values =
    cond (has_counts height (ones_below bits (2 ^ width)) (length links) (length values.0) && eqb (length values.1) 0) (Some (record { bits = bits; links = links; values = values.0 })) None

module _ (width height end : ℕ) (bits : List ℕ) (links : List (List ℕ)) where
  after_row : (n : ℕ) (bytes : List ℕ) (row : Option (List (List ℕ) × List ℕ)) → many_from item_from n end bytes ≡ row → has_counts height (ones_below bits (2 ^ width)) (length links) n ≡ false →
      (row >>= judged width height bits links) ≡ None
  after_row n bytes None e h = refl
  after_row n bytes (Some values) e h =
      let count : length values.0 ≡ n = many-length item_from n end bytes values.0 values.1 e in
      rw (count, h) refl

  after_count : (count : Option (ℕ × List ℕ)) → ((n : ℕ) (rest : List ℕ) → count ≡ Some (n, rest) → has_counts height (ones_below bits (2 ^ width)) (length links) n ≡ false) →
      ((count >>= λ c. many_from item_from c.0 end c.1) >>= judged width height bits links) ≡ None
  after_count None h = refl
  after_count (Some c) h = after_row c.0 c.1 (many_from item_from c.0 end c.1) refl (h c.0 c.1 refl)

-- the same from the links on
after_links : (width height end n : ℕ) (bits bytes : List ℕ) (row : Option (List (List ℕ) × List ℕ)) → many_from link_from n end bytes ≡ row →
    ((links : List (List ℕ)) (rest after : List ℕ) (count : ℕ) → row ≡ Some (links, rest) → count_from end rest ≡ Some (count, after) → has_counts height (ones_below bits (2 ^ width)) n count ≡ false) →
    (row >>= λ links. (count_from end links.1 >>= λ c. many_from item_from c.0 end c.1) >>= judged width height bits links.0) ≡ None
after_links width height end n bits bytes None e h = refl
after_links width height end n bits bytes (Some links) e h =
    let count : n ≡ length links.0 = sym (many-length link_from n end bytes links.0 links.1 e) in
    after_count width height end bits links.0 (count_from end links.1) (λ m rest f. ap (λ k. has_counts height (ones_below bits (2 ^ width)) k m) (sym count) ∙ h links.0 links.1 rest m refl f)

pub node-never : {X : Type 0} (view : X → List ℕ) (width height parts links : ℕ) (bits : X) (p0 p1 p2 p3 : Position) →
    Takes number count_from p0 p1 (Some parts) → parts ≡ 3 → Takes view blob_from p1 p2 (Some bits) → is_bitmap width (view bits) ≡ true → Takes number count_from p2 p3 (Some links) →
    ((row : List (List ℕ)) (rest after : List ℕ) (count : ℕ) → many_from link_from links p3.end p3.rest ≡ Some (row, rest) → count_from p3.end rest ≡ Some (count, after) →
    has_counts height (ones_below (view bits) (2 ^ width)) links count ≡ false) →
    node_from width height p0.end p0.rest ≡ None
unfolding node_from array_from
node-never view width height parts links bits p0 p1 p2 p3 h0 three h1 bitmap h2 never =
    let e1 : p1.end ≡ p0.end = h0.end in
    let e2 : p2.end ≡ p0.end = h1.end ∙ e1 in
    let e3 : p3.end ≡ p0.end = h2.end ∙ e2 in
    let blob = ap (λ e. blob_from e p1.rest) (sym e1) ∙ h1.value in
    let count = ap (λ e. count_from e p2.rest) (sym e2) ∙ h2.value in
    rw (h0.value, blob, count, three, bitmap) (after_links width height p0.end links (view bits) p3.rest (many_from link_from links p0.end p3.rest) refl
    (λ row rest after n e f. never row rest after n (ap (λ x. many_from link_from links x p3.rest) e3 ∙ e) (ap (λ x. count_from x rest) e3 ∙ f)))

pub too-many : (height taken links count : ℕ) → taken < links → has_counts height taken links count ≡ false
too-many height taken links count lt = by_height (eqb height 0)
  where
    by_height : (b : Bool) → cond b (eqb links 0 && eqb count taken) (eqb links taken && eqb count 0) ≡ false
    by_height true = rw (ne_eqb links 0 (λ e. absurd (omega arith))) refl
    by_height false = rw (ne_eqb links taken (λ e. absurd (omega arith))) refl

-- of two readings of a count
pub count-same : (end m n : ℕ) (bytes a b : List ℕ) → count_from end bytes ≡ Some (m, a) → count_from end bytes ≡ Some (n, b) → m ≡ n
count-same end m n bytes a b e f = (some_pair_parts m n a b (sym e ∙ f)).0

pub rest-same : {Y : Type 0} (one : ℕ → List ℕ → Option (Y × List ℕ)) (n end : ℕ) (bytes : List ℕ) (x y : List Y) (a b : List ℕ) → many_from one n end bytes ≡ Some (x, a) → many_from one n end bytes ≡ Some (y, b) → a ≡ b
rest-same one n end bytes x y a b e f = (some_pair_parts x y a b (sym e ∙ f)).1

-- ---- a node at height 0 has no links

both : (a b : Bool) → (a && b) ≡ true → (a ≡ true) × (b ≡ true)
both true b h = (refl, h)
both false b h = absurd (cc)

no-links : (links : List (List ℕ)) → length links ≡ 0 → links ≡ []
no-links [] h = refl
no-links (link ∷ links) h = absurd (omega (arith, h))

pub node-flat : (width end : ℕ) (bytes : List ℕ) (n : Node) → node_from width 0 end bytes ≡ Some n → n.links ≡ []
unfolding node_from
node-flat width end bytes n h =
    let parts = bind-Some (count_from end bytes) _ n h in
    let bits = bind-Some (blob_from end parts.0.1) _ n parts.2 in
    let links = bind-Some (array_from link_from end bits.0.1) _ n bits.2 in
    let values = bind-Some (array_from item_from end links.0.1) _ n links.2 in
    let whole = cond_some _ _ n values.2 in
    let counts = both _ (eqb (length values.0.1) 0) whole.0 in
    let fits = both _ (has_counts 0 (ones_below bits.0.0 (2 ^ width)) (length links.0.0) (length values.0.0)) counts.0 in
    let none = both (eqb (length links.0.0) 0) _ fits.1 in
    ap (λ (m : Node). m.links) (sym whole.1) ∙ no-links links.0.0 (eqb-true (length links.0.0) 0 none.0)

-- the node of a root
pub root-node : (block : List ℕ) (shape : Shape) (n : Node) → root_in block ≡ Some (shape, n) → (rest : List ℕ) × (node_from shape.width shape.height (length block) rest ≡ Some n)
unfolding root_in
root-node block shape n h =
    let head = bind-Some (root_shape_from (length block) block) _ (shape, n) h in
    let body = bind-Some (node_from head.0.0.width head.0.0.height (length block) head.0.1) _ (shape, n) head.2 in
    let same = some_pair_parts head.0.0 shape body.0 n body.2 in
    (head.0.1, subst (λ (s : Shape). node_from s.width s.height (length block) head.0.1 ≡ Some n) same.0 (body.1 ∙ ap Some same.1))

-- above height 0 a node has no values
pub node-tall : (width height end : ℕ) (bytes : List ℕ) (n : Node) → node_from width (suc height) end bytes ≡ Some n → n.values ≡ []
unfolding node_from
node-tall width height end bytes n h =
    let parts = bind-Some (count_from end bytes) _ n h in
    let bits = bind-Some (blob_from end parts.0.1) _ n parts.2 in
    let links = bind-Some (array_from link_from end bits.0.1) _ n bits.2 in
    let values = bind-Some (array_from item_from end links.0.1) _ n links.2 in
    let whole = cond_some _ _ n values.2 in
    let counts = both _ (eqb (length values.0.1) 0) whole.0 in
    let fits = both _ (has_counts (suc height) (ones_below bits.0.0 (2 ^ width)) (length links.0.0) (length values.0.0)) counts.0 in
    let above : eqb (suc height) 0 ≡ false = ne_eqb (suc height) 0 (λ e. absurd (omega (arith, e))) in
    let tall : (eqb (length links.0.0) (ones_below bits.0.0 (2 ^ width)) && eqb (length values.0.0) 0) ≡ true =
    sym (ap (λ b. cond b (eqb (length links.0.0) 0 && eqb (length values.0.0) (ones_below bits.0.0 (2 ^ width))) (eqb (length links.0.0) (ones_below bits.0.0 (2 ^ width)) && eqb (length values.0.0) 0)) above) ∙ fits.1 in
    let none = both (eqb (length links.0.0) (ones_below bits.0.0 (2 ^ width))) (eqb (length values.0.0) 0) tall in
    ap (λ (m : Node). m.values) (sym whole.1) ∙ no-links values.0.0 (eqb-true (length values.0.0) 0 none.1)
