-- An index has one answer, where the blocks are exposed.
use Rattle.std.proofs.Common.{◌≡◌, ℕ, suc, ◌<◌, ◌≤◌, ◌+◌, ◌*◌, ◌^◌, List, ◌++◌, Option, Some, Result, Ok, Err, refl, sym, ap, ◌∙◌, subst, arith}
use Rattle.std.proofs.lemmas.Option.{none-some}
use Rattle.ss_cid.specs.Maps.{Kept}
use Rattle.ss_node.specs.Blocks.{Held, Names}
use Rattle.ss_node.specs.declared.fault.NodeFault.{NodeFault}
use Rattle.ss_node.proofs.Naming.{names-one}
use Rattle.ss_node.proofs.Members.{Some-same, Ok-same, Err-same, Ok-Err}
use Rattle.ss_amt.specs.Node.{Node, root_in}
use Rattle.ss_amt.specs.Paths.{Answer, AmtGet, Finds, leaf, vacant, no_child, child_finds, no_root, past, within}
use Rattle.ss_amt.specs.Walks.{Pair, before, children_of, values_of, Walks, AmtValues, done, stuck, opened, no_root as no_tree, root_walks}
use Rattle.ss_amt.specs.declared.shape.Shape.{Shape}
use Rattle.ss_amt.specs.declared.listing.Pending.{Pending}

module _ (held : Held) (kept : Kept) (exposed : held.told ≡ Some kept) (width index : ℕ) where
  one_child : {N : Type 0} (read : List ℕ → Option N) (child other : List ℕ) (a b : Result N NodeFault) (o : Option (List ℕ)) → o ≡ Some child → o ≡ Some other → Names held read child a → Names held read other b → a ≡ b
  one_child read child other a b o e f p q =
      let same : child ≡ other = Some-same child other (sym e ∙ f) in
      names-one held kept exposed read other (subst (λ c. Names held read c a) same p) q

  pub finds-one : {height : ℕ} {node : Node} {a b : Answer} → Finds held width index height node a → Finds held width index height node b → a ≡ b
  finds-one leaf leaf = refl
  finds-one (vacant e) (vacant f) = refl
  finds-one (vacant e) (no_child c x f q) = absurd (none-some c (sym e ∙ f))
  finds-one (vacant e) (child_finds c n f q r) = absurd (none-some c (sym e ∙ f))
  finds-one (no_child c x e p) (vacant f) = absurd (none-some c (sym f ∙ e))
  finds-one (no_child c x e p) (no_child d y f q) = ap Err (Err-same x y (one_child _ c d (Err x) (Err y) _ e f p q))
  finds-one (no_child c x e p) (child_finds d n f q r) = absurd (Ok-Err n x (sym (one_child _ c d (Err x) (Ok n) _ e f p q)))
  finds-one (child_finds c n e p r) (vacant f) = absurd (none-some c (sym f ∙ e))
  finds-one (child_finds c n e p r) (no_child d y f q) = absurd (Ok-Err n y (one_child _ c d (Ok n) (Err y) _ e f p q))
  finds-one {height = suc height} {a = a} (child_finds c n e p r) (child_finds d m f q s) =
      let same : n ≡ m = Ok-same n m (one_child _ c d (Ok n) (Ok m) _ e f p q) in
      finds-one (subst (λ x. Finds held width index height x a) same r) s

module _ (held : Held) (kept : Kept) (exposed : held.told ≡ Some kept) (root : List ℕ) (index : ℕ) where
  one_root : {a b : Result (Shape × Node) NodeFault} → Names held root_in root a → Names held root_in root b → a ≡ b
  one_root p q = names-one held kept exposed root_in root p q

  -- an index is not both past the slots and within
  apart : (x y : Shape × Node) → x ≡ y → 2 ^ (x.0.width * (x.0.height + 1)) ≤ index → index < 2 ^ (y.0.width * (y.0.height + 1)) → ⊥
  apart x y same le lt = let h : index < 2 ^ (x.0.width * (x.0.height + 1)) = rw same lt in omega arith

  from_same : (x y : Shape × Node) (a b : Answer) → x ≡ y → Finds held x.0.width index x.0.height x.1 a → Finds held y.0.width index y.0.height y.1 b → a ≡ b
  from_same x y a b same p q = finds-one held kept exposed y.0.width index (subst (λ (z : Shape × Node). Finds held z.0.width index z.0.height z.1 a) same p) q

  pub answers-one : {a b : Answer} → AmtGet held root index a → AmtGet held root index b → a ≡ b
  answers-one (no_root x p) (no_root y q) = ap Err (Err-same x y (one_root p q))
  answers-one (no_root x p) (past s n q lt) = absurd (Ok-Err _ x (sym (one_root p q)))
  answers-one (no_root x p) (within s n b q lt r) = absurd (Ok-Err _ x (sym (one_root p q)))
  answers-one (past s n p le) (no_root y q) = absurd (Ok-Err _ y (one_root p q))
  answers-one (past s n p le) (past t m q lt) = refl
  answers-one (past s n p le) (within t m b q lt r) = absurd (apart (s, n) (t, m) (Ok-same (s, n) (t, m) (one_root p q)) le lt)
  answers-one (within s n a p lt r) (no_root y q) = absurd (Ok-Err _ y (one_root p q))
  answers-one (within s n a p lt r) (past t m q le) = absurd (apart (t, m) (s, n) (Ok-same (t, m) (s, n) (one_root q p)) le lt)
  answers-one (within s n a p lt r) (within t m b q gt u) = from_same (s, n) (t, m) a b (Ok-same (s, n) (t, m) (one_root p q)) r u

-- ---- a tree has one walk

module _ (held : Held) (kept : Kept) (exposed : held.told ≡ Some kept) (width : ℕ) where
  pub walks-one : {pending : List Pending} {a b : Result (List Pair) NodeFault} → Walks held width pending a → Walks held width pending b → a ≡ b
  walks-one done done = refl
  walks-one (stuck p x h) (stuck q y i) = ap Err (Err-same x y (names-one held kept exposed _ _ h i))
  walks-one (stuck p x h) (opened q n b i w) = absurd (Ok-Err n x (sym (names-one held kept exposed _ _ h i)))
  walks-one (opened p n a h v) (stuck q y i) = absurd (Ok-Err n y (names-one held kept exposed _ _ h i))
  walks-one (opened {others = others} p n a h v) (opened q m b i w) =
      let same : n ≡ m = Ok-same n m (names-one held kept exposed _ _ h i) in
      let rest = walks-one (subst (λ (x : Node). Walks held width (children_of width p.height p.first x ++ others) a) same v) w in
      ap (before (values_of width p.first n)) rest ∙ ap (λ (x : Node). before (values_of width p.first x) b) same

module _ (held : Held) (kept : Kept) (exposed : held.told ≡ Some kept) (root : List ℕ) where
  values_from : (x y : Shape × Node) (a b : Result (List Pair) NodeFault) → x ≡ y → Walks held x.0.width (children_of x.0.width x.0.height 0 x.1) a → Walks held y.0.width (children_of y.0.width y.0.height 0 y.1) b →
      before (values_of x.0.width 0 x.1) a ≡ before (values_of y.0.width 0 y.1) b
  values_from x y a b same v w =
      let rest = walks-one held kept exposed y.0.width (subst (λ (z : Shape × Node). Walks held z.0.width (children_of z.0.width z.0.height 0 z.1) a) same v) w in
      ap (λ (z : Shape × Node). before (values_of z.0.width 0 z.1) a) same ∙ ap (before (values_of y.0.width 0 y.1)) rest

  pub values-one : {a b : Result (List Pair) NodeFault} → AmtValues held root a → AmtValues held root b → a ≡ b
  values-one (no_tree x p) (no_tree y q) = ap Err (Err-same x y (names-one held kept exposed root_in root p q))
  values-one (no_tree x p) (root_walks s n b q w) = absurd (Ok-Err _ x (sym (names-one held kept exposed root_in root p q)))
  values-one (root_walks s n a p v) (no_tree y q) = absurd (Ok-Err _ y (names-one held kept exposed root_in root p q))
  values-one (root_walks s n a p v) (root_walks t m b q w) = values_from (s, n) (t, m) a b (Ok-same (s, n) (t, m) (names-one held kept exposed root_in root p q)) v w
