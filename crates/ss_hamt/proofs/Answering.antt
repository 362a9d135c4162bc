-- A key has one answer, where the blocks are exposed.
use Rattle.std.proofs.Common.{◌≡◌, ℕ, ◌+◌, List, [], ◌∷◌, ◌++◌, Option, Some, Result, Ok, Err, refl, sym, ap, ◌∙◌, subst, arith}
use Rattle.std.proofs.lemmas.Option.{none-some}
use Rattle.ss_cid.specs.Maps.{Kept}
use Rattle.ss_node.specs.Blocks.{Held, Names}
use Rattle.ss_node.specs.declared.fault.NodeFault.{NodeFault}
use Rattle.ss_node.proofs.Naming.{names-one}
use Rattle.ss_node.proofs.Members.{Ok-same, Err-same, Ok-Err}
use Rattle.ss_hamt.specs.Node.{Node, Pointer, link, bucket, node_in, value_of}
use Rattle.ss_hamt.specs.Walks.{Pair, before, parts_of, Walks, done, pair, stuck, opened}
use Rattle.ss_hamt.specs.declared.listing.Pending.{Pending}
use Rattle.ss_hamt.specs.Paths.{Answer, HamtGet, Finds, vacant, in_bucket, too_deep, no_child, child_finds, no_root, root_finds}

bucket-same : (a b : List (List ℕ × List ℕ)) → Some (bucket a) ≡ Some (bucket b) → a ≡ b
bucket-same a b h = cc

link-same : (a b : List ℕ) → Some (link a) ≡ Some (link b) → a ≡ b
link-same a b h = cc

bucket-link : (a : List (List ℕ × List ℕ)) (b : List ℕ) → Some (bucket a) ≡ Some (link b) → ⊥
bucket-link a b h = cc

module _ (held : Held) (kept : Kept) (exposed : held.told ≡ Some kept) (key : List ℕ) where
  one_child : (child other : List ℕ) (a b : Result Node NodeFault) (o : Option Pointer) → o ≡ Some (link child) → o ≡ Some (link other) → Names held node_in child a → Names held node_in other b → a ≡ b
  one_child child other a b o e f p q =
      names-one held kept exposed node_in other (subst (λ c. Names held node_in c a) (link-same child other (sym e ∙ f)) p) q

  pub finds-one : {level : ℕ} {cid : List ℕ} {node : Node} {a b : Answer} → Finds held key level cid node a → Finds held key level cid node b → a ≡ b
  finds-one (vacant e) (vacant f) = refl
  finds-one (vacant e) (in_bucket es f) = absurd (none-some _ (sym e ∙ f))
  finds-one (vacant e) (too_deep c f le) = absurd (none-some _ (sym e ∙ f))
  finds-one (vacant e) (no_child c x f lt q) = absurd (none-some _ (sym e ∙ f))
  finds-one (vacant e) (child_finds c n f lt q r) = absurd (none-some _ (sym e ∙ f))
  finds-one (in_bucket es e) (vacant f) = absurd (none-some _ (sym f ∙ e))
  finds-one (in_bucket es e) (in_bucket fs f) = ap (λ (x : List (List ℕ × List ℕ)). Ok (value_of key x)) (bucket-same es fs (sym e ∙ f))
  finds-one (in_bucket es e) (too_deep c f le) = absurd (bucket-link es c (sym e ∙ f))
  finds-one (in_bucket es e) (no_child c x f lt q) = absurd (bucket-link es c (sym e ∙ f))
  finds-one (in_bucket es e) (child_finds c n f lt q r) = absurd (bucket-link es c (sym e ∙ f))
  finds-one (too_deep c e le) (vacant f) = absurd (none-some _ (sym f ∙ e))
  finds-one (too_deep c e le) (in_bucket fs f) = absurd (bucket-link fs c (sym f ∙ e))
  finds-one (too_deep c e le) (too_deep d f ge) = refl
  finds-one (too_deep c e le) (no_child d x f lt q) = absurd (omega arith)
  finds-one (too_deep c e le) (child_finds d n f lt q r) = absurd (omega arith)
  finds-one (no_child c x e lt p) (vacant f) = absurd (none-some _ (sym f ∙ e))
  finds-one (no_child c x e lt p) (in_bucket fs f) = absurd (bucket-link fs c (sym f ∙ e))
  finds-one (no_child c x e lt p) (too_deep d f le) = absurd (omega arith)
  finds-one (no_child c x e lt p) (no_child d y f gt q) = ap Err (Err-same x y (one_child c d (Err x) (Err y) _ e f p q))
  finds-one (no_child c x e lt p) (child_finds d n f gt q r) = absurd (Ok-Err n x (sym (one_child c d (Err x) (Ok n) _ e f p q)))
  finds-one (child_finds c n e lt p r) (vacant f) = absurd (none-some _ (sym f ∙ e))
  finds-one (child_finds c n e lt p r) (in_bucket fs f) = absurd (bucket-link fs c (sym f ∙ e))
  finds-one (child_finds c n e lt p r) (too_deep d f le) = absurd (omega arith)
  finds-one (child_finds c n e lt p r) (no_child d y f gt q) = absurd (Ok-Err n y (one_child c d (Ok n) (Err y) _ e f p q))
  finds-one {level = level} {a = a} {b = b} (child_finds c n e lt p r) (child_finds d m f gt q s) =
      let same : n ≡ m = Ok-same n m (one_child c d (Ok n) (Ok m) _ e f p q) in
      let there : c ≡ d = link-same c d (sym e ∙ f) in
      finds-one (subst (λ x. Finds held key (level + 1) d x a) same (subst (λ x. Finds held key (level + 1) x n a) there r)) s

  pub answers-one : {root : List ℕ} {a b : Answer} → HamtGet held root key a → HamtGet held root key b → a ≡ b
  answers-one (no_root x p) (no_root y q) = ap Err (Err-same x y (names-one held kept exposed node_in _ p q))
  answers-one (no_root x p) (root_finds n b q r) = absurd (Ok-Err n x (sym (names-one held kept exposed node_in _ p q)))
  answers-one (root_finds n a p r) (no_root y q) = absurd (Ok-Err n y (names-one held kept exposed node_in _ p q))
  answers-one {root = root} {a = a} (root_finds n c p r) (root_finds m b q s) =
      let same : n ≡ m = Ok-same n m (names-one held kept exposed node_in root p q) in
      finds-one (subst (λ x. Finds held key 0 root x a) same r) s

-- ---- a tree has one walk

module _ (held : Held) (kept : Kept) (exposed : held.told ≡ Some kept) where
  pub walks-one : {pending : List Pending} {a b : Result (List Pair) NodeFault} → Walks held pending a → Walks held pending b → a ≡ b
  walks-one done done = refl
  walks-one (pair k v a p) (pair l w b q) = ap (before ((k, v) ∷ [])) (walks-one p q)
  walks-one (stuck c k x h) (stuck d l y i) = ap Err (Err-same x y (names-one held kept exposed _ _ h i))
  walks-one (stuck c k x h) (opened d l n b i w) = absurd (Ok-Err n x (sym (names-one held kept exposed _ _ h i)))
  walks-one (opened c k n a h v) (stuck d l y i) = absurd (Ok-Err n y (names-one held kept exposed _ _ h i))
  walks-one {a = a} (opened {others = others} c k n r h v) (opened d l m s i w) =
      let same : n ≡ m = Ok-same n m (names-one held kept exposed _ _ h i) in
      walks-one (subst (λ (x : Node). Walks held (parts_of k x ++ others) r) same v) w
