-- What a CID names, from what was found under it.
use Rattle.std.proofs.Common.{◌≡◌, ℕ, true, false, List, Option, Some, Result, Ok, Err, refl, sym, ap, ◌∙◌, subst}
use Rattle.std.proofs.lemmas.Option.{none-some}
use Rattle.ss_cid.specs.Maps.{Kept}
use Rattle.ss_node.specs.Blocks.{Held, IsBlock, FindsBlock, Names, node, bad, missing, foreign, Answers}
use Rattle.ss_node.specs.declared.fault.NodeFault.{NodeFault}

-- a block was not found, for this reason
pub names-not_found : {N : Type 0} (held : Held) (read : List ℕ → Option N) (cid : List ℕ) (fault : NodeFault) → FindsBlock held cid (Err fault) →
    Answers (Names held read cid) (Err fault)
names-not_found {N} held read cid (NodeFault.Missing c) h = subst (λ x. Names {N = N} held read cid (Err (NodeFault.Missing x))) (sym h.0) (missing h.1 h.2)
names-not_found {N} held read cid (NodeFault.BadNode c) h = subst (λ x. Names {N = N} held read cid (Err (NodeFault.BadNode x))) (sym h.0) (foreign h.1)
names-not_found held read cid NodeFault.Fault h = tt
names-not_found held read cid NodeFault.NoMemory h = tt

-- ---- a CID names one node, where the blocks are exposed

true≢false : true ≡ false → ⊥
true≢false h = cc

Some-same : {A : Type 0} (x y : A) → Some x ≡ Some y → x ≡ y
Some-same x y h = cc

module _ {N : Type 0} (held : Held) (kept : Kept) (exposed : held.told ≡ Some kept) (read : List ℕ → Option N) (cid : List ℕ) where
  same_read : (a b : List ℕ) → IsBlock held cid a → IsBlock held cid b → read a ≡ read b
  same_read a b p q = ap read (Some-same a b (sym (p.told kept exposed) ∙ q.told kept exposed))

  pub names-one : {a b : Result N NodeFault} → Names held read cid a → Names held read cid b → a ≡ b
  names-one (node x n c p r) (node y m d q s) = ap Ok (Some-same n m (sym r ∙ same_read x y p q ∙ s))
  names-one (node x n c p r) (bad y d q s) = absurd (none-some n (sym s ∙ sym (same_read x y p q) ∙ r))
  names-one (node x n c p r) (foreign d) = absurd (d c)
  names-one (node x n c p r) (missing d q) = absurd (true≢false (sym p.known ∙ q))
  names-one (bad x c p r) (node y m d q s) = absurd (none-some m (sym r ∙ same_read x y p q ∙ s))
  names-one (bad x c p r) (bad y d q s) = refl
  names-one (bad x c p r) (foreign d) = refl
  names-one (bad x c p r) (missing d q) = absurd (true≢false (sym p.known ∙ q))
  names-one (foreign c) (node y m d q s) = absurd (c d)
  names-one (foreign c) (bad y d q s) = refl
  names-one (foreign c) (foreign d) = refl
  names-one (foreign c) (missing d q) = absurd (c d)
  names-one (missing c p) (node y m d q s) = absurd (true≢false (sym q.known ∙ p))
  names-one (missing c p) (bad y d q s) = absurd (true≢false (sym q.known ∙ p))
  names-one (missing c p) (foreign d) = absurd (d c)
  names-one (missing c p) (missing d q) = refl
