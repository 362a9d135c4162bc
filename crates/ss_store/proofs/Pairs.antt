-- Maps from CIDs, to which blocks join and which CIDs leave.
use Rattle.std.proofs.Common.{◌≡◌, ℕ, Bool, true, false, List, [], ◌∷◌, ◌++◌, map, refl, sym, ◌∙◌, ap, subst}
use Rattle.std.specs.Prelude.{Option, Some, None, All, cond, ◌||◌}
use Rattle.std.specs.List.{list_any}
use Rattle.std.specs.Ordering.{nat_cmp, eq_by_cmp, is_eq}
use Rattle.std.specs.declared.cmp.Ordering.{Ordering}
use Rattle.std.specs.declared.cmp.Ordering.TheVariants.{Less, Equal, Greater}
use Rattle.std.specs.Cmp.Lexicographic.{slice_cmp, nat_list_cmp_total}
use Rattle.std.specs.FinMap as finite_map
use Rattle.std.proofs.lemmas.List.Elements.{All-head, All-tail}
use Rattle.ss_store.specs.Places.{CidMap, with_pairs, without_cids}

abbrev same_cid : List ℕ → List ℕ → Bool
same_cid = eq_by_cmp (slice_cmp nat_cmp)

is_equal : (o : Ordering) → is_eq o ≡ true → o ≡ Equal
is_equal Less same = absurd (let differ : ⊥ = cc in differ)
is_equal Equal same = refl
is_equal Greater same = absurd (let differ : ⊥ = cc in differ)

equal_cids : (q c : List ℕ) → same_cid q c ≡ true → q ≡ c
equal_cids q c same = finite_map.slice_cmp-IsAntisymmetric finite_map.nat_cmp-IsAntisymmetric q c (is_equal (slice_cmp nat_cmp q c) same)

module _ {X : Type 0} where
  -- one more
  pub with_pairs-push : (held : CidMap X) (ps : List (List ℕ × X)) (p : List ℕ × X) → with_pairs held (ps ++ p ∷ []) ≡ finite_map.insert (with_pairs held ps) p.0 p.1
  with_pairs-push held [] p = refl
  with_pairs-push held (q ∷ ps) p = with_pairs-push (finite_map.insert held q.0 q.1) ps p

  pub without_cids-push : (held : CidMap X) (cs : List (List ℕ)) (c : List ℕ) → without_cids held (cs ++ c ∷ []) ≡ finite_map.remove (without_cids held cs) c
  without_cids-push held [] c = refl
  without_cids-push held (d ∷ cs) c = without_cids-push (finite_map.remove held d) cs c

  -- what holds of each value and its CID
  abbrev pub Each : (List ℕ → X → Type 0) → CidMap X → Type 0
  Each P held = (c : List ℕ) (x : X) → finite_map.get held c ≡ Some x → P c x

  found : (P : X → Type 0) (b : Bool) (new : X) (old : Option X) (x : X) → (b ≡ true → P new) → (old ≡ Some x → P x) → cond b (Some new) old ≡ Some x → P x
  found P true new old x one all is = subst P (let same : new ≡ x = cc in same) (one refl)
  found P false new old x one all is = all is

  left_over : (P : X → Type 0) (b : Bool) (old : Option X) (x : X) → (old ≡ Some x → P x) → cond b None old ≡ Some x → P x
  left_over P true old x all is = absurd (let differ : ⊥ = cc in differ)
  left_over P false old x all is = all is

  Each-insert : (P : List ℕ → X → Type 0) (held : CidMap X) (c : List ℕ) (new : X) → Each P held → P c new → Each P (finite_map.insert held c new)
  Each-insert P held c new each one q x is =
      found (P q) (same_cid q c) new (finite_map.get held q) x (λ same. subst (λ (k : List ℕ). P k new) (sym (equal_cids q c same)) one) (each q x) (sym (finite_map.get-insert nat_list_cmp_total held c new q) ∙ is)

  Each-remove : (P : List ℕ → X → Type 0) (held : CidMap X) (c : List ℕ) → Each P held → Each P (finite_map.remove held c)
  Each-remove P held c each q x is = left_over (P q) (same_cid q c) (finite_map.get held q) x (each q x) (sym (finite_map.get-remove nat_list_cmp_total held c q) ∙ is)

  pub Each-with : (P : List ℕ → X → Type 0) (held : CidMap X) (ps : List (List ℕ × X)) → Each P held → All (λ p. P p.0 p.1) ps → Each P (with_pairs held ps)
  Each-with P held [] each all = each
  Each-with P held (p ∷ ps) each all = Each-with P (finite_map.insert held p.0 p.1) ps (Each-insert P held p.0 p.1 each (All-head (λ q. P q.0 q.1) p ps all)) (All-tail (λ q. P q.0 q.1) p ps all)

  pub Each-without : (P : List ℕ → X → Type 0) (held : CidMap X) (cs : List (List ℕ)) → Each P held → Each P (without_cids held cs)
  Each-without P held [] each = each
  Each-without P held (c ∷ cs) each = Each-without P (finite_map.remove held c) cs (Each-remove P held c each)

  get-without : (held : CidMap X) (cs : List (List ℕ)) (q : List ℕ) → finite_map.get (without_cids held cs) q ≡ cond (list_any (same_cid q) cs) None (finite_map.get held q)
  get-without held [] q = refl
  get-without held (c ∷ cs) q =
      get-without (finite_map.remove held c) cs q
      ∙ ap (λ (x : Option X). cond (list_any (same_cid q) cs) None x) (finite_map.get-remove nat_list_cmp_total held c q)
      ∙ either (same_cid q c) (list_any (same_cid q) cs) (finite_map.get held q)
    where
      either : (a b : Bool) (old : Option X) → cond b None (cond a None old) ≡ cond (a || b) None old
      either true true old = refl
      either true false old = refl
      either false true old = refl
      either false false old = refl

  get-with : (held : CidMap X) (ps : List (List ℕ × X)) (q : List ℕ) → list_any (same_cid q) (map (λ p. p.0) ps) ≡ false → finite_map.get (with_pairs held ps) q ≡ finite_map.get held q
  get-with held [] q none = refl
  get-with held (p ∷ ps) q none =
      let parts = neither (same_cid q p.0) (list_any (same_cid q) (map (λ p. p.0) ps)) none in
      get-with (finite_map.insert held p.0 p.1) ps q parts.1
      ∙ finite_map.get-insert nat_list_cmp_total held p.0 p.1 q
      ∙ ap (λ (b : Bool). cond b (Some p.1) (finite_map.get held q)) parts.0
    where
      neither : (a b : Bool) → a || b ≡ false → (a ≡ false) × (b ≡ false)
      neither true b none = absurd (let differ : ⊥ = cc in differ)
      neither false b none = (refl, none)

  none_there : (held : CidMap X) (cs : List (List ℕ)) (q : List ℕ) → All (λ c. finite_map.get held c ≡ None) cs → list_any (same_cid q) cs ≡ true → finite_map.get held q ≡ None
  none_there held [] q all any = absurd (let differ : ⊥ = cc in differ)
  none_there held (c ∷ cs) q all any = there (same_cid q c) refl any (none_there held cs q (All-tail (λ c. finite_map.get held c ≡ None) c cs all))
    where
      there : (b : Bool) → same_cid q c ≡ b → b || list_any (same_cid q) cs ≡ true → (list_any (same_cid q) cs ≡ true → finite_map.get held q ≡ None) → finite_map.get held q ≡ None
      there true same any others = ap (finite_map.get held) (equal_cids q c same) ∙ All-head (λ c. finite_map.get held c ≡ None) c cs all
      there false same any others = others any

  -- blocks that were not there leave no trace
  pub without_with : (held : CidMap X) (ps : List (List ℕ × X)) → All (λ c. finite_map.get held c ≡ None) (map (λ p. p.0) ps) → without_cids (with_pairs held ps) (map (λ p. p.0) ps) ≡ held
  without_with held ps all = finite_map.same_map nat_list_cmp_total (finite_map.slice_cmp-IsAntisymmetric finite_map.nat_cmp-IsAntisymmetric) _ _ (λ q.
      get-without (with_pairs held ps) (map (λ p. p.0) ps) q ∙ same q (list_any (same_cid q) (map (λ p. p.0) ps)) refl)
    where
      same : (q : List ℕ) (b : Bool) → list_any (same_cid q) (map (λ p. p.0) ps) ≡ b → cond b None (finite_map.get (with_pairs held ps) q) ≡ finite_map.get held q
      same q true any = sym (none_there held (map (λ p. p.0) ps) q all any)
      same q false any = get-with held ps q any
