-- Rows of links and of items, one after another.
use Rattle.std.proofs.Common.{◌≡◌, ℕ, zero, suc, ◌+◌, ◌-◌, ◌<◌, ◌≤◌, true, false, List, Some, None, refl, sym, ◌∙◌, arith}
use Rattle.ss_cbor.specs.Position.{Position}
use Rattle.ss_cbor.specs.Reading.{link_from}
use Rattle.ss_chain.specs.HeaderReading.{item_from, leads_with_links, after_items}
use Rattle.ss_cbor.specs.Position.{Reads, Takes, Passes}

-- ---- links

-- i of n links were read, and the others come next
pub record LinksLeft (n i : ℕ) (first now : Position) : Type 0 where
  pub bound : i ≤ n
  pub end : now.end ≡ first.end
  pub same : leads_with_links n first.end first.rest ≡ leads_with_links (n - i) now.end now.rest

module _ (n i : ℕ) (first now : Position) (left : LinksLeft n i first now) where
  pub links-next : (next : Position) (cid : List ℕ) → i < n → Takes {X = List ℕ} (λ cid. cid) link_from now next (Some cid) → LinksLeft n (i + 1) first next
  unfolding leads_with_links
  links-next next cid lt reads =
      let e : n - i ≡ suc (n - (i + 1)) = omega arith in
      let step : leads_with_links (n - i) now.end now.rest ≡ leads_with_links (n - (i + 1)) next.end next.rest = rw (e, reads.value, reads.end) refl in
      record { bound = omega arith; end = reads.end ∙ left.end; same = left.same ∙ step }

  pub links-stop : (next : Position) → i < n → Takes {X = List ℕ} (λ cid. cid) link_from now next None → false ≡ leads_with_links n first.end first.rest
  unfolding leads_with_links
  links-stop next lt reads =
      let e : n - i ≡ suc (n - (i + 1)) = omega arith in
      let step : leads_with_links (n - i) now.end now.rest ≡ false = rw (e, reads.value) refl in
      sym (left.same ∙ step)

  pub links-end : n ≤ i → true ≡ leads_with_links n first.end first.rest
  unfolding leads_with_links
  links-end le =
      let e : n - i ≡ zero = omega arith in
      let step : leads_with_links (n - i) now.end now.rest ≡ true = rw e refl in
      sym (left.same ∙ step)

-- ---- items

-- i of n items were passed, and the others come next
pub record ItemsLeft (n i : ℕ) (first now : Position) : Type 0 where
  pub bound : i ≤ n
  pub end : now.end ≡ first.end
  pub same : after_items n first.end first.rest ≡ after_items (n - i) now.end now.rest

module _ (n i : ℕ) (first now : Position) (left : ItemsLeft n i first now) where
  pub items-next : {X : Type 0} (view : X → List ℕ) (next : Position) (x : X) → i < n → Reads view item_from now next (Some x) → ItemsLeft n (i + 1) first next
  unfolding after_items
  items-next view next x lt reads =
      let e : n - i ≡ suc (n - (i + 1)) = omega arith in
      let step : after_items (n - i) now.end now.rest ≡ after_items (n - (i + 1)) next.end next.rest = rw (e, reads.value, reads.end) refl in
      record { bound = omega arith; end = reads.end ∙ left.end; same = left.same ∙ step }

  pub items-stop : {X : Type 0} (view : X → List ℕ) (next : Position) → i < n → Reads {X = X} view item_from now next None → Passes (after_items n) first next None
  unfolding after_items
  items-stop view next lt reads =
      let e : n - i ≡ suc (n - (i + 1)) = omega arith in
      let step : after_items (n - i) now.end now.rest ≡ None = rw (e, reads.value) refl in
      record { value = left.same ∙ step; end = reads.end ∙ left.end }

  pub items-end : n ≤ i → Passes (after_items n) first now (Some tt)
  unfolding after_items
  items-end le =
      let e : n - i ≡ zero = omega arith in
      let step : after_items (n - i) now.end now.rest ≡ Some now.rest = rw e refl in
      record { value = left.same ∙ step; end = left.end }
