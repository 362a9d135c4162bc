-- The order of CIDs, which is that of their byte lists: what a map or a sorted list over them needs.
use Rattle.std.proofs.Common.{◌≡◌, ℕ, ◌⊎◌, inl, inr, List, refl, sym, ap, ◌∙◌, Ordering, Less, Equal, Greater}
use Rattle.std.specs.Ordering.{nat_cmp, is_eq, ordering_reverse}
use Rattle.std.specs.Cmp.{IsTotalOrder}
use Rattle.std.specs.Cmp.Lexicographic.{slice_cmp}
use Rattle.std.proofs.lemmas.Cmp.{nat_list_cmp_total, tied_itself}
use Rattle.std.proofs.lemmas.Map.Text.{is_eq-slice_cmp}
use Rattle.std.proofs.lemmas.Slice.Eq.{bytes_eq-Decides}

pub bytes_cmp-total : IsTotalOrder (slice_cmp nat_cmp)
bytes_cmp-total = nat_list_cmp_total

-- two byte lists tie only where they are one
pub same_from_tie : (a b : List ℕ) → slice_cmp nat_cmp a b ≡ Equal → a ≡ b
same_from_tie a b tie = (bytes_eq-Decides a b).0 (sym (is_eq-slice_cmp a b) ∙ ap is_eq tie)

pub tie_itself : (a : List ℕ) → slice_cmp nat_cmp a a ≡ Equal
tie_itself a = tied_itself nat_list_cmp_total a

pub less_trans : (a b c : List ℕ) → slice_cmp nat_cmp a b ≡ Less → slice_cmp nat_cmp b c ≡ Less → slice_cmp nat_cmp a c ≡ Less
less_trans a b c = nat_list_cmp_total.trans a b c

-- no list is less than itself
pub less_irreflexive : (a : List ℕ) → slice_cmp nat_cmp a a ≡ Less → ⊥
less_irreflexive a less = let tie = tie_itself a in cc

-- of two lists one is less, or they are one
pub compared : (a b : List ℕ) → (slice_cmp nat_cmp a b ≡ Less) ⊎ ((a ≡ b) ⊎ (slice_cmp nat_cmp b a ≡ Less))
compared a b = cases (slice_cmp nat_cmp a b) refl where
  cases : (o : Ordering) → slice_cmp nat_cmp a b ≡ o → (slice_cmp nat_cmp a b ≡ Less) ⊎ ((a ≡ b) ⊎ (slice_cmp nat_cmp b a ≡ Less))
  cases Less is = inl is
  cases Equal is = inr (inl (same_from_tie a b is))
  cases Greater is = inr (inr (nat_list_cmp_total.antisymm b a ∙ ap ordering_reverse is))
