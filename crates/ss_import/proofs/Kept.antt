-- What is kept along an import, and that its blocks are small.
use Rattle.std.proofs.Common.{◌≡◌, ◌⊎◌, inl, inr, ⊎_elim, ℕ, suc, Bool, true, false, cond, List, [], ◌∷◌, ◌++◌, map, Some, refl, sym, ap, ◌∙◌, subst, arith, append_assoc}
use Rattle.std.specs.Ordering.{nat_cmp, eq_by_cmp}
use Rattle.std.specs.Cmp.{Equal-is}
use Rattle.std.specs.Cmp.Lexicographic.{slice_cmp, nat_list_cmp_total}
use Rattle.std.specs.FinMap as finite_map
use Rattle.std.specs.FinMap.{get-insert, slice_cmp-IsAntisymmetric, nat_cmp-IsAntisymmetric}
use Rattle.std.proofs.lemmas.List.{map-append}
use Rattle.ss_car.specs.Car.{Section}
use Rattle.ss_model.specs.State.{State, Kept}
use Rattle.ss_model.specs.Lawful.{After, AreSound, IsSmall, is_known, with_block, with_blocks}
use Rattle.ss_model.specs.Lawful.{AfterAll}
use Rattle.ss_model.specs.declared.call.Entry.{Entry}
use Rattle.ss_import.specs.Import.{pair_of, ArePuts}

-- no kept block is longer than a block may be
abbrev pub AreSmall : Kept → Type 0
AreSmall kept = (c block : List ℕ) → finite_map.get kept c ≡ Some block → IsSmall (c, block)

inserted : (kept : Kept) (k v c : List ℕ) → ((c ≡ k) × (finite_map.get (finite_map.insert kept k v) c ≡ Some v)) ⊎ (finite_map.get (finite_map.insert kept k v) c ≡ finite_map.get kept c)
inserted kept k v c = go (eq_by_cmp (slice_cmp nat_cmp) c k) refl
  where
    go : (b : Bool) → eq_by_cmp (slice_cmp nat_cmp) c k ≡ b → ((c ≡ k) × (finite_map.get (finite_map.insert kept k v) c ≡ Some v)) ⊎ (finite_map.get (finite_map.insert kept k v) c ≡ finite_map.get kept c)
    go true e = inl (slice_cmp-IsAntisymmetric nat_cmp-IsAntisymmetric c k ((Equal-is (slice_cmp nat_cmp c k)).0 e), get-insert nat_list_cmp_total kept k v c ∙ ap (λ b. cond b (Some v) (finite_map.get kept c)) e)
    go false e = inr (get-insert nat_list_cmp_total kept k v c ∙ ap (λ b. cond b (Some v) (finite_map.get kept c)) e)

pub insert_small : (kept : Kept) (p : List ℕ × List ℕ) → AreSmall kept → IsSmall p → AreSmall (finite_map.insert kept p.0 p.1)
insert_small kept p small is = λ c b found. ⊎_elim
    (λ (same : (c ≡ p.0) × (finite_map.get (finite_map.insert kept p.0 p.1) c ≡ Some p.1)).
    let block : p.1 ≡ b = cc (same.1, found) in
    subst (λ k. IsSmall (k, b)) (sym same.0) (subst (λ x. IsSmall (p.0, x)) block is))
    (λ (other : finite_map.get (finite_map.insert kept p.0 p.1) c ≡ finite_map.get kept c). small c b (sym other ∙ found))
    (inserted kept p.0 p.1 c)

block_small : (kept : Kept) (p : List ℕ × List ℕ) → AreSmall kept → IsSmall p → AreSmall (with_block kept p)
unfolding with_block
block_small kept p small is = go (is_known kept p.0)
  where
    go : (known : Bool) → AreSmall (cond known kept (finite_map.insert kept p.0 p.1))
    go true = small
    go false = insert_small kept p small is

pub blocks_small : (kept : Kept) (pairs : List (List ℕ × List ℕ)) → AreSmall kept → AreSound pairs → AreSmall (with_blocks kept pairs)
blocks_small kept [] small sound = small
blocks_small kept (p ∷ pairs) small sound =
    blocks_small (with_block kept p) pairs (block_small kept p small (sound 0 p (omega arith) refl).small) (λ k q within at. sound (suc k) q (omega arith) at)

with_blocks_append : (kept : Kept) (a b : List (List ℕ × List ℕ)) → with_blocks kept (a ++ b) ≡ with_blocks (with_blocks kept a) b
with_blocks_append kept [] b = refl
with_blocks_append kept (p ∷ a) b = with_blocks_append (with_block kept p) a b

-- what the puts of an import have stored: the sections that are not left
pub record HasStored (kept after : Kept) (sections left : List Section) : Type 0 where
  pub stored : List Section
  pub parts : sections ≡ stored ++ left
  pub kept_is : after ≡ with_blocks kept (map pair_of stored)

pub puts_keep : (t : State) (v : ℕ) (sections : List Section) (puts : List Entry) (left : List Section) → ArePuts v sections puts left → HasStored t.kept (AfterAll t puts).kept sections left
puts_keep t v sections [] left are = record { stored = []; parts = sym are; kept_is = refl }
puts_keep t v sections (e ∷ h) left are =
    let group : List Section = are.0 in
    let next : State = After t e.call e.answer in
    let keeps : next.kept ≡ with_blocks t.kept (map pair_of group) = ap (λ (x : Entry). (After t x.call x.answer).kept) are.5 in
    let rest = puts_keep next v are.1 h left are.6 in record {
      stored = group ++ rest.stored;
      parts = are.3 ∙ ap (λ l. group ++ l) rest.parts ∙ sym (append_assoc group rest.stored left);
      kept_is = rest.kept_is ∙ ap (λ k. with_blocks k (map pair_of rest.stored)) keeps
          ∙ sym (with_blocks_append t.kept (map pair_of group) (map pair_of rest.stored)) ∙ ap (with_blocks t.kept) (sym (map-append pair_of group rest.stored));
    }
