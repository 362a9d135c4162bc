-- Listing the entries of a node, one slot after another.
use Rattle.std.proofs.Common.{◌≡◌, ℕ, ◌+◌, ◌^◌, ◌<◌, ◌≤◌, List, [], ◌∷◌, ◌++◌, map, length, Some, None, refl, sym, ap, ◌∙◌, arith, append_assoc}
use Rattle.std.proofs.lemmas.List.{append-nil, map-append}
use Rattle.std.specs.List.{zip}
use Rattle.ss_cbor.specs.Position.{Position, Reads}
use Rattle.ss_node.specs.{Bits.ones_below, Rows.many_from}
use Rattle.ss_node.proofs.Rows.{Reader, Taking, taking-start, taking-next, taking-stop, taking-end}
use Rattle.ss_amt.specs.Walks.{taken_below, slotted}
use Rattle.ss_amt.proofs.Taken.{taken-length, zip-push, zip-whole}

-- i of n entries were read, which take the slots below this one, and what is made of them was added
pub record Listing {Y Z : Type 0} (make : ℕ × Y → Z) (one : Reader Y) (width : ℕ) (bits : List ℕ) (n i slot : ℕ) (first now : Position) (was items : List Z) : Type 0 where
  pub row : List Y
  pub read : Taking one n i first now row
  pub within : slot ≤ 2 ^ width
  pub count : ones_below bits slot ≡ i
  pub added : items ≡ was ++ map make (zip (taken_below bits slot) row)

no_slot : {X : Type 0} (bits : List ℕ) → zip {X = X} (taken_below bits 0) [] ≡ []
unfolding taken_below
no_slot bits = refl

no_bit : (bits : List ℕ) → ones_below bits 0 ≡ 0
unfolding ones_below
no_bit bits = refl

pub listing-start : {Y Z : Type 0} (make : ℕ × Y → Z) (one : Reader Y) (width : ℕ) (bits : List ℕ) (n : ℕ) (first : Position) (was : List Z) → Listing make one width bits n 0 0 first first was was
listing-start {Y} make one width bits n first was = record {
  row = [];
  read = taking-start one n first;
  within = omega arith;
  count = no_bit bits;
  added = sym (append-nil was) ∙ ap (λ l. was ++ map make l) (sym (no_slot {X = Y} bits));
}

module _ {Y Z : Type 0} (make : ℕ × Y → Z) (one : Reader Y) (width : ℕ) (bits : List ℕ) (n i slot : ℕ) (first now : Position) (was items : List Z) (l : Listing make one width bits n i slot first now was items) where
  lengths : length l.row ≡ length (taken_below bits slot)
  lengths = l.read.count ∙ sym l.count ∙ sym (taken-length bits slot)

  pub listing-some : i < n → n ≤ ones_below bits (2 ^ width) → ones_below bits slot < ones_below bits (2 ^ width)
  listing-some lt le = omega (arith, l.count)

  pub listing-next : {X : Type 0} (view : X → Y) (next : Position) (x : X) (at : ℕ) (more : List Z) → i < n → Reads view one now next (Some x) → at < 2 ^ width →
      ones_below bits (at + 1) ≡ ones_below bits slot + 1 → taken_below bits (at + 1) ≡ taken_below bits slot ++ at ∷ [] → more ≡ items ++ make (at, view x) ∷ [] →
      Listing make one width bits n (i + 1) (at + 1) first next was more
  listing-next view next x at more lt reads low ones taken pushed = record {
    row = l.row ++ view x ∷ [];
    read = taking-next view one n i first now l.row l.read next x lt reads;
    within = omega arith;
    count = omega (arith, ones, l.count);
    added = pushed ∙ ap (λ z. z ++ make (at, view x) ∷ []) l.added ∙ append_assoc was _ _ ∙ ap (λ z. was ++ z)
        (sym (ap (map make) (ap (λ s. zip s (l.row ++ view x ∷ [])) taken ∙ zip-push (taken_below bits slot) l.row at (view x) lengths) ∙ map-append make _ _));
  }

  pub listing-stop : {X : Type 0} (view : X → Y) (next : Position) → i < n → Reads {X = X} view one now next None → many_from one n first.end first.rest ≡ None
  listing-stop view next lt reads = taking-stop view one n i first now l.row l.read next lt reads

  pub listing-row : n ≤ i → many_from one n first.end first.rest ≡ Some (l.row, now.rest)
  listing-row le = taking-end one n i first now l.row l.read le

  pub listing-added : items ≡ was ++ map make (slotted width bits l.row)
  listing-added = l.added ∙ ap (λ z. was ++ map make z) (sym (zip-whole bits slot (2 ^ width) l.row l.within lengths))
