-- Listing what a row leaves to walk.
use Rattle.std.proofs.Common.{◌≡◌, ℕ, ◌+◌, ◌<◌, ◌≤◌, Bool, true, false, List, [], ◌∷◌, ◌++◌, map, Some, None, Ok, Err, refl, sym, ap, ◌∙◌, append_assoc}
use Rattle.std.proofs.lemmas.List.{append-nil, map-append}
use Rattle.std.specs.Prelude.{◌||◌, ⊤}
use Rattle.std.proofs.lemmas.List.Folds.{list_any-append}
use Rattle.ss_hamt.specs.Node.{Pointer, pointer_from, entry_from}
use Rattle.ss_hamt.specs.Walks.{parts_by, is_link, entry_part, Lists}
use Rattle.ss_hamt.specs.declared.listing.{Pending.Pending, Unlisted.Unlisted}
use Rattle.std.specs.List.{flat_map, list_any}
use Rattle.std.proofs.lemmas.List.Concat.{flat_map-cons}
use Rattle.std.proofs.lemmas.Grind.{flat_map-append}
use Rattle.ss_cbor.specs.Position.{Position, Reads}
use Rattle.ss_node.specs.Rows.{many_from}
use Rattle.ss_node.proofs.Rows.{Reader, Taking, taking-start, taking-next, taking-none, taking-stop, taking-end}

-- i of n were read, and what is made of them was added
pub record Listing {Y Z : Type 0} (made : List Y → List Z) (one : Reader Y) (n i : ℕ) (first now : Position) (was items : List Z) : Type 0 where
  pub row : List Y
  pub read : Taking one n i first now row
  pub added : items ≡ was ++ made row

module _ {Y Z : Type 0} (made : List Y → List Z) (one : Reader Y) (n : ℕ) (first : Position) (was : List Z) where
  unfoldable pub listing-start : made [] ≡ [] → Listing made one n 0 first first was was
  listing-start none = record { row = []; read = taking-start one n first; added = sym (append-nil was) ∙ ap (λ l. was ++ l) (sym none) }

  module _ (i : ℕ) (now : Position) (items : List Z) (l : Listing made one n i first now was items) where
    unfoldable pub listing-next : {X : Type 0} (view : X → Y) (next : Position) (x : X) (part more : List Z) → i < n → Reads view one now next (Some x) → more ≡ items ++ part →
        made (l.row ++ view x ∷ []) ≡ made l.row ++ part → Listing made one n (i + 1) first next was more
    listing-next view next x part more lt reads pushed grows = record {
      row = l.row ++ view x ∷ [];
      read = taking-next view one n i first now l.row l.read next x lt reads;
      added = pushed ∙ ap (λ z. z ++ part) l.added ∙ append_assoc was (made l.row) part ∙ ap (λ z. was ++ z) (sym grows);
    }

    pub listing-stop : {X : Type 0} (view : X → Y) (next : Position) → i < n → Reads {X = X} view one now next None → many_from one n first.end first.rest ≡ None
    listing-stop view next lt reads = taking-stop view one n i first now l.row l.read next lt reads

    pub listing-row : n ≤ i → many_from one n first.end first.rest ≡ Some (l.row, now.rest)
    listing-row le = taking-end one n i first now l.row l.read le

    pub listing-none : i < n → one now.end now.rest ≡ None → many_from one n first.end first.rest ≡ None
    listing-none lt none = taking-none {X = Y} (λ (y : Y). y) one n i first now l.row l.read lt none

pub map-push : {A B : Type 0} (f : A → B) (xs : List A) (x : A) → map f (xs ++ x ∷ []) ≡ map f xs ++ f x ∷ []
map-push f xs x = map-append f xs (x ∷ [])

pub flat-push : {A B : Type 0} (f : A → List B) (xs : List A) (x : A) → flat_map f (xs ++ x ∷ []) ≡ flat_map f xs ++ f x
flat-push f xs x = flat_map-append f xs (x ∷ []) ∙ ap (λ l. flat_map f xs ++ l) (flat_map-cons f x [] ∙ append-nil (f x))

any-push : {A : Type 0} (p : A → Bool) (xs : List A) (x : A) → list_any p (xs ++ x ∷ []) ≡ (list_any p xs || p x)
any-push p xs x = list_any-append p xs (x ∷ []) ∙ ap (λ b. list_any p xs || b) (one (p x))
  where
    one : (b : Bool) → (b || false) ≡ b
    one true = refl
    one false = refl

-- ---- pointers, and whether one of them is a link

pub record Pointing (level n i : ℕ) (first now : Position) (was items : List Pending) (has_child : Bool) : Type 0 where
  pub list : Listing (flat_map (parts_by level)) pointer_from n i first now was items
  pub linked : has_child ≡ list_any is_link list.row

pub pointing-start : (level n : ℕ) (first : Position) (was : List Pending) → Pointing level n 0 first first was was false
unfolding listing-start
pointing-start level n first was = record { list = listing-start (flat_map (parts_by level)) pointer_from n first was refl; linked = refl }

module _ (level n i : ℕ) (first now : Position) (was items : List Pending) (has_child : Bool) (p : Pointing level n i first now was items has_child) where
  pub pointing-next : (next : Position) (more : List Pending) (is_child : Bool) → i < n → Lists pointer_from (parts_by level) (λ pointer answer. answer ≡ is_link pointer) now next items more (Ok is_child) →
      Pointing level n (i + 1) first next was more (has_child || is_child)
  unfolding listing-next
  pointing-next next more is_child lt h = record {
    list = listing-next (flat_map (parts_by level)) pointer_from n first was i now items p.list (λ (x : Pointer). x) next h.0 (parts_by level h.0) more lt (record { value = h.1; end = h.2 }) h.3 (flat-push (parts_by level) p.list.row h.0);
    linked = ap (λ b. b || is_child) p.linked ∙ ap (λ b. list_any is_link p.list.row || b) h.4 ∙ sym (any-push is_link p.list.row h.0);
  }

  pub pointing-fault : (next : Position) (more : List Pending) (why : Unlisted) → i < n → Lists {R = Bool} pointer_from (parts_by level) (λ pointer answer. answer ≡ is_link pointer) now next items more (Err why) →
      Lists {R = Bool} (many_from pointer_from n) (flat_map (parts_by level)) (λ pointers answer. answer ≡ list_any is_link pointers) first next was more (Err why)
  pointing-fault next more Unlisted.NotANode lt h = listing-none (flat_map (parts_by level)) pointer_from n first was i now items p.list lt h
  pointing-fault next more Unlisted.NoMemory lt h = tt

-- a bucket was not listed
pub bucket-fault : (level n : ℕ) (old now next : Position) (was more : List Pending) (why : Unlisted) → (many_from entry_from n now.end now.rest ≡ None → pointer_from old.end old.rest ≡ None) →
    Lists {R = Unit {0}} (many_from entry_from n) (map entry_part) (λ _ _. ⊤) now next was more (Err why) →
    Lists {R = Bool} pointer_from (parts_by level) (λ pointer answer. answer ≡ is_link pointer) old next was more (Err why)
bucket-fault level n old now next was more Unlisted.NotANode none h = none h
bucket-fault level n old now next was more Unlisted.NoMemory none h = tt
