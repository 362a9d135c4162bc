-- The links that are left of some bytes.
use Rattle.std.proofs.Common.{◌≡◌, ℕ, zero, suc, ◌+◌, ◌^◌, ◌<◌, ◌≤◌, List, [], ◌∷◌, ◌++◌, length, Result, Ok, Err, refl, sym, ap, subst, ◌∙◌, arith, length-append}
use Rattle.ss_cid.specs.Cid.{IsCid}
use Rattle.ss_cid.specs.Steps.{◌>>=◌}
use Rattle.ss_cbor.specs.Item.{Part, link, items_in, links_of, IsPart, Items, IsItem}
use Rattle.ss_cbor.specs.Reading.{part_at, or_none, links_by, links_left}
use Rattle.ss_cbor.specs.declared.fault.CborFault.{CborFault}
use Rattle.ss_cbor.proofs.Numbers.{IsBytes}
use Rattle.ss_cbor.proofs.Parts.{part_takes, part_again, IsPart-some}
use Rattle.ss_cbor.proofs.Rows.{Items-uncons, Items-none, Items-few}
use Rattle.ss_cbor.proofs.Walk.{no_bytes, part_shorter}

or_none_same : (r : Result (Part × List ℕ) CborFault) (f g : Part × List ℕ → List (List ℕ)) → ((x : Part × List ℕ) → r ≡ Ok x → f x ≡ g x) →
    or_none (r >>= λ x. Ok (f x)) ≡ or_none (r >>= λ x. Ok (g x))
or_none_same (Ok x) f g h = h x refl
or_none_same (Err e) f g h = refl

-- more parts than there are bytes change nothing
links_enough : (m n : ℕ) (bytes : List ℕ) → IsBytes bytes → length bytes ≤ m → length bytes ≤ n → links_by m bytes ≡ links_by n bytes
unfolding links_by
links_enough zero zero bytes fits p q = refl
links_enough zero (suc n) bytes fits p q = rw (no_bytes 0 (length bytes) bytes p) refl
links_enough (suc m) zero bytes fits p q = rw (no_bytes 0 (length bytes) bytes q) refl
links_enough (suc m) (suc n) bytes fits p q =
    or_none_same (part_at 0 (length bytes) bytes) _ _ (λ x ok.
    let first = part_takes 0 (length bytes) bytes x (omega arith) fits ok in
    let less = part_shorter 0 (length bytes) bytes x first in
    ap (λ (l : List (List ℕ)). links_of x.0 ++ l) (links_enough m n x.1 first.takes.fits (omega arith) (omega arith)))

-- behind a part
pub links_after : (bytes : List ℕ) (part : Part) (rest : List ℕ) → IsBytes bytes → part_at 0 (length bytes) bytes ≡ Ok (part, rest) →
    links_left bytes ≡ links_of part ++ links_left rest
unfolding links_left links_by
links_after bytes part rest fits h =
    let first = part_takes 0 (length bytes) bytes (part, rest) (omega arith) fits h in
    let less = part_shorter 0 (length bytes) bytes (part, rest) first in
    links_enough (length bytes) (suc (length bytes)) bytes fits (omega arith) (omega arith)
    ∙ rw h (ap (λ (l : List (List ℕ)). links_of part ++ l) (links_enough (length bytes) (length rest) rest first.takes.fits (omega arith) (omega arith)))

-- at a fault
pub links_none : (bytes : List ℕ) (fault : CborFault) → IsBytes bytes → part_at 0 (length bytes) bytes ≡ Err fault → links_left bytes ≡ []
unfolding links_left links_by
links_none bytes fault fits h = links_enough (length bytes) (suc (length bytes)) bytes fits (omega arith) (omega arith) ∙ rw h refl

links_of_items : (most n : ℕ) (bytes : List ℕ) (links : List (List ℕ)) → length bytes ≤ most → length bytes < 2 ^ 63 → Items n bytes links → links_by most bytes ≡ links
unfolding links_by
links_of_items zero zero bytes links le room h = let e = Items-none h in sym e.1
links_of_items (suc most) zero bytes links le room h =
    let e = Items-none h in
    rw (no_bytes 0 (length bytes) bytes (omega (arith, ap length e.0))) (sym e.1)
links_of_items zero (suc n) bytes links le room h = absurd (omega (arith, Items-few h))
links_of_items (suc most) (suc n) bytes links le room h =
    let u = Items-uncons h in
    let some = IsPart-some u.front u.part u.is in
    let few = Items-few u.items in
    let len : length bytes ≡ length u.front + length u.rest = ap length u.parts ∙ length-append u.front u.rest in
    let first : part_at 0 (length bytes) bytes ≡ Ok (u.part, u.rest) =
    ap (part_at 0 (length bytes)) u.parts ∙ part_again 0 (length bytes) u.front u.rest u.part u.is (omega (arith, few.0)) in
    let others = links_of_items most (items_in u.part + n) u.rest u.others (omega arith) (omega arith) u.items in
    rw (first, others) (sym u.links_are)

-- the links that are left of an item are the item's
pub links_of_item : (bytes : List ℕ) (links : List (List ℕ)) → length bytes < 2 ^ 63 → IsItem bytes links → links_left bytes ≡ links
unfolding links_left
links_of_item bytes links room h = links_of_items (length bytes) 1 bytes links (omega arith) room h

pub links_nothing : links_left [] ≡ []
unfolding links_left links_by
links_nothing = refl

-- no link was passed
pub record StillLinked (bytes rest : List ℕ) : Type 0 where
  pub fits : IsBytes rest
  pub same : links_left bytes ≡ links_left rest

pub StillLinked-start : (bytes : List ℕ) → IsBytes bytes → StillLinked bytes bytes
StillLinked-start bytes fits = record { fits = fits; same = refl }

module _ (bytes rest after : List ℕ) (part : Part) (still : StillLinked bytes rest) (reads : part_at 0 (length rest) rest ≡ Ok (part, after)) where
  -- a part that is no link was passed
  pub StillLinked-after : links_of part ≡ [] → StillLinked bytes after
  StillLinked-after none = record {
    fits = (part_takes 0 (length rest) rest (part, after) (omega arith) still.fits reads).takes.fits;
    same = still.same ∙ links_after rest part after still.fits reads ∙ ap (λ (l : List (List ℕ)). l ++ links_left after) none;
  }

  -- a link was found
  pub link_found : (cid : List ℕ) → part ≡ link cid → links_left bytes ≡ cid ∷ links_left after
  link_found cid is = still.same ∙ links_after rest part after still.fits reads ∙ ap (λ (p : Part). links_of p ++ links_left after) is

  pub found_IsCid : (cid : List ℕ) → part ≡ link cid → IsCid cid
  found_IsCid cid is =
      let t = part_takes 0 (length rest) rest (part, after) (omega arith) still.fits reads in
      let spelled : IsPart t.front (link cid) = subst (λ (p : Part). IsPart t.front p) is t.is in
      spelled.0

pub no_more_links : (bytes rest : List ℕ) (fault : CborFault) → StillLinked bytes rest → part_at 0 (length rest) rest ≡ Err fault → links_left bytes ≡ []
no_more_links bytes rest fault still h = still.same ∙ links_none rest fault still.fits h
