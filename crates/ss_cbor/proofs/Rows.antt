-- Items one after another: a part, and then the items in it with the others behind it.
use Rattle.std.proofs.Common.{◌≡◌, ℕ, zero, suc, ◌+◌, ◌≤◌, List, [], ◌++◌, length, refl, sym, ap, subst, ◌∙◌, append_assoc, zero-add, arith, length-append}
use Rattle.ss_cbor.specs.Item.{Part, uint, nint, blob, text, array, map, link, float, bool, null, items_in, links_of, IsPart, Items, none, more}
use Rattle.ss_cbor.proofs.Parts.{IsPart-some}

at_count : {m n : ℕ} {bytes : List ℕ} {links : List (List ℕ)} → m ≡ n → Items m bytes links → Items n bytes links
at_count {bytes = bytes} {links = links} e = subst (λ (k : ℕ). Items k bytes links) e

pub Items-append : {a b : ℕ} {x y : List ℕ} {l m : List (List ℕ)} → Items a x l → Items b y m → Items (a + b) (x ++ y) (l ++ m)
Items-append none q = at_count (sym (zero-add _)) q
Items-append {b = b} {y = y} {m = m} (more {n = n} part front inner rest below after is p r parts links) q =
    at_count (omega arith) (more part front inner (rest ++ y) below (after ++ m) is p (Items-append r q)
    (rw parts (simp append_assoc)) (rw links (simp append_assoc)))

-- the first items of a row, and the others
pub record Split (a b : ℕ) (bytes : List ℕ) (links : List (List ℕ)) : Type 0 where
  pub front : List ℕ
  pub rest : List ℕ
  pub before : List (List ℕ)
  pub after : List (List ℕ)
  pub parts : bytes ≡ front ++ rest
  pub links_are : links ≡ before ++ after
  pub first : Items a front before
  pub others : Items b rest after

split_here : (b : ℕ) (bytes : List ℕ) (links : List (List ℕ)) → Items b bytes links → Split zero b bytes links
split_here b bytes links h = record { front = []; rest = bytes; before = []; after = links; parts = refl; links_are = refl; first = none; others = h }

regroup : {A : Type 0} (all front inner rest x y : List A) → all ≡ front ++ (inner ++ rest) → rest ≡ x ++ y → all ≡ (front ++ (inner ++ x)) ++ y
regroup all front inner rest x y e f = rw (e, f) (simp append_assoc)

pub Items-split : (a b n : ℕ) {bytes : List ℕ} {links : List (List ℕ)} → n ≡ a + b → Items n bytes links → Split a b bytes links
Items-split zero b n {bytes} {links} e h = split_here b bytes links (at_count (e ∙ zero-add b) h)
Items-split (suc a) b zero e none = absurd (omega arith)
Items-split (suc a) b (suc n) e (more part front inner rest below after is p r parts links) =
    let s = Items-split a b n (omega arith) r in
    record {
      front = front ++ (inner ++ s.front);
      rest = s.rest;
      before = links_of part ++ (below ++ s.before);
      after = s.after;
      parts = regroup _ front inner rest s.front s.rest parts s.parts;
      links_are = regroup _ (links_of part) below after s.before s.after links s.links_are;
      first = more part front inner s.front below s.before is p s.first refl refl;
      others = s.others;
    }

-- a part before the items in it and the others
pub Items-cons : (part : Part) (n : ℕ) (front rest : List ℕ) (links : List (List ℕ)) → IsPart front part → Items (items_in part + n) rest links →
    Items (suc n) (front ++ rest) (links_of part ++ links)
Items-cons part n front rest links is h =
    let s = Items-split (items_in part) n (items_in part + n) refl h in
    more part front s.front s.rest s.before s.after is s.first s.others (ap (λ (l : List ℕ). front ++ l) s.parts) (ap (λ (l : List (List ℕ)). links_of part ++ l) s.links_are)

-- the first part of a row, and what follows it
pub record Uncons (n : ℕ) (bytes : List ℕ) (links : List (List ℕ)) : Type 0 where
  pub part : Part
  pub front : List ℕ
  pub rest : List ℕ
  pub others : List (List ℕ)
  pub is : IsPart front part
  pub parts : bytes ≡ front ++ rest
  pub links_are : links ≡ links_of part ++ others
  pub items : Items (items_in part + n) rest others

pub Items-uncons : {n : ℕ} {bytes : List ℕ} {links : List (List ℕ)} → Items (suc n) bytes links → Uncons n bytes links
Items-uncons (more part front inner rest below after is p r parts links) = record {
  part = part;
  front = front;
  rest = inner ++ rest;
  others = below ++ after;
  is = is;
  parts = parts;
  links_are = links;
  items = Items-append p r;
}

pub Items-none : {bytes : List ℕ} {links : List (List ℕ)} → Items zero bytes links → (bytes ≡ []) × (links ≡ [])
Items-none none = (refl, refl)

one_link : (part : Part) → length (links_of part) ≤ 1
one_link (uint n) = omega arith
one_link (nint n) = omega arith
one_link (blob b) = omega arith
one_link (text b) = omega arith
one_link (array n) = omega arith
one_link (map n) = omega arith
one_link (link cid) = omega arith
one_link float = omega arith
one_link (bool b) = omega arith
one_link null = omega arith

-- each item takes a byte, and so does each link
pub Items-few : {n : ℕ} {bytes : List ℕ} {links : List (List ℕ)} → Items n bytes links → (n ≤ length bytes) × (length links ≤ length bytes)
Items-few none = (omega arith, omega arith)
Items-few (more part front inner rest below after is p r parts links) =
    let inside = Items-few p in
    let others = Items-few r in
    let some = IsPart-some front part is in
    let one = one_link part in
    let len : length (front ++ (inner ++ rest)) ≡ length front + (length inner + length rest) = simp length-append refl in
    let many : length (links_of part ++ (below ++ after)) ≡ length (links_of part) + (length below + length after) = simp length-append refl in
    rw (parts, links, len, many) (omega arith, omega arith)
