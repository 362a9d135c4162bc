-- One part: what is read is spelled so, and what is spelled so is read.
use Rattle.std.proofs.Common.{◌≡◌, ℕ, zero, ◌+◌, ◌-◌, ◌*◌, ◌/◌, ◌%◌, ◌^◌, ◌<◌, ◌≤◌, true, false, eqb, ltb, List, ◌∷◌, ◌++◌, length, Option, Some, None, Result, Ok, Err, refl, sym, ap, subst, ◌∙◌, append_assoc, arith, length-append}
use Rattle.std.proofs.lemmas.Bool.{lt-ltb, le-ltb, eqb-true, eq-eqb, ne_eqb}
use Rattle.std.proofs.lemmas.List.{take_at, drop_at}
use Rattle.std.proofs.lemmas.List.Elements.{All-from_get_or}
use Rattle.ss_cid.proofs.Chains.{bind-Ok, chosen-Ok, Ok-same}
use Rattle.ss_cid.proofs.Grammar.{IsCid-length}
use Rattle.ss_cid.specs.Cid.{cid_len, IsCid}
use Rattle.ss_cid.specs.declared.fault.CidFault.{CidFault}
use Rattle.ss_cbor.specs.Item.{Part, uint, nint, blob, text, array, map, link, float, bool, null, head, items_in, IsPart}
use Rattle.std.specs.Prelude.{IfOk}
use Rattle.ss_cbor.specs.Position.{Gives}
use Rattle.ss_cbor.specs.Reading.{bytes_at, holding, content_at, simple_at, piece_at, is_whole, is_cid, linked, part_from, part_at}
use Rattle.ss_cbor.specs.declared.fault.CborFault.{CborFault}
use Rattle.ss_cbor.specs.declared.fault.CborKind.TheVariants.{BadLink}
use Rattle.ss_cbor.proofs.Numbers.{IsBytes, IsBytes-rest, IsBytes-left, IsBytes-right, Takes}
use Rattle.ss_cbor.proofs.Heads.{spelled}
use Rattle.ss_cbor.proofs.Pieces.{TakesFront, piece_takes}

-- ---- whole CIDs

whole-is : (r : Result ℕ CidFault) (all : ℕ) → is_whole r all ≡ true → r ≡ Ok all
whole-is (Ok len) all h = ap (λ (n : ℕ). Ok n) (eqb-true len all h)
whole-is (Err e) all h = absurd (cc)

pub IsCid-from_is_cid : (c : List ℕ) → IsBytes c → is_cid c ≡ true → IsCid c
unfolding is_cid
IsCid-from_is_cid c fits h = record {
  whole = whole-is (cid_len c) (length c) h;
  bytes = All-from_get_or (λ b. b < 256) c 0 (λ i _. fits i);
}

pub is_cid-IsCid : (c : List ℕ) → IsCid c → is_cid c ≡ true
unfolding is_cid
is_cid-IsCid c is = rw is.whole (eq-eqb (length c) (length c) refl)

-- ---- spelled so

record Links (piece : Option Part) (part : Part) : Type 0 where
  pub cid : List ℕ
  pub piece_is : piece ≡ Some (blob (0 ∷ cid))
  pub part_is : part ≡ link cid
  pub whole : is_cid cid ≡ true

linked_takes : (at : ℕ) (piece : Option Part) (part : Part) → linked at piece ≡ Ok part → Links piece part
unfolding linked
linked_takes at (Some (blob (zero ∷ cid))) part h =
    let c = chosen-Ok (is_cid cid) (record { kind = BadLink; at = at }) (Ok (link cid)) part h in
    record { cid = cid; piece_is = refl; part_is = sym (Ok-same c.1); whole = c.0 }
linked_takes at _ part h = absurd (cc)

-- the front of a part
pub record TakesPart (due : ℕ) (bytes : List ℕ) (x : Part × List ℕ) : Type 0 where
  pub front : List ℕ
  pub takes : Takes bytes front x.1
  pub is : IsPart front x.0
  pub fits : due + items_in x.0 < 2 ^ 63

takes_part : (due : ℕ) (bytes : List ℕ) (part : Part) (rest : List ℕ) → TakesFront due bytes (Some part, rest) → TakesPart due bytes (part, rest)
takes_part due bytes part rest t = record { front = t.front; takes = t.takes; is = t.is; fits = t.fits }

takes_link : (due : ℕ) (bytes below cid rest : List ℕ) → due < 2 ^ 63 → IsBytes bytes → is_cid cid ≡ true →
    TakesFront due bytes (None, below) → TakesFront due below (Some (blob (0 ∷ cid)), rest) → TakesPart due bytes (link cid, rest)
takes_link due bytes below cid rest room fits whole tag content =
    let content_fits : IsBytes (content.front ++ rest) = subst IsBytes content.takes.parts tag.takes.fits in
    let cid_fits : IsBytes (0 ∷ cid) = IsBytes-right (head 2 (length (0 ∷ cid))) (0 ∷ cid) (subst IsBytes content.is.1 (IsBytes-left content.front rest content_fits)) in
    record {
      front = tag.front ++ content.front;
      takes = record { parts = rw (tag.takes.parts, content.takes.parts, append_assoc) refl; fits = content.takes.fits };
      is = (IsCid-from_is_cid cid (IsBytes-rest 0 cid cid_fits) whole, rw (tag.is, content.is.1) refl);
      fits = omega arith;
    }

part_from_takes : (due end at : ℕ) (bytes : List ℕ) (piece : Option Part) (below : List ℕ) (x : Part × List ℕ) → due < 2 ^ 63 → IsBytes bytes →
    TakesFront due bytes (piece, below) → part_from due end at piece below ≡ Ok x → TakesPart due bytes x
unfolding part_from
part_from_takes due end at bytes (Some part) below x room fits t h = rw (← (Ok-same h)) (takes_part due bytes part below t)
part_from_takes due end at bytes None below x room fits t h =
    let p = bind-Ok (piece_at due end below) _ x h in
    let l = bind-Ok (linked at p.0.0) _ x p.2 in
    let found = linked_takes at p.0.0 l.0 l.1 in
    let is : (link found.cid, p.0.1) ≡ x = ap (λ (y : Part). (y, p.0.1)) (sym found.part_is) ∙ Ok-same l.2 in
    let content = piece_takes due end below p.0 room t.takes.fits p.1 in
    rw (← is) (takes_link due bytes below found.cid p.0.1 room fits found.whole t (subst (λ (y : Option Part). TakesFront due below (y, p.0.1)) found.piece_is content))

-- a part that is read is spelled so
pub part_takes : (due end : ℕ) (bytes : List ℕ) (x : Part × List ℕ) → due < 2 ^ 63 → IsBytes bytes → part_at due end bytes ≡ Ok x → TakesPart due bytes x
unfolding part_at
part_takes due end bytes x room fits h =
    let p = bind-Ok (piece_at due end bytes) _ x h in
    part_from_takes due end (end - length bytes) bytes p.0.0 p.0.1 x room fits (piece_takes due end bytes p.0 room fits p.1) p.2

-- ---- read again

-- what a spelled head stands for
piece_again : (major n due end : ℕ) (rest : List ℕ) → major ≤ 6 → n < 2 ^ 64 →
    (at : ℕ) × (piece_at due end (head major n ++ rest) ≡ content_at major n due at end rest)
unfolding piece_at
piece_again major n due end rest le lt =
    let s = spelled major n lt in
    let high : (32 * major + s.low) / 32 ≡ major = omega (arith, s.small) in
    let low : (32 * major + s.low) % 32 ≡ s.low = omega (arith, s.small, high) in
    let other : eqb major 7 ≡ false = ne_eqb major 7 (λ (e : major ≡ 7). omega arith) in
    (end - (length (s.tail ++ rest) + 1), rw (s.is, high, low, other, s.again (end - (length (s.tail ++ rest) + 1)) end rest) refl)

bytes_again : (b : List ℕ) (end : ℕ) (rest : List ℕ) → bytes_at (length b) end (b ++ rest) ≡ Ok (b, rest)
unfolding bytes_at
bytes_again b end rest =
    let long : ltb (length (b ++ rest)) (length b) ≡ false = le-ltb _ _ (omega (arith, length-append b rest)) in
    rw (long, take_at b rest (length b) refl, drop_at b rest (length b) refl) refl

alone_again : (due end : ℕ) (bytes : List ℕ) (part : Part) (rest : List ℕ) → piece_at due end bytes ≡ Ok (Some part, rest) → part_at due end bytes ≡ Ok (part, rest)
unfolding part_at part_from
alone_again due end bytes part rest h = rw h refl

-- what a spelled part without content reads as
number_again : (major n due end : ℕ) (front rest : List ℕ) (part : Part) → major ≤ 6 → n < 2 ^ 64 → front ≡ head major n →
    ((at : ℕ) → content_at major n due at end rest ≡ Ok (Some part, rest)) → part_at due end (front ++ rest) ≡ Ok (part, rest)
number_again major n due end front rest part le lt is reads =
    let p = piece_again major n due end rest le lt in
    alone_again due end (front ++ rest) part rest (rw is (p.1 ∙ reads p.0))

-- what a spelled part with content reads as
content_again : (major due end : ℕ) (front rest b : List ℕ) (part : Part) → major ≤ 6 → length b < 2 ^ 64 → front ≡ head major (length b) ++ b →
    ((at : ℕ) → content_at major (length b) due at end (b ++ rest) ≡ Ok (Some part, rest)) → part_at due end (front ++ rest) ≡ Ok (part, rest)
content_again major due end front rest b part le lt is reads =
    let p = piece_again major (length b) due end (b ++ rest) le lt in
    alone_again due end (front ++ rest) part rest (rw (is, append_assoc) (p.1 ∙ reads p.0))

holding_again : (part : Part) (due at : ℕ) (rest : List ℕ) → due + items_in part < 2 ^ 63 → holding part due at rest ≡ Ok (Some part, rest)
unfolding holding
holding_again part due at rest lt = rw (lt-ltb _ _ lt) refl

link_again : (due end : ℕ) (cid rest : List ℕ) → IsCid cid → part_at due end ((head 6 42 ++ (head 2 (length (0 ∷ cid)) ++ 0 ∷ cid)) ++ rest) ≡ Ok (link cid, rest)
unfolding part_at part_from linked content_at
link_again due end cid rest is =
    let below = head 2 (length (0 ∷ cid)) ++ (0 ∷ cid ++ rest) in
    let short : length (0 ∷ cid) < 2 ^ 64 = omega (arith, IsCid-length cid is) in
    let tag = piece_again 6 42 due end below (omega arith) (omega arith) in
    let content = piece_again 2 (length (0 ∷ cid)) due end (0 ∷ cid ++ rest) (omega arith) short in
    let tag_is : piece_at due end (head 6 42 ++ below) ≡ Ok (None, below) = tag.1 in
    let content_is : piece_at due end below ≡ Ok (Some (blob (0 ∷ cid)), rest) = content.1 ∙ rw (bytes_again (0 ∷ cid) end rest) refl in
    let regrouped : (head 6 42 ++ (head 2 (length (0 ∷ cid)) ++ 0 ∷ cid)) ++ rest ≡ head 6 42 ++ below = simp append_assoc in
    ap (part_at due end) regrouped ∙ rw (tag_is, content_is, is_cid-IsCid cid is) refl

float_again : (due end : ℕ) (value rest : List ℕ) → length value ≡ 8 → part_at due end (0xfb ∷ value ++ rest) ≡ Ok (float, rest)
unfolding part_at part_from piece_at simple_at
float_again due end value rest len =
    let reads : bytes_at 8 end (value ++ rest) ≡ Ok (value, rest) = subst (λ (n : ℕ). bytes_at n end (value ++ rest) ≡ Ok (value, rest)) len (bytes_again value end rest) in
    rw reads refl

simple_again : (due end byte : ℕ) (rest : List ℕ) (part : Part) → eqb (byte / 32) 7 ≡ true → ((at : ℕ) → simple_at byte at end rest ≡ Ok (Some part, rest)) → part_at due end (byte ∷ rest) ≡ Ok (part, rest)
unfolding part_at part_from piece_at
simple_again due end byte rest part high reads = rw (high, reads (end - (length rest + 1))) refl

-- a part that is spelled so is read, whatever follows it
pub part_again : (due end : ℕ) (front rest : List ℕ) (part : Part) → IsPart front part → due + items_in part < 2 ^ 63 → part_at due end (front ++ rest) ≡ Ok (part, rest)
unfolding content_at simple_at
part_again due end front rest (uint n) is fits = number_again 0 n due end front rest (uint n) (omega arith) is.0 is.1 (λ at. refl)
part_again due end front rest (nint n) is fits = number_again 1 n due end front rest (nint n) (omega arith) is.0 is.1 (λ at. refl)
part_again due end front rest (blob b) is fits = content_again 2 due end front rest b (blob b) (omega arith) is.0 is.1 (λ at. rw (bytes_again b end rest) refl)
part_again due end front rest (text b) is fits = content_again 3 due end front rest b (text b) (omega arith) is.0 is.1 (λ at. rw (bytes_again b end rest) refl)
part_again due end front rest (array n) is fits = number_again 4 n due end front rest (array n) (omega arith) is.0 is.1 (λ at. holding_again (array n) due at rest fits)
part_again due end front rest (map n) is fits = number_again 5 n due end front rest (map n) (omega arith) is.0 is.1 (λ at. holding_again (map n) due at rest fits)
part_again due end front rest (link cid) is fits = rw is.1 (link_again due end cid rest is.0)
part_again due end front rest float (value, len, is) fits = rw is (float_again due end value rest len)
part_again due end front rest (bool true) is fits = rw is (simple_again due end 0xf5 rest (bool true) refl (λ at. refl))
part_again due end front rest (bool false) is fits = rw is (simple_again due end 0xf4 rest (bool false) refl (λ at. refl))
part_again due end front rest null is fits = rw is (simple_again due end 0xf6 rest null refl (λ at. refl))

-- a part takes a byte at least
pub IsPart-some : (front : List ℕ) (part : Part) → IsPart front part → 0 < length front
IsPart-some front (uint n) is = rw (is.1, (spelled 0 n is.0).is) (omega arith)
IsPart-some front (nint n) is = rw (is.1, (spelled 1 n is.0).is) (omega arith)
IsPart-some front (blob b) is = rw (is.1, (spelled 2 (length b) is.0).is) (omega arith)
IsPart-some front (text b) is = rw (is.1, (spelled 3 (length b) is.0).is) (omega arith)
IsPart-some front (array n) is = rw (is.1, (spelled 4 n is.0).is) (omega arith)
IsPart-some front (map n) is = rw (is.1, (spelled 5 n is.0).is) (omega arith)
IsPart-some front (link cid) is = rw (is.1, (spelled 6 42 (omega arith)).is) (omega arith)
IsPart-some front float (value, len, is) = rw is (omega arith)
IsPart-some front (bool b) is = rw is (omega arith)
IsPart-some front null is = rw is (omega arith)

-- what a reader of one part returned leaves room for the items in it
pub part_due : {X : Type 0} (due end : ℕ) (bytes : List ℕ) (view : X → Part × List ℕ) (r : Result X CborFault) → due < 2 ^ 63 → IsBytes bytes →
    Gives view r (part_at due end bytes) → IfOk r (λ x. due + items_in (view x).0 < 2 ^ 63)
part_due due end bytes view (Ok x) room fits given = (part_takes due end bytes (view x) room fits given).fits
part_due due end bytes view (Err e) room fits given = tt
