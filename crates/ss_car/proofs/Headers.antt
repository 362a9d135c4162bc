-- A header is read exactly where the bytes are one.
use Rattle.std.proofs.Common.{◌≡◌, inl, inr, ℕ, zero, suc, ◌+◌, ◌^◌, ◌<◌, ◌≤◌, Bool, true, false, cond, eqb, List, [], ◌∷◌, ◌++◌, length, map, codes, Option, Some, None, Result, Ok, refl, sym, ap, subst, ◌∙◌, arith, length-append}
use Rattle.std.specs.Option.{option_or}
use Rattle.std.specs.Prelude.{◌&&◌, nat_eq}
use Rattle.std.specs.Cmp.Lexicographic.{pointwise}
use Rattle.std.proofs.lemmas.Bool.{eqb-true}
use Rattle.std.proofs.lemmas.List.{append-nil, nil_from_length, length-map}
use Rattle.ss_cbor.specs.Item as item
use Rattle.ss_cbor.specs.Item.{Part, items_in, IsPart, AreParts}
use Rattle.ss_cbor.specs.Reading.{part_at}
use Rattle.ss_cbor.specs.declared.fault.CborFault.{CborFault}
use Rattle.ss_cbor.proofs.Numbers.{IsBytes}
use Rattle.ss_cbor.proofs.Parts.{part_takes, part_again, IsPart-some}
use Rattle.ss_car.specs.Car.{roots_pair, version_pair, IsHeader}
use Rattle.ss_car.specs.HeaderReading.{as_pairs, as_key, two_pairs_from, key_from, links_from, roots_from, version_from, whole, roots_first, version_first, header_in}
use Rattle.ss_cbor.specs.Options.{◌>>=◌}
use Rattle.ss_cbor.specs.Reading.{as_count, as_number, as_link, count_from, number_from, link_from}

-- ---- steps

Some-same : {A : Type 0} {x y : A} → Some x ≡ Some y → x ≡ y
Some-same h = cc

bind-Some : {A B : Type 0} (o : Option A) (f : A → Option B) (y : B) → (o >>= f) ≡ Some y → (x : A) × (o ≡ Some x) × (f x ≡ Some y)
bind-Some (Some x) f y h = (x, refl, h)
bind-Some None f y h = absurd (cc)

chosen : {A : Type 0} (b : Bool) (x y : A) → cond b (Some x) None ≡ Some y → (b ≡ true) × (x ≡ y)
chosen true x y h = (refl, Some-same h)
chosen false x y h = absurd (cc)

both : (a b : Bool) → (a && b) ≡ true → (a ≡ true) × (b ≡ true)
both true b h = (refl, h)
both false b h = absurd (cc)

same_bytes : (a b : List ℕ) → pointwise nat_eq a b ≡ true → a ≡ b
same_bytes [] [] h = refl
same_bytes (x ∷ xs) (y ∷ ys) h =
    let most = both (nat_eq x y) (pointwise nat_eq xs ys) h in
    let first = eqb-true x y most.0 in
    let others = same_bytes xs ys most.1 in
    ap (λ (n : ℕ). n ∷ xs) first ∙ ap (λ (l : List ℕ). y ∷ l) others
same_bytes _ _ h = absurd (cc)

-- ---- parts that are read one after another

abbrev pub PartsAt : ℕ → List ℕ → List Part → List ℕ → Type 0
PartsAt end bytes [] rest = bytes ≡ rest
PartsAt end bytes (part ∷ parts) rest = (mid : List ℕ) × (part_at 0 end bytes ≡ Ok (part, mid)) × PartsAt end mid parts rest

PartsAt-append : (end : ℕ) (bytes mid rest : List ℕ) (a b : List Part) → PartsAt end bytes a mid → PartsAt end mid b rest → PartsAt end bytes (a ++ b) rest
PartsAt-append end bytes mid rest [] b p q = subst (λ (l : List ℕ). PartsAt end l b rest) (sym p) q
PartsAt-append end bytes mid rest (part ∷ a) b (next, is, p) q = (next, is, PartsAt-append end next mid rest a b p q)

-- they are spelled
parts-spelled : (end : ℕ) (bytes : List ℕ) (parts : List Part) → IsBytes bytes → PartsAt end bytes parts [] → AreParts bytes parts
parts-spelled end bytes [] fits p = p
parts-spelled end bytes (part ∷ parts) fits (mid, is, p) =
    let t = part_takes 0 end bytes (part, mid) (omega arith) fits is in
    (t.front, mid, t.is, parts-spelled end mid parts t.takes.fits p, t.takes.parts)

abbrev AllFew : List Part → Type 0
AllFew [] = Unit {0}
AllFew (part ∷ parts) = (0 + items_in part < 2 ^ 63) × AllFew parts

-- what is spelled is read
parts-again : (end : ℕ) (bytes : List ℕ) (parts : List Part) → AllFew parts → AreParts bytes parts → PartsAt end bytes parts []
parts-again end bytes [] few is = is
parts-again end bytes (part ∷ parts) (fits, few) (front, rest, is, are, split) =
    (rest, ap (part_at 0 end) split ∙ part_again 0 end front rest part is fits, parts-again end rest parts few are)

-- there are no more parts than bytes
parts-few : (bytes : List ℕ) (parts : List Part) → AreParts bytes parts → length parts ≤ length bytes
parts-few bytes [] is = omega arith
parts-few bytes (part ∷ parts) (front, rest, is, are, split) =
    let some = IsPart-some front part is in
    let others = parts-few rest parts are in
    let len : length bytes ≡ length front + length rest = ap length split ∙ length-append front rest in
    omega arith

few-links : (cids : List (List ℕ)) (parts : List Part) → AllFew parts → AllFew (map item.link cids ++ parts)
few-links [] parts few = few
few-links (cid ∷ cids) parts few = (omega arith, few-links cids parts few)

-- ---- what was read

pairs-is : (r : Result (Part × List ℕ) CborFault) (x : ℕ × List ℕ) → as_pairs r ≡ Some x → r ≡ Ok (item.map x.0, x.1)
pairs-is (Ok (item.map n, rest)) x h = ap (λ (y : ℕ × List ℕ). Ok (item.map y.0, y.1)) (Some-same h)
pairs-is _ x h = absurd (cc)

key-is : (r : Result (Part × List ℕ) CborFault) (x : List ℕ × List ℕ) → as_key r ≡ Some x → r ≡ Ok (item.text x.0, x.1)
key-is (Ok (item.text key, rest)) x h = ap (λ (y : List ℕ × List ℕ). Ok (item.text y.0, y.1)) (Some-same h)
key-is _ x h = absurd (cc)

count-is : (r : Result (Part × List ℕ) CborFault) (x : ℕ × List ℕ) → as_count r ≡ Some x → r ≡ Ok (item.array x.0, x.1)
count-is (Ok (item.array n, rest)) x h = ap (λ (y : ℕ × List ℕ). Ok (item.array y.0, y.1)) (Some-same h)
count-is _ x h = absurd (cc)

number-is : (r : Result (Part × List ℕ) CborFault) (x : ℕ × List ℕ) → as_number r ≡ Some x → r ≡ Ok (item.uint x.0, x.1)
number-is (Ok (item.uint n, rest)) x h = ap (λ (y : ℕ × List ℕ). Ok (item.uint y.0, y.1)) (Some-same h)
number-is _ x h = absurd (cc)

link-is : (r : Result (Part × List ℕ) CborFault) (x : List ℕ × List ℕ) → as_link r ≡ Some x → r ≡ Ok (item.link x.0, x.1)
link-is (Ok (item.link cid, rest)) x h = ap (λ (y : List ℕ × List ℕ). Ok (item.link y.0, y.1)) (Some-same h)
link-is _ x h = absurd (cc)

two_pairs-at : (end : ℕ) (bytes rest : List ℕ) → two_pairs_from end bytes ≡ Some rest → PartsAt end bytes (item.map 2 ∷ []) rest
unfolding two_pairs_from
two_pairs-at end bytes rest h =
    let x = bind-Some (as_pairs (part_at 0 end bytes)) _ rest h in
    let picked = chosen (eqb x.0.0 2) x.0.1 rest x.2 in
    let is = pairs-is (part_at 0 end bytes) x.0 x.1 in
    (x.0.1, is ∙ ap (λ (n : ℕ). Ok (item.map n, x.0.1)) (eqb-true x.0.0 2 picked.0), picked.1)

key-at : (key : List ℕ) (end : ℕ) (bytes rest : List ℕ) → key_from key end bytes ≡ Some rest → PartsAt end bytes (item.text key ∷ []) rest
unfolding key_from
key-at key end bytes rest h =
    let x = bind-Some (as_key (part_at 0 end bytes)) _ rest h in
    let picked = chosen (pointwise nat_eq x.0.0 key) x.0.1 rest x.2 in
    let is = key-is (part_at 0 end bytes) x.0 x.1 in
    (x.0.1, is ∙ ap (λ (l : List ℕ). Ok (item.text l, x.0.1)) (same_bytes x.0.0 key picked.0), picked.1)

links-at : (n end : ℕ) (bytes : List ℕ) (x : List (List ℕ) × List ℕ) → links_from n end bytes ≡ Some x → (n ≡ length x.0) × PartsAt end bytes (map item.link x.0) x.1
unfolding links_from link_from
links-at zero end bytes x h = subst (λ (y : List (List ℕ) × List ℕ). (zero ≡ length y.0) × PartsAt end bytes (map item.link y.0) y.1) (Some-same h) (refl, refl)
links-at (suc n) end bytes x h =
    let first = bind-Some (as_link (part_at 0 end bytes)) _ x h in
    let others = bind-Some (links_from n end first.0.1) _ x first.2 in
    let is = link-is (part_at 0 end bytes) first.0 first.1 in
    let rest = links-at n end first.0.1 others.0 others.1 in
    subst (λ (y : List (List ℕ) × List ℕ). (suc n ≡ length y.0) × PartsAt end bytes (map item.link y.0) y.1) (Some-same others.2) (ap suc rest.0, (first.0.1, is, rest.1))

roots-at : (end : ℕ) (bytes : List ℕ) (x : List (List ℕ) × List ℕ) → roots_from end bytes ≡ Some x → PartsAt end bytes (roots_pair x.0) x.1
unfolding roots_from count_from
roots-at end bytes x h =
    let key = bind-Some (key_from (codes "roots") end bytes) _ x h in
    let count = bind-Some (as_count (part_at 0 end key.0)) _ x key.2 in
    let links = links-at count.0.0 end count.0.1 x count.2 in
    let is = count-is (part_at 0 end key.0) count.0 count.1 ∙ ap (λ (n : ℕ). Ok (item.array n, count.0.1)) links.0 in
    PartsAt-append end bytes key.0 x.1 (item.text (codes "roots") ∷ []) (item.array (length x.0) ∷ map item.link x.0) (key-at (codes "roots") end bytes key.0 key.1) (count.0.1, is, links.1)

version-at : (end : ℕ) (bytes : List ℕ) (x : ℕ × List ℕ) → version_from end bytes ≡ Some x → PartsAt end bytes (version_pair x.0) x.1
unfolding version_from number_from
version-at end bytes x h =
    let key = bind-Some (key_from (codes "version") end bytes) _ x h in
    let is = number-is (part_at 0 end key.0) x key.2 in
    PartsAt-append end bytes key.0 x.1 (item.text (codes "version") ∷ []) (item.uint x.0 ∷ []) (key-at (codes "version") end bytes key.0 key.1) (x.1, is, refl)

whole-is : {A : Type 0} (x y : A) (rest : List ℕ) → whole x rest ≡ Some y → (x ≡ y) × (rest ≡ [])
whole-is x y rest h = let picked = chosen (eqb (length rest) 0) x y h in (picked.1, nil_from_length rest (eqb-true (length rest) 0 picked.0))

abbrev roots_then : List (List ℕ) × ℕ → List Part
roots_then h = item.map 2 ∷ (roots_pair h.0 ++ version_pair h.1)

abbrev version_then : List (List ℕ) × ℕ → List Part
version_then h = item.map 2 ∷ (version_pair h.1 ++ roots_pair h.0)

roots_first-at : (end : ℕ) (bytes : List ℕ) (h : List (List ℕ) × ℕ) → roots_first end bytes ≡ Some h → PartsAt end bytes (roots_then h) []
unfolding roots_first
roots_first-at end bytes h read =
    let pairs = bind-Some (two_pairs_from end bytes) _ h read in
    let roots = bind-Some (roots_from end pairs.0) _ h pairs.2 in
    let version = bind-Some (version_from end roots.0.1) _ h roots.2 in
    let last = whole-is (roots.0.0, version.0.0) h version.0.1 version.2 in
    subst (λ (y : List (List ℕ) × ℕ). PartsAt end bytes (roots_then y) []) last.0 (PartsAt-append end bytes pairs.0 [] (item.map 2 ∷ []) (roots_pair roots.0.0 ++ version_pair version.0.0) (two_pairs-at end bytes pairs.0 pairs.1)
    (PartsAt-append end pairs.0 roots.0.1 [] (roots_pair roots.0.0) (version_pair version.0.0) (roots-at end pairs.0 roots.0 roots.1) (subst (PartsAt end roots.0.1 (version_pair version.0.0)) last.1 (version-at end roots.0.1 version.0 version.1))))

version_first-at : (end : ℕ) (bytes : List ℕ) (h : List (List ℕ) × ℕ) → version_first end bytes ≡ Some h → PartsAt end bytes (version_then h) []
unfolding version_first
version_first-at end bytes h read =
    let pairs = bind-Some (two_pairs_from end bytes) _ h read in
    let version = bind-Some (version_from end pairs.0) _ h pairs.2 in
    let roots = bind-Some (roots_from end version.0.1) _ h version.2 in
    let last = whole-is (roots.0.0, version.0.0) h roots.0.1 roots.2 in
    subst (λ (y : List (List ℕ) × ℕ). PartsAt end bytes (version_then y) []) last.0 (PartsAt-append end bytes pairs.0 [] (item.map 2 ∷ []) (version_pair version.0.0 ++ roots_pair roots.0.0) (two_pairs-at end bytes pairs.0 pairs.1)
    (PartsAt-append end pairs.0 version.0.1 [] (version_pair version.0.0) (roots_pair roots.0.0) (version-at end pairs.0 version.0 version.1) (subst (PartsAt end version.0.1 (roots_pair roots.0.0)) last.1 (roots-at end version.0.1 roots.0 roots.1))))

pub header-is : (bytes : List ℕ) → IsBytes bytes → (h : List (List ℕ) × ℕ) → header_in bytes ≡ Some h → IsHeader bytes h.0 h.1
unfolding header_in
header-is bytes fits h read = by (roots_first (length bytes) bytes) refl read where
  by : (first : Option (List (List ℕ) × ℕ)) → roots_first (length bytes) bytes ≡ first → option_or first (version_first (length bytes) bytes) ≡ Some h → IsHeader bytes h.0 h.1
  by (Some x) is picked = inl (parts-spelled (length bytes) bytes (roots_then h) fits (roots_first-at (length bytes) bytes h (is ∙ picked)))
  by None is picked = inr (parts-spelled (length bytes) bytes (version_then h) fits (version_first-at (length bytes) bytes h picked))

-- ---- read again

links-again : (cids : List (List ℕ)) (end : ℕ) (bytes rest : List ℕ) (parts : List Part) → PartsAt end bytes (map item.link cids ++ parts) rest →
    (mid : List ℕ) × (links_from (length cids) end bytes ≡ Some (cids, mid)) × PartsAt end mid parts rest
unfolding links_from link_from
links-again [] end bytes rest parts p = (bytes, refl, p)
links-again (cid ∷ cids) end bytes rest parts (next, is, p) =
    let others = links-again cids end next rest parts p in
    (others.0, rw (is, others.1) refl, others.2)

-- its steps are these
roots_first-last : (end : ℕ) (bytes : List ℕ) (h : List (List ℕ) × ℕ) (at : List ℕ × List ℕ × List ℕ × List ℕ) → part_at 0 end bytes ≡ Ok (item.map 2, at.0) →
    part_at 0 end at.0 ≡ Ok (item.text (codes "roots"), at.1) → part_at 0 end at.1 ≡ Ok (item.array (length h.0), at.2) →
    links_from (length h.0) end at.2 ≡ Some (h.0, at.3) → PartsAt end at.3 (version_pair h.1) [] → roots_first end bytes ≡ Some h
unfolding roots_first two_pairs_from roots_from version_from key_from count_from number_from
roots_first-last end bytes h at is_a is_b is_c is_d (e, is_e, (f, is_f, none)) = rw (is_a, is_b, is_c, is_d, is_e, is_f, none) refl

roots_first-again : (end : ℕ) (bytes : List ℕ) (h : List (List ℕ) × ℕ) → PartsAt end bytes (roots_then h) [] → roots_first end bytes ≡ Some h
unfolding roots_first two_pairs_from roots_from version_from key_from count_from number_from
roots_first-again end bytes h (a, is_a, (b, is_b, (c, is_c, p))) =
    let links = links-again h.0 end c [] (version_pair h.1) p in
    roots_first-last end bytes h (a, b, c, links.0) is_a is_b is_c links.1 links.2

version_first-again : (end : ℕ) (bytes : List ℕ) (h : List (List ℕ) × ℕ) → PartsAt end bytes (version_then h) [] → version_first end bytes ≡ Some h
unfolding version_first two_pairs_from roots_from version_from key_from count_from number_from
version_first-again end bytes h (a, is_a, (b, is_b, (c, is_c, (d, is_d, (e, is_e, p))))) =
    let links = links-again h.0 end e [] [] (subst (λ (l : List Part). PartsAt end e l []) (sym (append-nil (map item.link h.0))) p) in
    rw (is_a, is_b, is_c, is_d, is_e, links.1, links.2) refl

-- bytes with the version first do not have the roots first
not_roots_first : (end : ℕ) (bytes : List ℕ) (h : List (List ℕ) × ℕ) → PartsAt end bytes (version_then h) [] → roots_first end bytes ≡ None
unfolding roots_first two_pairs_from roots_from key_from
not_roots_first end bytes h (a, is_a, (b, is_b, p)) = rw (is_a, is_b) refl

few-roots : (bytes : List ℕ) (roots : List (List ℕ)) (before after : List Part) → length bytes < 2 ^ 63 → AreParts bytes (before ++ (map item.link roots ++ after)) → length roots < 2 ^ 63
few-roots bytes roots before after room are =
    let few = parts-few bytes (before ++ (map item.link roots ++ after)) are in
    omega (arith, few, length-append before (map item.link roots ++ after), length-append (map item.link roots) after, length-map roots item.link)

pub header-again : (bytes : List ℕ) (h : List (List ℕ) × ℕ) → length bytes < 2 ^ 63 → IsHeader bytes h.0 h.1 → header_in bytes ≡ Some h
unfolding header_in
header-again bytes h room (inl are) =
    let few = few-roots bytes h.0 (item.map 2 ∷ (item.text (codes "roots") ∷ (item.array (length h.0) ∷ []))) (version_pair h.1) room are in
    let all : AllFew (roots_then h) = (omega arith, (omega arith, (omega arith, few-links h.0 (version_pair h.1) (omega arith, (omega arith, tt))))) in
    rw (roots_first-again (length bytes) bytes h (parts-again (length bytes) bytes (roots_then h) all are)) refl
header-again bytes h room (inr are) =
    let few = few-roots bytes h.0 (item.map 2 ∷ (item.text (codes "version") ∷ (item.uint h.1 ∷ (item.text (codes "roots") ∷ (item.array (length h.0) ∷ []))))) [] room (subst (λ (l : List Part). AreParts bytes (item.map 2 ∷ (item.text (codes "version") ∷ (item.uint h.1 ∷ (item.text (codes "roots") ∷ (item.array (length h.0) ∷ l)))))) (sym (append-nil (map item.link h.0))) are) in
    let all : AllFew (version_then h) = (omega arith, (omega arith, (omega arith, (omega arith, (omega arith, subst AllFew (append-nil (map item.link h.0)) (few-links h.0 [] tt)))))) in
    let at = parts-again (length bytes) bytes (version_then h) all are in
    rw (not_roots_first (length bytes) bytes h at, version_first-again (length bytes) bytes h at) refl

-- ---- what was found

pub header-found : (bytes : List ℕ) → IsBytes bytes → (found : Option (List (List ℕ) × ℕ)) → found ≡ header_in bytes → (roots : List (List ℕ)) (version : ℕ) →
    found ≡ Some (roots, version) → IsHeader bytes roots version
header-found bytes fits found e roots version is = header-is bytes fits (roots, version) (sym e ∙ is)

pub header-none : (bytes : List ℕ) → length bytes < 2 ^ 63 → (found : Option (List (List ℕ) × ℕ)) → found ≡ header_in bytes → found ≡ None →
    (roots : List (List ℕ)) (version : ℕ) → IsHeader bytes roots version → ⊥
header-none bytes room found e is roots version header = absurd (let again = header-again bytes (roots, version) room header in cc)
