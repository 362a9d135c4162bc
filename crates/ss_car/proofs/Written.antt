-- What is written is a header and sections.
use Rattle.std.proofs.Common.{◌≡◌, inl, ℕ, zero, suc, ◌+◌, ◌^◌, ◌<◌, ◌≤◌, List, [], ◌∷◌, ◌++◌, length, map, codes, All, None, refl, sym, ap, ◌∙◌, append_assoc, arith, length-append}
use Rattle.std.specs.List.{flat_map}
use Rattle.std.proofs.lemmas.List.{append-nil}
use Rattle.std.proofs.lemmas.List.Concat.{flat_map-cons}
use Rattle.ss_cid.specs.Cid.{IsCid}
use Rattle.ss_cbor.specs.Item as item
use Rattle.ss_cbor.specs.Item.{Part, head, AreParts}
use Rattle.ss_car.specs.Car as car
use Rattle.ss_car.specs.Car.{framed, roots_pair, version_pair, IsStart, AreSections, IsCar}
use Rattle.ss_car.specs.Writing.{text_bytes, link_bytes, header_bytes, section_bytes, SectionFits, sections_from}

links-spelled : (roots : List (List ℕ)) (rest : List ℕ) (parts : List Part) → All IsCid roots → AreParts rest parts →
    AreParts (flat_map link_bytes roots ++ rest) (map item.link roots ++ parts)
links-spelled [] rest parts all are = are
links-spelled (cid ∷ roots) rest parts all are = (
  link_bytes cid,
  flat_map link_bytes roots ++ rest,
  (all zero cid (omega arith), refl),
  links-spelled roots rest parts (λ k d lt. all (suc k) d (omega arith)) are,
  ap (λ (l : List ℕ). l ++ rest) (flat_map-cons link_bytes cid roots) ∙ append_assoc (link_bytes cid) (flat_map link_bytes roots) rest,
)

some-link : (cid : List ℕ) → 0 < length (link_bytes cid)
some-link cid = omega (arith, length-append (head 6 42) (head 2 (length (0 ∷ cid)) ++ 0 ∷ cid), length-append (head 2 (length (0 ∷ cid))) (0 ∷ cid))

-- there are no more links than bytes
links-few : (roots : List (List ℕ)) → length roots ≤ length (flat_map link_bytes roots)
links-few [] = omega arith
links-few (cid ∷ roots) =
    let len : length (flat_map link_bytes (cid ∷ roots)) ≡ length (link_bytes cid) + length (flat_map link_bytes roots) =
    ap length (flat_map-cons link_bytes cid roots) ∙ length-append (link_bytes cid) (flat_map link_bytes roots) in
    omega (arith, len, links-few roots, some-link cid)

module _ (roots : List (List ℕ)) where
  version-spelled : AreParts (text_bytes (codes "version") ++ head 0 1) (version_pair 1)
  version-spelled = (text_bytes (codes "version"), head 0 1, (omega arith, refl), (head 0 1, [], (omega arith, refl), refl, sym (append-nil (head 0 1))), refl)

  header-few : length (header_bytes roots) ≤ 1048576 → length roots < 2 ^ 64
  unfolding header_bytes
  header-few fits =
      let links = flat_map link_bytes roots in
      let rest = text_bytes (codes "version") ++ head 0 1 in
      omega (
        arith,
        fits,
        links-few roots,
        length-append links rest,
        length-append (head 4 (length roots)) (links ++ rest),
        length-append (text_bytes (codes "roots")) (head 4 (length roots) ++ (links ++ rest)),
        length-append (head 5 2) (text_bytes (codes "roots") ++ (head 4 (length roots) ++ (links ++ rest))),
      )

  header-spelled : All IsCid roots → length roots < 2 ^ 64 → AreParts (header_bytes roots) (item.map 2 ∷ (roots_pair roots ++ version_pair 1))
  unfolding header_bytes
  header-spelled all few =
      let links = flat_map link_bytes roots in
      let rest = text_bytes (codes "version") ++ head 0 1 in (
        head 5 2,
        text_bytes (codes "roots") ++ (head 4 (length roots) ++ (links ++ rest)),
        (omega arith, refl),
        (
          text_bytes (codes "roots"),
          head 4 (length roots) ++ (links ++ rest),
          (omega arith, refl),
          (
            head 4 (length roots),
            links ++ rest,
            (few, refl),
            links-spelled roots rest (version_pair 1) all version-spelled,
            refl,
          ),
          refl,
        ),
        refl,
      )

  pub header-written : All IsCid roots → length (header_bytes roots) ≤ 1048576 → IsStart (framed (header_bytes roots)) roots
  header-written all fits = record { header = header_bytes roots; is_header = inl (header-spelled all (header-few fits)); fits = fits; spelled = refl }

pub sections-written : (at : ℕ) (blocks : List (List ℕ × List ℕ)) → All SectionFits blocks → AreSections at (flat_map section_bytes blocks) (sections_from at blocks) None
sections-written at [] all = car.AreSections.end
sections-written at ((cid, block) ∷ blocks) all =
    let first = all zero (cid, block) (omega arith) in
    car.AreSections.more (framed (cid ++ block)) (flat_map section_bytes blocks) cid block (flat_map-cons section_bytes (cid, block) blocks)
    (record { is_cid = first.0; fits = first.1; spelled = refl })
    (sections-written (at + length (framed (cid ++ block))) blocks (λ k d lt. all (suc k) d (omega arith)))

pub car-written : (roots : List (List ℕ)) (blocks : List (List ℕ × List ℕ)) → All IsCid roots → length (header_bytes roots) ≤ 1048576 → All SectionFits blocks →
    IsCar (framed (header_bytes roots) ++ flat_map section_bytes blocks) roots (sections_from (length (framed (header_bytes roots))) blocks) None
car-written roots blocks cids fits all = record {
  start = framed (header_bytes roots);
  rest = flat_map section_bytes blocks;
  spelled = refl;
  is_start = header-written roots cids fits;
  are_sections = sections-written (length (framed (header_bytes roots))) blocks all;
}
