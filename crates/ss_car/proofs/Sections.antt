-- Bytes begin with one section at most, or are refused by one fault; so their sections are one list.
use Rattle.std.proofs.Common.{◌≡◌, ◌⊎◌, inl, inr, ℕ, zero, suc, ◌+◌, ◌<◌, ◌≤◌, List, [], ◌∷◌, ◌++◌, length, drop, All, Option, Some, None, Result, Ok, Err, refl, sym, ap, subst, ◌∙◌, arith, length-append, append_assoc}
use Rattle.std.proofs.lemmas.List.{append-nil, append_cancel_left}
use Rattle.std.proofs.lemmas.List.Elements.{All-take, All-drop}
use Rattle.std.proofs.Math.Seq.{take-append_seam, drop-append_seam}
use Rattle.ss_cid.proofs.Grammar.{IsCid-length}
use Rattle.ss_cid.specs.Cid.{IsCid, cid_at}
use Rattle.ss_cid.specs.Varint.{varint}
use Rattle.ss_cid.specs.declared.fault.CidFault.{CidFault}
use Rattle.ss_cid.proofs.Chains.{Ok-same}
use Rattle.ss_cid.proofs.Spelling.{cid_at-append, cid_at-spelled}
use Rattle.ss_car.specs.Car as car
use Rattle.ss_car.specs.Car.{framed, IsSection, SectionFault, Section, AreSections, IsCar}
use Rattle.ss_car.specs.declared.fault.CarFault.{CarFault}
use Rattle.ss_car.specs.declared.fault.CarFault.TheVariants.{ZeroSection, BadCid}
use Rattle.ss_car.specs.declared.fault.CarRefusal.{CarRefusal}
use Rattle.ss_car.proofs.Readings.{framed_at, framed-again, unframed-is, Framed, framed-is, Err-Ok, start-one}

all-left : (xs ys : List ℕ) → All (λ b. b < 256) (xs ++ ys) → All (λ b. b < 256) xs
all-left xs ys h = subst (All (λ b. b < 256)) (take-append_seam xs ys) (All-take (λ b. b < 256) (length xs) (xs ++ ys) h)

all-right : (xs ys : List ℕ) → All (λ b. b < 256) (xs ++ ys) → All (λ b. b < 256) ys
all-right xs ys h = subst (All (λ b. b < 256)) (drop-append_seam xs ys) (All-drop (λ b. b < 256) (length xs) (xs ++ ys) h)

-- a refusal, by the bytes that the length counts
abbrev NoCid : List ℕ → CarFault → Type 0
NoCid body fault = (fault ≡ BadCid) × (0 < length body) × ((why : CidFault) × (cid_at body ≡ Err why))

abbrev SectionRefused : CarFault → Result (List ℕ × List ℕ) CarFault → Type 0
SectionRefused fault (Err e) = e ≡ fault
SectionRefused fault (Ok (body, rest)) = ((fault ≡ ZeroSection) × (body ≡ [])) ⊎ NoCid body fault

section-refused : (bytes : List ℕ) (fault : CarFault) → SectionFault bytes fault → SectionRefused fault (framed_at 8388608 bytes)
section-refused bytes fault (car.SectionFault.unframed h) = subst (SectionRefused fault) (sym (unframed-is 8388608 (omega arith) bytes fault h)) refl
section-refused bytes _ (car.SectionFault.zero_length rest e) =
    subst (SectionRefused ZeroSection)
    (sym (framed-again 8388608 (omega arith) bytes [] rest (e ∙ ap (λ (l : List ℕ). l ++ rest) (sym (append-nil (varint 0)))) (omega arith))) (inl (refl, refl))
section-refused bytes _ (car.SectionFault.no_cid body rest why e some fits none) =
    subst (SectionRefused BadCid) (sym (framed-again 8388608 (omega arith) bytes body rest e fits)) (inr (refl, some, (why, none)))

not_empty : {A : Type 0} (l : List A) → 0 < length l → l ≡ [] → ⊥
not_empty l some e = absurd (let none : length l ≡ 0 = ap length e in omega arith)

section-one-by : (e f : CarFault) (read : Result (List ℕ × List ℕ) CarFault) → SectionRefused e read → SectionRefused f read → e ≡ f
section-one-by e f (Err x) h i = sym h ∙ i
section-one-by e f (Ok (body, rest)) (inl (is, none)) (inl (also, _)) = is ∙ sym also
section-one-by e f (Ok (body, rest)) (inl (is, none)) (inr (also, some, _)) = absurd (not_empty body some none)
section-one-by e f (Ok (body, rest)) (inr (is, some, _)) (inl (also, none)) = absurd (not_empty body some none)
section-one-by e f (Ok (body, rest)) (inr (is, _, _)) (inr (also, _, _)) = is ∙ sym also

pub section_fault-one : (bytes : List ℕ) (e f : CarFault) → SectionFault bytes e → SectionFault bytes f → e ≡ f
section_fault-one bytes e f h i = section-one-by e f (framed_at 8388608 bytes) (section-refused bytes e h) (section-refused bytes f i)

section-read : (front rest cid block : List ℕ) → IsSection front cid block → framed_at 8388608 (front ++ rest) ≡ Ok (cid ++ block, rest)
section-read front rest cid block is =
    framed-again 8388608 (omega arith) (front ++ rest) (cid ++ block) rest (ap (λ (l : List ℕ). l ++ rest) is.spelled) is.fits

cid-one : (cid other block content : List ℕ) → IsCid cid → IsCid other → cid ++ block ≡ other ++ content → (cid ≡ other) × (block ≡ content)
cid-one cid other block content is also same =
    let read : ◌≡◌ {A = Result (List ℕ × ℕ) CidFault} (Ok (cid, length cid)) (Ok (other, length other)) =
    sym (cid_at-append cid block is) ∙ ap cid_at same ∙ cid_at-append other content also in
    let first : cid ≡ other = ap (λ (x : List ℕ × ℕ). x.0) (Ok-same read) in
    (first, sym (drop-append_seam cid block) ∙ ap (drop (length cid)) (same ∙ ap (λ (l : List ℕ). l ++ content) (sym first)) ∙ drop-append_seam cid content)

-- what follows is the same too
sections-same : (a b x y cid other block content : List ℕ) → a ++ x ≡ b ++ y → IsSection a cid block → IsSection b other content →
    (a ≡ b) × (x ≡ y) × (cid ≡ other) × (block ≡ content)
sections-same a b x y cid other block content same p q =
    let read = sym (section-read a x cid block p) ∙ ap (framed_at 8388608) same ∙ section-read b y other content q in
    let body : cid ++ block ≡ other ++ content = ap (λ (l : List ℕ × List ℕ). l.0) (Ok-same read) in
    let cids = cid-one cid other block content p.is_cid q.is_cid body in
    (p.spelled ∙ ap framed body ∙ sym q.spelled, ap (λ (l : List ℕ × List ℕ). l.1) (Ok-same read), cids.0, cids.1)

pub section-one : (a b x y cid other block content : List ℕ) → a ++ x ≡ b ++ y → IsSection a cid block → IsSection b other content →
    (a ≡ b) × (cid ≡ other) × (block ≡ content)
section-one a b x y cid other block content same p q =
    let all = sections-same a b x y cid other block content same p q in
    (all.0, all.2, all.3)

some-section : (cid block : List ℕ) → IsCid cid → 0 < length (cid ++ block)
some-section cid block is = omega (arith, length-append cid block, IsCid-length cid is)

section-none-by : (cid block rest : List ℕ) (fault : CarFault) (read : Result (List ℕ × List ℕ) CarFault) → IsCid cid → read ≡ Ok (cid ++ block, rest) → SectionRefused fault read → ⊥
section-none-by cid block rest fault (Err e) is h refused = Err-Ok h
section-none-by cid block rest fault (Ok (other, behind)) is h why =
    let same : other ≡ cid ++ block = ap (λ (l : List ℕ × List ℕ). l.0) (Ok-same h) in
    elim why [
      | inl none ↦ not_empty (cid ++ block) (some-section cid block is) (sym same ∙ none.1)
      | inr refused ↦ Err-both (sym refused.2.1 ∙ ap cid_at same ∙ cid_at-append cid block is)
    ] where
      Err-both : {A : Type 0} {x : CidFault} {y : A} → ◌≡◌ {A = Result A CidFault} (Err x) (Ok y) → ⊥
      Err-both e = cc

pub section-none : (front rest cid block : List ℕ) (fault : CarFault) → IsSection front cid block → SectionFault (front ++ rest) fault → ⊥
section-none front rest cid block fault is h =
    section-none-by cid block rest fault (framed_at 8388608 (front ++ rest)) is.is_cid (section-read front rest cid block is) (section-refused (front ++ rest) fault h)

-- ---- a section, or a refusal

abbrev pub Begins : List ℕ → Type 0
Begins bytes =
    ((front : List ℕ) × (rest : List ℕ) × (cid : List ℕ) × (block : List ℕ) × (bytes ≡ front ++ rest) × IsSection front cid block)
    ⊎ ((fault : CarFault) × SectionFault bytes fault)

section-by : (bytes body rest : List ℕ) → All (λ b. b < 256) body → bytes ≡ framed body ++ rest → 0 < length body → length body ≤ 8388608 →
    (read : Result (List ℕ × ℕ) CidFault) → cid_at body ≡ read → Begins bytes
section-by bytes body rest small e some fits (Err why) h = inr (BadCid, car.SectionFault.no_cid body rest why e some fits h)
section-by bytes body rest small e some fits (Ok (cid, n)) h =
    let is = cid_at-spelled body cid n small h in
    inl (framed body, rest, cid, drop n body, e, record { is_cid = is.0; fits = subst (λ (l : List ℕ). length l ≤ 8388608) is.2 fits; spelled = ap framed is.2 })

section-of : (bytes : List ℕ) → All (λ b. b < 256) bytes → (read : Result (List ℕ × List ℕ) CarFault) → Framed 8388608 bytes read → Begins bytes
section-of bytes small (Err fault) h = inr (fault, car.SectionFault.unframed h)
section-of bytes small (Ok ([], rest)) (e, fits) =
    inr (ZeroSection, car.SectionFault.zero_length rest (e ∙ ap (λ (l : List ℕ). l ++ rest) (append-nil (varint 0))))
section-of bytes small (Ok (b ∷ body, rest)) (e, fits) =
    let all = subst (All (λ b. b < 256)) e small in
    section-by bytes (b ∷ body) rest
    (all-right (varint (length (b ∷ body))) (b ∷ body) (all-left (framed (b ∷ body)) rest all)) e (omega arith) fits (cid_at (b ∷ body)) refl

pub section-either : (bytes : List ℕ) → All (λ b. b < 256) bytes → Begins bytes
section-either bytes small = section-of bytes small (framed_at 8388608 bytes) (framed-is 8388608 bytes small (framed_at 8388608 bytes) refl)

-- ---- the sections of bytes

some-front : (front cid block : List ℕ) → IsSection front cid block → 0 < length front
some-front front cid block is =
    let len : length front ≡ length (varint (length (cid ++ block))) + length (cid ++ block) = ap length is.spelled ∙ length-append (varint (length (cid ++ block))) (cid ++ block) in
    omega (arith, some-section cid block is.is_cid, len)

abbrev Found : ℕ → List ℕ → Type 0
Found at bytes = (sections : List Section) × (ending : Option CarRefusal) × AreSections at bytes sections ending

found : (most at : ℕ) (bytes : List ℕ) → All (λ b. b < 256) bytes → length bytes ≤ most → Found at bytes
found most at [] small fits = ([], None, car.AreSections.end)
found zero at (b ∷ bytes) small fits = absurd (omega arith)
found (suc most) at (b ∷ bytes) small fits =
    elim (section-either (b ∷ bytes) small) [
      | inl s ↦
          let front = s.0 in let rest = s.1 in
          let len : length (b ∷ bytes) ≡ length front + length rest = ap length s.4 ∙ length-append front rest in
          let later = found most (at + length front) rest (all-right front rest (subst (All (λ b. b < 256)) s.4 small)) (omega (arith, len, fits, some-front front s.2 s.3 s.5)) in
          (record { offset = at; cid = s.2; block = s.3 } ∷ later.0, later.1, car.AreSections.more front rest s.2 s.3 s.4 s.5 later.2)
      | inr r ↦ ([], Some (record { fault = r.0; offset = at }), car.AreSections.refused (omega arith) r.1)
    ]

pub sections-found : (at : ℕ) (bytes : List ℕ) → All (λ b. b < 256) bytes → Found at bytes
sections-found at bytes small = found (length bytes) at bytes small (omega arith)

pub sections-one : (at : ℕ) (bytes : List ℕ) (sections others : List Section) (ending other : Option CarRefusal) →
    AreSections at bytes sections ending → AreSections at bytes others other → (sections ≡ others) × (ending ≡ other)
sections-one at bytes sections others ending other car.AreSections.end h = ended at others other h where
  ended : (at : ℕ) (others : List Section) (other : Option CarRefusal) → AreSections at [] others other → ([] ≡ others) × (None ≡ other)
  ended at _ _ car.AreSections.end = (refl, refl)
  ended at _ _ (car.AreSections.refused some fault) = absurd (omega arith)
  ended at _ _ (car.AreSections.more front rest cid block e is later) =
      absurd (let len : 0 ≡ length front + length rest = ap length e ∙ length-append front rest in omega (arith, some-front front cid block is))
sections-one at bytes sections others ending other (car.AreSections.refused {fault = fault} some is) h = refused at bytes others other fault some is h where
  refused : (at : ℕ) (bytes : List ℕ) (others : List Section) (other : Option CarRefusal) (fault : CarFault) → 0 < length bytes → SectionFault bytes fault →
      AreSections at bytes others other → ([] ≡ others) × (Some (record { fault = fault; offset = at }) ≡ other)
  refused at _ _ _ fault some is car.AreSections.end = absurd (omega arith)
  refused at bytes _ _ fault some is (car.AreSections.refused {fault = also} _ i) = (refl, ap (λ (f : CarFault). Some (record { fault = f; offset = at })) (section_fault-one bytes fault also is i))
  refused at bytes _ _ fault some is (car.AreSections.more front rest cid block e section later) =
      absurd (section-none front rest cid block fault section (subst (λ (l : List ℕ). SectionFault l fault) e is))
sections-one at bytes _ others ending other (car.AreSections.more {sections = tail} front rest cid block e is later) h =
    more at bytes others other front rest cid block e is (λ t f i. sections-one (at + length front) rest tail t ending f later i) h where
      more : {tail : List Section} {ending : Option CarRefusal} (at : ℕ) (bytes : List ℕ) (others : List Section) (other : Option CarRefusal) (front rest cid block : List ℕ) →
          bytes ≡ front ++ rest → IsSection front cid block →
          ((t : List Section) (f : Option CarRefusal) → AreSections (at + length front) rest t f → (tail ≡ t) × (ending ≡ f)) →
          AreSections at bytes others other → (record { offset = at; cid = cid; block = block } ∷ tail ≡ others) × (ending ≡ other)
      more at _ _ _ front rest cid block e is later car.AreSections.end =
          absurd (let len : 0 ≡ length front + length rest = ap length e ∙ length-append front rest in omega (arith, some-front front cid block is))
      more at bytes _ _ front rest cid block e is later (car.AreSections.refused {fault = fault} some i) =
          absurd (section-none front rest cid block fault is (subst (λ (l : List ℕ). SectionFault l fault) e i))
      more {tail = tail} at bytes _ _ front rest cid block e is later (car.AreSections.more {sections = rest_of} {ending = end_of} b y c d f i then) =
          let same = sections-same front b rest y cid c block d (sym e ∙ f) is i in
          let at_front : AreSections (at + length front) y rest_of end_of =
          subst (λ (n : ℕ). AreSections n y rest_of end_of) (ap (λ (l : List ℕ). at + length l) (sym same.0)) then in
          let others = later rest_of end_of (subst (λ (l : List ℕ). AreSections (at + length front) l rest_of end_of) (sym same.1) at_front) in (
            ap (λ (c : List ℕ). record { offset = at; cid = c; block = block } ∷ tail) same.2
                ∙ ap (λ (d : List ℕ). record { offset = at; cid = c; block = d } ∷ tail) same.3
                ∙ ap (λ (l : List Section). record { offset = at; cid = c; block = d } ∷ l) others.0,
            others.1,
          )

pub car-one : (bytes : List ℕ) (roots others : List (List ℕ)) (sections those : List Section) (ending other : Option CarRefusal) →
    IsCar bytes roots sections ending → IsCar bytes others those other → (roots ≡ others) × (sections ≡ those) × (ending ≡ other)
car-one bytes roots others sections those ending other p q =
    let same : p.start ++ p.rest ≡ q.start ++ q.rest = sym p.spelled ∙ q.spelled in
    let one = start-one p.start q.start p.rest q.rest roots others same p.is_start q.is_start in
    let rest : p.rest ≡ q.rest = append_cancel_left p.start p.rest q.rest (same ∙ ap (λ (l : List ℕ). l ++ q.rest) (sym one.0)) in
    let at_start : AreSections (length p.start) q.rest those other =
    subst (λ (n : ℕ). AreSections n q.rest those other) (ap length (sym one.0)) q.are_sections in
    let lists = sections-one (length p.start) p.rest sections those ending other p.are_sections
    (subst (λ (l : List ℕ). AreSections (length p.start) l those other) (sym rest) at_start) in
    (one.1, lists.0, lists.1)

-- ---- a front of a CAR

-- bytes that begin with a section have it as their first
sections-next : (at : ℕ) (bytes : List ℕ) (all : List Section) (ending : Option CarRefusal) (front rest cid block : List ℕ) → bytes ≡ front ++ rest → IsSection front cid block →
    AreSections at bytes all ending → (tail : List Section) × (all ≡ record { offset = at; cid = cid; block = block } ∷ tail) × AreSections (at + length front) rest tail ending
sections-next at _ _ _ front rest cid block e is car.AreSections.end =
    absurd (let len : 0 ≡ length front + length rest = ap length e ∙ length-append front rest in omega (arith, some-front front cid block is))
sections-next at bytes _ _ front rest cid block e is (car.AreSections.refused {fault = fault} some i) =
    absurd (section-none front rest cid block fault is (subst (λ (l : List ℕ). SectionFault l fault) e i))
sections-next at bytes _ _ front rest cid block e is (car.AreSections.more {sections = rest_of} {ending = end_of} b y c d f i then) =
    let same = sections-same front b rest y cid c block d (sym e ∙ f) is i in
    let at_front : AreSections (at + length front) y rest_of end_of =
    subst (λ (n : ℕ). AreSections n y rest_of end_of) (ap (λ (l : List ℕ). at + length l) (sym same.0)) then in (
      rest_of,
      ap (λ (x : List ℕ). record { offset = at; cid = x; block = d } ∷ rest_of) (sym same.2) ∙ ap (λ (x : List ℕ). record { offset = at; cid = cid; block = x } ∷ rest_of) (sym same.3),
      subst (λ (l : List ℕ). AreSections (at + length front) l rest_of end_of) (sym same.1) at_front,
    )

sections-split : (at : ℕ) (front : List ℕ) (sections : List Section) (ended : Option CarRefusal) → AreSections at front sections ended → ended ≡ None →
    (rest : List ℕ) (all : List Section) (ending : Option CarRefusal) → AreSections at (front ++ rest) all ending → (more : List Section) × (all ≡ sections ++ more) × AreSections (at + length front) rest more ending
sections-split at _ _ _ car.AreSections.end none rest all ending h = (all, refl, subst (λ (n : ℕ). AreSections n rest all ending) (omega arith) h)
sections-split at _ _ _ (car.AreSections.refused some fault) none rest all ending h = absurd (let no : ⊥ = cc (none) in no)
sections-split at front _ _ (car.AreSections.more f r cid block e is later) none rest all ending h =
    let n = sections-next at (front ++ rest) all ending f (r ++ rest) cid block (ap (λ (l : List ℕ). l ++ rest) e ∙ append_assoc f r rest) is h in
    let s = sections-split (at + length f) r _ _ later none rest n.0 ending n.2 in
    let place : at + length f + length r ≡ at + length front = omega (arith, ap length e, length-append f r) in
    (s.0, n.1 ∙ ap (λ (l : List Section). record { offset = at; cid = cid; block = block } ∷ l) s.1, subst (λ (k : ℕ). AreSections k rest s.0 ending) place s.2)

-- what a front of a CAR says the whole says
pub car-split : (front rest : List ℕ) (roots others : List (List ℕ)) (sections all : List Section) (ending : Option CarRefusal) →
    IsCar front roots sections None → IsCar (front ++ rest) others all ending → (roots ≡ others) × ((more : List Section) × (all ≡ sections ++ more))
car-split front rest roots others sections all ending p q =
    let same : p.start ++ (p.rest ++ rest) ≡ q.start ++ q.rest = sym (append_assoc p.start p.rest rest) ∙ ap (λ (l : List ℕ). l ++ rest) (sym p.spelled) ∙ q.spelled in
    let one = start-one p.start q.start (p.rest ++ rest) q.rest roots others same p.is_start q.is_start in
    let behind : p.rest ++ rest ≡ q.rest = append_cancel_left p.start (p.rest ++ rest) q.rest (same ∙ ap (λ (l : List ℕ). l ++ q.rest) (sym one.0)) in
    let at_start : AreSections (length p.start) q.rest all ending = subst (λ (n : ℕ). AreSections n q.rest all ending) (ap length (sym one.0)) q.are_sections in
    let s = sections-split (length p.start) p.rest sections None p.are_sections refl rest all ending (subst (λ (l : List ℕ). AreSections (length p.start) l all ending) (sym behind) at_start) in
    (one.1, (s.0, s.1))
