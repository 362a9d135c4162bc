-- Bytes begin with one header or one section at most, or are refused by one fault.
use Rattle.std.proofs.Common.{◌≡◌, ◌⊎◌, inl, inr, ℕ, ◌^◌, ◌<◌, ◌≤◌, Bool, true, false, cond, ltb, List, [], ◌++◌, length, take, drop, All, Option, Some, None, Result, Ok, Err, refl, sym, ap, subst, ◌∙◌, append_assoc, zero-add, arith, length-append}
use Rattle.std.proofs.Math.Seq.{take-append_seam, drop-append_seam}
use Rattle.std.proofs.lemmas.Bool.{cases_lt, cases_eq, lt-ltb, le-ltb, ltb-false, ltb-true}
use Rattle.std.proofs.lemmas.List.{take-append-drop, get_or_past, length-take-le}
use Rattle.std.proofs.lemmas.List.Elements.{All-get_or}
use Rattle.ss_cid.specs.Varint.{varint, varint_at}
use Rattle.ss_cid.specs.declared.fault.CidFault.{CidFault}
use Rattle.ss_cid.specs.declared.fault.CidFault.TheVariants.{Short, LongVarint}
use Rattle.ss_cid.proofs.Chains.{Ok-same}
use Rattle.ss_cid.proofs.Groups.{varint-Stands}
use Rattle.ss_cid.proofs.Spelling.{varint_at-fits, varint_at-spelled}
use Rattle.ss_cid.proofs.Varints.{Stands, Stands-varint_at}
use Rattle.ss_cbor.proofs.Numbers.{IsBytes, IsBytes-left, IsBytes-right}
use Rattle.ss_car.specs.Car as car
use Rattle.ss_car.specs.Car.{framed, IsHeader, IsStart, UnframedFault, StartFault, cut, long, no_length, too_large, body_cut}
use Rattle.ss_car.specs.HeaderReading.{header_in}
use Rattle.ss_car.specs.declared.fault.CarFault.{CarFault}
use Rattle.ss_car.specs.declared.fault.CarFault.TheVariants.{Truncated, BadHeader, BadVersion, TooLarge, BadLength}
use Rattle.ss_car.proofs.Headers.{header-is, header-again}

-- ---- a length and as many bytes

-- what a length that was read says of the bytes, or why there is none
abbrev pub by_length : ℕ → List ℕ → Result (ℕ × ℕ) CidFault → Result (List ℕ × List ℕ) CarFault
by_length limit bytes (Ok (len, count)) =
    cond (ltb limit len) (Err TooLarge)
    (cond (ltb (length (drop count bytes)) len) (Err Truncated) (Ok (take len (drop count bytes), drop len (drop count bytes))))
by_length limit bytes (Err (Short at)) = Err Truncated
by_length limit bytes (Err _) = Err BadLength

-- the bytes that a length counts, and those that follow them
abbrev pub framed_at : ℕ → List ℕ → Result (List ℕ × List ℕ) CarFault
framed_at limit bytes = by_length limit bytes (varint_at bytes 0)

varint-first : (n : ℕ) (bytes rest : List ℕ) → bytes ≡ varint n ++ rest → n < 2 ^ 63 → varint_at bytes 0 ≡ Ok (n, length (varint n))
varint-first n bytes rest e fits =
    ap (λ (b : List ℕ). varint_at b 0) e
    ∙ Stands-varint_at (varint n ++ rest) 0 n (length (varint n))
    (subst (Stands (varint n ++ rest) 0 n) (zero-add (length (varint n))) (varint-Stands [] rest n fits))

module _ (limit : ℕ) (few : limit < 2 ^ 63) (bytes : List ℕ) where
  pub framed-again : (body rest : List ℕ) → bytes ≡ framed body ++ rest → length body ≤ limit → framed_at limit bytes ≡ Ok (body, rest)
  framed-again body rest e fits =
      let parts : bytes ≡ varint (length body) ++ (body ++ rest) = e ∙ append_assoc (varint (length body)) body rest in
      let first = varint-first (length body) bytes (body ++ rest) parts (omega arith) in
      let behind : drop (length (varint (length body))) bytes ≡ body ++ rest =
      ap (drop (length (varint (length body)))) parts ∙ drop-append_seam (varint (length body)) (body ++ rest) in
      let enough : length body ≤ length (body ++ rest) = omega (arith, length-append body rest) in
      ap (by_length limit bytes) first
      ∙ rw (behind, le-ltb limit (length body) fits, le-ltb (length (body ++ rest)) (length body) enough, take-append_seam body rest, drop-append_seam body rest) refl

  pub unframed-is : (fault : CarFault) → UnframedFault limit bytes fault → framed_at limit bytes ≡ Err fault
  unframed-is _ (no_length (cut h)) = ap (by_length limit bytes) h
  unframed-is _ (no_length (long h)) = ap (by_length limit bytes) h
  unframed-is _ (too_large len rest e room more) =
      ap (by_length limit bytes) (varint-first len bytes rest e room) ∙ rw (lt-ltb limit len more) refl
  unframed-is _ (body_cut len rest e fits short) =
      let behind : drop (length (varint len)) bytes ≡ rest = ap (drop (length (varint len))) e ∙ drop-append_seam (varint len) rest in
      ap (by_length limit bytes) (varint-first len bytes rest e (omega arith)) ∙ rw (behind, le-ltb limit len fits, lt-ltb (length rest) len short) refl

-- ---- and the other way round

varint-refused : (bytes : List ℕ) (fault : CidFault) → varint_at bytes 0 ≡ Err fault → (fault ≡ LongVarint 0) ⊎ (fault ≡ Short (length bytes))
unfolding varint_at
varint-refused bytes fault h = by _ _ _ _ h where
  Err-fault : {A : Type 0} {x y : CidFault} → ◌≡◌ {A = Result A CidFault} (Err x) (Err y) → x ≡ y
  Err-fault e = cc

  by : (a b c : Bool) (x : ℕ × ℕ) → cond {A = Result (ℕ × ℕ) CidFault} a (Err (LongVarint 0)) (cond b (Err (Short (length bytes))) (cond c (Err (LongVarint 0)) (Ok x))) ≡ Err fault →
      (fault ≡ LongVarint 0) ⊎ (fault ≡ Short (length bytes))
  by true b c x e = inl (sym (Err-fault e))
  by false true c x e = inr (sym (Err-fault e))
  by false false true x e = inl (sym (Err-fault e))
  by false false false x e = absurd (cc)

-- what the bytes are, by what reading them gives
abbrev pub Framed : ℕ → List ℕ → Result (List ℕ × List ℕ) CarFault → Type 0
Framed limit bytes (Ok (body, rest)) = (bytes ≡ framed body ++ rest) × (length body ≤ limit)
Framed limit bytes (Err fault) = UnframedFault limit bytes fault

module _ (limit : ℕ) (bytes : List ℕ) (small : All (λ b. b < 256) bytes) where
  counted : (len count : ℕ) → varint_at bytes 0 ≡ Ok (len, count) → (more short : Bool) → ltb limit len ≡ more → ltb (length (drop count bytes)) len ≡ short →
      Framed limit bytes (cond more (Err TooLarge) (cond short (Err Truncated) (Ok (take len (drop count bytes), drop len (drop count bytes)))))
  counted len count h true short e f =
      too_large len (drop count bytes) (varint_at-spelled bytes 0 len count small h) (varint_at-fits bytes 0 len count h) (ltb-true limit len e)
  counted len count h false true e f =
      body_cut len (drop count bytes) (varint_at-spelled bytes 0 len count small h) (ltb-false limit len e) (ltb-true (length (drop count bytes)) len f)
  counted len count h false false e f =
      let behind = drop count bytes in
      let is : length (take len behind) ≡ len = length-take-le len behind (ltb-false (length behind) len f) in (
        varint_at-spelled bytes 0 len count small h
            ∙ ap (λ (l : List ℕ). varint len ++ l) (sym (take-append-drop len behind))
            ∙ sym (append_assoc (varint len) (take len behind) (drop len behind))
            ∙ ap (λ (n : ℕ). (varint n ++ take len behind) ++ drop len behind) (sym is),
        omega (arith, is, ltb-false limit len e),
      )

  framed-by : (read : Result (ℕ × ℕ) CidFault) → varint_at bytes 0 ≡ read → Framed limit bytes (by_length limit bytes read)
  framed-by (Ok (len, count)) h = counted len count h (ltb limit len) (ltb (length (drop count bytes)) len) refl refl
  framed-by (Err fault) h =
      elim (varint-refused bytes fault h) [
        | inl e ↦ subst (λ (f : CidFault). Framed limit bytes (by_length limit bytes (Err f))) (sym e) (no_length (long (h ∙ ap (λ (f : CidFault). Err f) e)))
        | inr e ↦ subst (λ (f : CidFault). Framed limit bytes (by_length limit bytes (Err f))) (sym e) (no_length (cut (h ∙ ap (λ (f : CidFault). Err f) e)))
      ]

  pub framed-is : (read : Result (List ℕ × List ℕ) CarFault) → framed_at limit bytes ≡ read → Framed limit bytes read
  framed-is read e = subst (Framed limit bytes) e (framed-by (varint_at bytes 0) refl)

-- ---- one header

Err-one : {A : Type 0} {x y : CarFault} → ◌≡◌ {A = Result A CarFault} (Err x) (Err y) → x ≡ y
Err-one e = cc

pub Err-Ok : {A : Type 0} {x : CarFault} {y : A} → ◌≡◌ {A = Result A CarFault} (Err x) (Ok y) → ⊥
Err-Ok e = cc

-- a refusal, by the bytes that the length counts
record OtherVersion (body : List ℕ) (fault : CarFault) : Type 0 where
  pub roots : List (List ℕ)
  pub version : ℕ
  pub is : IsHeader body roots version
  pub other : version ≡ 1 → ⊥
  pub fault_is : fault ≡ BadVersion version

abbrev NoHeader : List ℕ → CarFault → Type 0
NoHeader body fault = (fault ≡ BadHeader) × ((roots : List (List ℕ)) (version : ℕ) → IsHeader body roots version → ⊥)

abbrev StartRefused : CarFault → Result (List ℕ × List ℕ) CarFault → Type 0
StartRefused fault (Err e) = e ≡ fault
StartRefused fault (Ok (body, rest)) = (length body ≤ 1048576) × (NoHeader body fault ⊎ OtherVersion body fault)

start-refused : (bytes : List ℕ) (fault : CarFault) → StartFault bytes fault → StartRefused fault (framed_at 1048576 bytes)
start-refused bytes fault (car.StartFault.unframed h) = subst (StartRefused fault) (sym (unframed-is 1048576 (omega arith) bytes fault h)) refl
start-refused bytes _ (car.StartFault.no_header body rest e fits none) =
    subst (StartRefused BadHeader) (sym (framed-again 1048576 (omega arith) bytes body rest e fits)) (fits, inl (refl, none))
start-refused bytes _ (car.StartFault.other_version body rest roots version e fits is other) =
    subst (StartRefused (BadVersion version)) (sym (framed-again 1048576 (omega arith) bytes body rest e fits))
    (fits, inr (record { roots = roots; version = version; is = is; other = other; fault_is = refl }))

header-one : (body : List ℕ) (roots others : List (List ℕ)) (version other : ℕ) → length body ≤ 1048576 →
    IsHeader body roots version → IsHeader body others other → (roots ≡ others) × (version ≡ other)
header-one body roots others version other fits is also =
    let first = header-again body (roots, version) (omega arith) is in
    let second = header-again body (others, other) (omega arith) also in
    let same : ◌≡◌ {A = List (List ℕ) × ℕ} (roots, version) (others, other) = cc in
    (ap (λ (x : List (List ℕ) × ℕ). x.0) same, ap (λ (x : List (List ℕ) × ℕ). x.1) same)

start-one-by : (e f : CarFault) (read : Result (List ℕ × List ℕ) CarFault) → StartRefused e read → StartRefused f read → e ≡ f
start-one-by e f (Err x) h i = sym h ∙ i
start-one-by e f (Ok (body, rest)) (fits, inl (is, none)) (_, inl (also, _)) = is ∙ sym also
start-one-by e f (Ok (body, rest)) (fits, inl (is, none)) (_, inr also) = absurd (none also.roots also.version also.is)
start-one-by e f (Ok (body, rest)) (fits, inr is) (_, inl (also, none)) = absurd (none is.roots is.version is.is)
start-one-by e f (Ok (body, rest)) (fits, inr is) (_, inr also) =
    is.fault_is ∙ ap BadVersion (header-one body is.roots also.roots is.version also.version fits is.is also.is).1 ∙ sym also.fault_is

pub start_fault-one : (bytes : List ℕ) (e f : CarFault) → StartFault bytes e → StartFault bytes f → e ≡ f
start_fault-one bytes e f h i = start-one-by e f (framed_at 1048576 bytes) (start-refused bytes e h) (start-refused bytes f i)

start-read : (front rest : List ℕ) (roots : List (List ℕ)) (is : IsStart front roots) → framed_at 1048576 (front ++ rest) ≡ Ok (is.header, rest)
start-read front rest roots is =
    framed-again 1048576 (omega arith) (front ++ rest) is.header rest (ap (λ (l : List ℕ). l ++ rest) is.spelled) is.fits

pub start-one : (a b x y : List ℕ) (roots others : List (List ℕ)) → a ++ x ≡ b ++ y → IsStart a roots → IsStart b others → (a ≡ b) × (roots ≡ others)
start-one a b x y roots others same p q =
    let read = sym (start-read a x roots p) ∙ ap (framed_at 1048576) same ∙ start-read b y others q in
    let body : p.header ≡ q.header = ap (λ (l : List ℕ × List ℕ). l.0) (Ok-same read) in (
      p.spelled ∙ ap framed body ∙ sym q.spelled,
      (header-one q.header roots others 1 1 q.fits (subst (λ (l : List ℕ). IsHeader l roots 1) body p.is_header) q.is_header).0,
    )

start-none-by : (body rest : List ℕ) (roots : List (List ℕ)) (fault : CarFault) (read : Result (List ℕ × List ℕ) CarFault) →
    IsHeader body roots 1 → read ≡ Ok (body, rest) → StartRefused fault read → ⊥
start-none-by body rest roots fault (Err e) is h refused = Err-Ok h
start-none-by body rest roots fault (Ok (other, behind)) is h (fits, why) =
    let same : other ≡ body = ap (λ (l : List ℕ × List ℕ). l.0) (Ok-same h) in
    let also : IsHeader other roots 1 = subst (λ (l : List ℕ). IsHeader l roots 1) (sym same) is in
    elim why [
      | inl none ↦ none.1 roots 1 also
      | inr o ↦ o.other ((header-one other o.roots roots o.version 1 fits o.is also).1)
    ]

pub start-none : (front rest : List ℕ) (roots : List (List ℕ)) (fault : CarFault) → IsStart front roots → StartFault (front ++ rest) fault → ⊥
start-none front rest roots fault is h =
    start-none-by is.header rest roots fault (framed_at 1048576 (front ++ rest)) is.is_header (start-read front rest roots is) (start-refused (front ++ rest) fault h)

-- ---- a header, or a refusal

bytes-of : (bytes : List ℕ) → All (λ b. b < 256) bytes → IsBytes bytes
bytes-of bytes h i =
    elim (cases_lt i (length bytes)) [
      | inl lt ↦ All-get_or (λ b. b < 256) bytes i 0 lt h
      | inr le ↦ rw (get_or_past bytes i 0 le) (omega arith)
    ]

abbrev pub Start : List ℕ → Type 0
Start bytes =
    ((front : List ℕ) × (rest : List ℕ) × (roots : List (List ℕ)) × (bytes ≡ front ++ rest) × IsStart front roots)
    ⊎ ((fault : CarFault) × StartFault bytes fault)

start-versioned : (bytes body rest : List ℕ) (roots : List (List ℕ)) (version : ℕ) → bytes ≡ framed body ++ rest → length body ≤ 1048576 →
    IsHeader body roots version → Start bytes
start-versioned bytes body rest roots version e fits is =
    elim (cases_eq version 1) [
      | inl same ↦ inl (framed body, rest, roots, e, record { header = body; is_header = subst (IsHeader body roots) same is; fits = fits; spelled = refl })
      | inr other ↦ inr (BadVersion version, car.StartFault.other_version body rest roots version e fits is other)
    ]

start-by : (bytes body rest : List ℕ) → All (λ b. b < 256) bytes → bytes ≡ framed body ++ rest → length body ≤ 1048576 →
    (read : Option (List (List ℕ) × ℕ)) → header_in body ≡ read → Start bytes
start-by bytes body rest small e fits None h = inr (BadHeader, car.StartFault.no_header body rest e fits (λ roots version is. absurd (let again = header-again body (roots, version) (omega arith) is in cc)))
start-by bytes body rest small e fits (Some (roots, version)) h =
    let bytes_is = subst IsBytes e (bytes-of bytes small) in
    let inside = IsBytes-right (varint (length body)) body (IsBytes-left (framed body) rest bytes_is) in
    start-versioned bytes body rest roots version e fits (header-is body inside (roots, version) h)

start-of : (bytes : List ℕ) → All (λ b. b < 256) bytes → (read : Result (List ℕ × List ℕ) CarFault) → Framed 1048576 bytes read → Start bytes
start-of bytes small (Err fault) h = inr (fault, car.StartFault.unframed h)
start-of bytes small (Ok (body, rest)) (e, fits) = start-by bytes body rest small e fits (header_in body) refl

pub start-either : (bytes : List ℕ) → All (λ b. b < 256) bytes → Start bytes
start-either bytes small = start-of bytes small (framed_at 1048576 bytes) (framed-is 1048576 bytes small (framed_at 1048576 bytes) refl)
