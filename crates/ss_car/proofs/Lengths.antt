-- A length, byte by byte.
use Rattle.std.proofs.Common.{◌≡◌, ◌⊎◌, inl, inr, IfErr, length-set, zero-add, ℕ, ◌+◌, ◌<◌, ◌≤◌, ◌^◌, Bool, true, false, cond, eqb, ltb, List, [], ◌∷◌, ◌++◌, length, take, set, get_or, All, refl, sym, ap, subst, ◌∙◌, arith, length-append}
use Rattle.std.specs.Prelude.{◌&&◌, Option, Some, None, Result, Ok, Err}
use Rattle.std.proofs.lemmas.List.{append-nil, get_or_append_left, take_more_set, get_or-take, length-take-le, get_or-set_same, get_or-set_other}
use Rattle.std.proofs.Math.Nat.{eq-or-lt_of_le}
use Rattle.std.proofs.Math.ListN.{drop_of_length-le}
use Rattle.std.proofs.Math.Seq.{take-append_seam}
use Rattle.std.specs.Option.{ForSome}
use Rattle.std.specs.Io.KnownBytes.{Keeps, Consumes, IsAtEnd}
use Rattle.ss_io.proofs.Told.{Consumes-append}
use Rattle.ss_cid.specs.Varint.{varint, varint_at, groups_value}
use Rattle.ss_cid.specs.declared.fault.CidFault.{CidFault}
use Rattle.ss_cid.specs.declared.fault.CidFault.TheVariants.{LongVarint}
use Rattle.ss_cid.proofs.Chains.{guard-Ok, Ok-both}
use Rattle.ss_cid.proofs.Varints.{AllHigh, varint_at-short, varint_at-long, varint_at-ends}
use Rattle.ss_cid.proofs.Spelling.{varint_at-spelled}
use Rattle.ss_car.specs.Car.{LengthFault, cut, long, UnframedFault, no_length, too_large, body_cut}
use Rattle.ss_car.specs.Bodies.{EndsOnce, Blames, TakesByte}
use Rattle.ss_car.specs.declared.fault.CarFault.TheVariants.{ReadFault, NoMemory, Truncated, BadHeader, BadVersion, ZeroSection, TooLarge, BadCid, BadLength}
use Rattle.ss_car.specs.declared.fault.CarFault.{CarFault}

-- ---- bytes that were taken

pub record Left (new : Option (List ℕ)) (front xs : List ℕ) : Type 0 where
  pub rest : List ℕ
  pub is : new ≡ Some rest
  pub parts : xs ≡ front ++ rest

pub Consumes-is : (old new : Option (List ℕ)) (front xs : List ℕ) → old ≡ Some xs → Consumes old new front → Left new front xs
Consumes-is None new front xs e h = absurd (cc)
Consumes-is (Some l) None front xs e h = absurd h
Consumes-is (Some l) (Some ys) front xs e h = record { rest = ys; is = refl; parts = cc }

-- the next byte, and the end
pub byte-taken : (old new : Option (List ℕ)) (found : Option ℕ) (b : ℕ) → found ≡ Some b → TakesByte old new found → Consumes old new (b ∷ [])
byte-taken old new found b is h = subst (TakesByte old new) is h

pub none-taken : (old new : Option (List ℕ)) (found : Option ℕ) → found ≡ None → TakesByte old new found → Keeps old new × IsAtEnd new
none-taken old new found is h = subst (TakesByte old new) is h

-- a fault of the bytes that were left is one of other bytes
pub Blames-by : (P Q : List ℕ → CarFault → Type 0) (a b : Option (List ℕ)) (fault : CarFault) →
    (ForSome a (λ xs. P xs fault) → ForSome b (λ xs. Q xs fault)) → Blames P a fault → Blames Q b fault
Blames-by P Q a b ReadFault f h = tt
Blames-by P Q a b NoMemory f h = tt
Blames-by P Q a b Truncated f h = f h
Blames-by P Q a b BadHeader f h = f h
Blames-by P Q a b (BadVersion version) f h = f h
Blames-by P Q a b ZeroSection f h = f h
Blames-by P Q a b TooLarge f h = f h
Blames-by P Q a b BadCid f h = f h
Blames-by P Q a b BadLength f h = f h

-- nothing is left behind what was taken
pub at_end : (old mid new : Option (List ℕ)) (front xs : List ℕ) → old ≡ Some xs → Consumes old mid front → Keeps mid new → IsAtEnd new → xs ≡ front
at_end None mid new front xs e h k a = absurd (cc)
at_end (Some l) None new front xs e h k a = absurd h
at_end (Some l) (Some ys) None front xs e h k a = absurd k
at_end (Some l) (Some ys) (Some zs) front xs e h k a =
    let none : ys ≡ [] = sym k ∙ a in
    let same : l ≡ xs = cc in
    sym same ∙ h ∙ ap (λ (r : List ℕ). front ++ r) none ∙ append-nil front

-- ---- a varint whose bytes end it

high-at : (bytes : List ℕ) (i j : ℕ) → i ≡ j → 128 ≤ get_or bytes j 0 → 128 ≤ get_or bytes i 0
high-at bytes i j e h = subst (λ (k : ℕ). 128 ≤ get_or bytes k 0) (sym e) h

low-at : (bytes : List ℕ) (i j : ℕ) → i ≡ j → get_or bytes j 0 < 128 → get_or bytes i 0 < 128
low-at bytes i j e h = subst (λ (k : ℕ). get_or bytes k 0 < 128) (sym e) h

-- the choice between a refusal and a value was a refusal
refused-by : {A : Type 0} (b : Bool) (fault other : CidFault) (x : A) → cond {A = Result A CidFault} b (Err other) (Ok x) ≡ Err fault → b ≡ true
refused-by true fault other x h = refl
refused-by false fault other x h = absurd (cc)

module _ (bytes : List ℕ) (once : EndsOnce bytes) where
  ending : (rest : List ℕ) → varint_at (bytes ++ rest) 0 ≡ cond (ltb 0 once.last && eqb (get_or bytes once.last 0) 0) (Err (LongVarint 0)) (Ok (groups_value bytes, length bytes))
  ending rest =
      let within : (j : ℕ) → j ≤ once.last → get_or (bytes ++ rest) j 0 ≡ get_or bytes j 0 = λ j le. get_or_append_left bytes rest 0 j (omega (arith, once.len)) in
      let high : AllHigh (bytes ++ rest) 0 once.last = λ j less. high-at _ (0 + j) j (omega arith) (subst (λ (x : ℕ). 128 ≤ x) (sym (within j (omega arith))) (once.high j less)) in
      let there : 0 + once.last < length (bytes ++ rest) = omega (arith, once.len, length-append bytes rest) in
      let last : get_or (bytes ++ rest) once.last 0 ≡ get_or bytes once.last 0 = within once.last (omega arith) in
      let all : take (once.last + 1) (bytes ++ rest) ≡ bytes = ap (λ (n : ℕ). take n (bytes ++ rest)) (sym once.len) ∙ take-append_seam bytes rest in
      let is = varint_at-ends (bytes ++ rest) 0 once.last once.few there high (low-at _ (0 + once.last) once.last (omega arith) (subst (λ (x : ℕ). x < 128) (sym last) once.ends)) in
      is ∙ rw (zero-add once.last, last, all, once.len) refl

  ending-alone : varint_at bytes 0 ≡ cond (ltb 0 once.last && eqb (get_or bytes once.last 0) 0) (Err (LongVarint 0)) (Ok (groups_value bytes, length bytes))
  ending-alone = ap (λ (b : List ℕ). varint_at b 0) (sym (append-nil bytes)) ∙ ending []

  pub length-spelled : (len count : ℕ) → All (λ b. b < 256) bytes → varint_at bytes 0 ≡ Ok (len, count) → (bytes ≡ varint len) × (count ≡ length bytes)
  length-spelled len count fits h =
      let picked = guard-Ok (ltb 0 once.last && eqb (get_or bytes once.last 0) 0) (LongVarint 0) (Ok (groups_value bytes, length bytes)) (len, count) (sym ending-alone ∙ h) in
      let same = Ok-both picked.1 in
      let count_is : count ≡ length bytes = sym same.1 in
      let spelled = varint_at-spelled bytes 0 len count fits h in
      (spelled ∙ ap (λ (l : List ℕ). varint len ++ l) (drop_of_length-le bytes (omega (arith, count_is))) ∙ append-nil (varint len), count_is)

  pub length-refused : (fault : CidFault) → varint_at bytes 0 ≡ Err fault → (rest : List ℕ) → varint_at (bytes ++ rest) 0 ≡ Err (LongVarint 0)
  length-refused fault h rest = ending rest ∙ rw (refused-by _ fault _ _ (sym ending-alone ∙ h)) refl

-- ---- the bytes so far

-- i bytes were taken, which have the high bit
pub record LengthSoFar (first now : Option (List ℕ)) (bytes : List ℕ) (i : ℕ) : Type 0 where
  pub taken : Consumes first now (take i bytes)
  pub high : (j : ℕ) → j < i → 128 ≤ get_or bytes j 0
  pub len : length bytes ≡ 9

module _ (first now : Option (List ℕ)) (bytes : List ℕ) (i : ℕ) (so_far : LengthSoFar first now bytes i) where
  -- the input ends here
  pub length-cut : (new : Option (List ℕ)) → i < 9 → Keeps now new → IsAtEnd new → (xs : List ℕ) → first ≡ Some xs → LengthFault xs Truncated
  length-cut new less keeps none xs e =
      let is : xs ≡ take i bytes = at_end first now new (take i bytes) xs e so_far.taken keeps none in
      let long : i ≡ length xs = sym (ap length is ∙ length-take-le i bytes (omega (arith, so_far.len))) in
      cut (varint_at-short xs 0 i less (omega (arith, long)) (λ j lt. high-at _ (0 + j) j (omega arith) (subst (λ (x : ℕ). 128 ≤ x) (sym (ap (λ (l : List ℕ). get_or l j 0) is ∙ get_or-take i bytes j 0 lt)) (so_far.high j lt))))

  -- nine bytes have the high bit
  pub length-long : i ≡ 9 → (xs : List ℕ) → first ≡ Some xs → LengthFault xs BadLength
  length-long nine xs e =
      let left = Consumes-is first now (take i bytes) xs e so_far.taken in
      let len : length xs ≡ 9 + length left.rest = ap length left.parts ∙ length-append (take i bytes) left.rest ∙ ap (λ (n : ℕ). n + length left.rest) (length-take-le i bytes (omega (arith, so_far.len)) ∙ nine) in
      long (varint_at-long xs 0 (omega (arith, len)) (λ j lt.
      let inside : j < i = omega (arith, nine) in
      let front : get_or xs j 0 ≡ get_or bytes j 0 = ap (λ (l : List ℕ). get_or l j 0) left.parts ∙ get_or_append_left (take i bytes) left.rest 0 j (omega (arith, length-take-le i bytes (omega (arith, so_far.len)))) ∙ get_or-take i bytes j 0 inside in
      high-at _ (0 + j) j (omega arith) (subst (λ (x : ℕ). 128 ≤ x) (sym front) (so_far.high j inside))))

  -- one more byte
  pub length-byte : (new : Option (List ℕ)) (b : ℕ) → i < 9 → Consumes now new (b ∷ []) → Consumes first new (take (i + 1) (set bytes i b))
  length-byte new b less more = subst (Consumes first new) (sym (take_more_set bytes i b (omega (arith, so_far.len)))) (Consumes-append first now new (take i bytes) (b ∷ []) so_far.taken more)

  pub length-more : (new : Option (List ℕ)) (b : ℕ) → i < 9 → 128 ≤ b → Consumes now new (b ∷ []) → LengthSoFar first new (set bytes i b) (i + 1)
  length-more new b less is more = record {
    taken = length-byte new b less more;
    high = λ j lt. high-byte j (eq-or-lt_of_le {n = j} {m = i} (omega arith));
    len = length-set bytes i b ∙ so_far.len;
  } where
    high-byte : (j : ℕ) → (j ≡ i) ⊎ (j < i) → 128 ≤ get_or (set bytes i b) j 0
    high-byte j (inl same) = high-at _ j i same (subst (λ (x : ℕ). 128 ≤ x) (sym (get_or-set_same bytes i b 0 (omega (arith, so_far.len)))) is)
    high-byte j (inr lower) = subst (λ (x : ℕ). 128 ≤ x) (sym (get_or-set_other bytes i j b 0 (λ e. omega arith))) (so_far.high j lower)

-- the bytes that were taken end the varint, and it is refused
pub refused-whole : {X : Type 0} (first new : Option (List ℕ)) (front : List ℕ) (result : Result X CarFault) → Consumes first new front →
    IfErr result (λ fault. (fault ≡ BadLength) × ((rest : List ℕ) → varint_at (front ++ rest) 0 ≡ Err (LongVarint 0))) → IfErr result (Blames LengthFault first)
refused-whole first new front (Ok x) taken h = tt
refused-whole first new front (Err e) taken h = subst (Blames LengthFault first) (sym h.0) (λ xs is.
    let left = Consumes-is first new front xs is taken in
    subst (λ (l : List ℕ). LengthFault l BadLength) (sym left.parts) (long (h.1 left.rest)))

-- ---- a length and as many bytes

module _ (limit : ℕ) (first : Option (List ℕ)) where
  pub unframed-length : (fault : CarFault) → Blames LengthFault first fault → Blames (UnframedFault limit) first fault
  unframed-length fault = Blames-by LengthFault (UnframedFault limit) first first fault (λ h xs is. no_length (h xs is))

  module _ (mid : Option (List ℕ)) (len : ℕ) (taken : Consumes first mid (varint len)) where
    pub unframed-large : len < 2 ^ 63 → limit < len → (xs : List ℕ) → first ≡ Some xs → UnframedFault limit xs TooLarge
    unframed-large few more xs is =
        let left = Consumes-is first mid (varint len) xs is taken in
        too_large len left.rest left.parts few more

    pub unframed-body : len ≤ limit → (fault : CarFault) → Blames (λ bytes fault. (fault ≡ Truncated) × (length bytes < len)) mid fault → Blames (UnframedFault limit) first fault
    unframed-body fits fault = Blames-by (λ bytes fault. (fault ≡ Truncated) × (length bytes < len)) (UnframedFault limit) mid first fault (λ h xs is.
        let left = Consumes-is first mid (varint len) xs is taken in
        let short = h left.rest left.is in
        subst (UnframedFault limit xs) (sym short.0) (body_cut len left.rest left.parts fits short.1))
