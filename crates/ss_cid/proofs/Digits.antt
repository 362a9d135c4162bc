-- A fixed number of digits.
use Rattle.std.proofs.Common.{◌≡◌, ℕ, zero, suc, ◌+◌, ◌*◌, ◌/◌, ◌%◌, ◌^◌, ◌<◌, ◌≤◌, List, [], ◌∷◌, ◌++◌, length, take, get_or, All, refl, ap, ap₂, sym, subst, ◌∙◌, arith}
use Rattle.std.specs.Int.Digits.{number_from_digits}
use Rattle.std.proofs.lemmas.Int.Digits.{number_push, number_more}
use Rattle.std.proofs.lemmas.List.{length_push, take_all, take_more}
use Rattle.std.proofs.lemmas.List.Elements.{All-push}
use Rattle.std.proofs.lemmas.Nat.{mul-add-lt, div-mul-add, mod-mul-add, div_below, mod_below, div-add-mod'}
use Rattle.std.proofs.Math.Nat.{pow-suc, pow-zero, mul_comm}
use Rattle.std.proofs.Math.Numerals.{add-one}
use Rattle.ss_cid.specs.Base32.{digits}

pub digits-more : (base k n : ℕ) → digits base (k + 1) n ≡ digits base k (n / base) ++ n % base ∷ []
unfolding digits
digits-more base k n = ap (λ m. digits base m n) (add-one k)

pub length-digits : (base k n : ℕ) → length (digits base k n) ≡ k
unfolding digits
length-digits base zero n = refl
length-digits base (suc k) n = length_push (digits base k (n / base)) (n % base) ∙ ap (λ m. m + 1) (length-digits base k (n / base)) ∙ add-one k

-- the digits of a number make the number
pub number-digits : (base k n : ℕ) → 0 < base → n < base ^ k → number_from_digits base (digits base k n) ≡ n
unfolding digits
number-digits base zero n pos small = let one = pow-zero base in omega arith
number-digits base (suc k) n pos small =
    let fewer : n / base < base ^ k = div_below n base (base ^ k) pos (omega (arith, pow-suc base k)) in
    number_push base (digits base k (n / base)) (n % base)
    ∙ ap (λ m. m * base + n % base) (number-digits base k (n / base) pos fewer) ∙ div-add-mod' n base

mul-add-lt' : (a w b h : ℕ) → a < h → b < w → a * w + b < h * w
mul-add-lt' a w b h less below = rw (mul_comm h w) (mul-add-lt a w b h less below)

module _ (base : ℕ) (ds : List ℕ) (below : All (λ d. d < base) ds) where
  -- the digits make a number with so many digits
  number_take-lt : (i : ℕ) → i ≤ length ds → number_from_digits base (take i ds) < base ^ i
  number_take-lt zero less = let one = pow-zero base in omega arith
  number_take-lt (suc i) less =
      let there : i < length ds = omega arith in
      let digit : get_or ds i 0 < base = below i 0 there in
      let front = number_take-lt i (omega arith) in
      let more : number_from_digits base (take (suc i) ds) ≡ number_from_digits base (take i ds) * base + get_or ds i 0
      = ap (λ m. number_from_digits base (take m ds)) (sym (add-one i)) ∙ number_more base ds i there in
      rw (more, pow-suc base i) (mul-add-lt' (number_from_digits base (take i ds)) base (get_or ds i 0) (base ^ i) front digit)

  pub number-lt : number_from_digits base ds < base ^ length ds
  number-lt = subst (λ xs. number_from_digits base xs < base ^ length ds) (take_all (length ds) ds (omega arith)) (number_take-lt (length ds) (omega arith))

  -- and its digits are they
  digits-number_take : (i : ℕ) → i ≤ length ds → digits base i (number_from_digits base (take i ds)) ≡ take i ds
  unfolding digits
  digits-number_take zero less = refl
  digits-number_take (suc i) less =
      let there : i < length ds = omega arith in
      let digit : get_or ds i 0 < base = below i 0 there in
      let front = number_from_digits base (take i ds) in
      let last = get_or ds i 0 in
      let more : number_from_digits base (take (suc i) ds) ≡ front * base + last
      = ap (λ m. number_from_digits base (take m ds)) (sym (add-one i)) ∙ number_more base ds i there in
      let whole : take (suc i) ds ≡ take i ds ++ last ∷ [] = ap (λ m. take m ds) (sym (add-one i)) ∙ take_more ds i 0 there in
      ap (digits base (suc i)) more
      ∙ ap₂ (λ high low. digits base i high ++ low ∷ []) (div-mul-add front base last digit) (mod-mul-add front base last digit)
      ∙ ap (λ xs. xs ++ last ∷ []) (digits-number_take i (omega arith)) ∙ sym whole

  pub digits-number : digits base (length ds) (number_from_digits base ds) ≡ ds
  digits-number =
      let all = take_all (length ds) ds (omega arith) in
      ap (λ xs. digits base (length ds) (number_from_digits base xs)) (sym all) ∙ digits-number_take (length ds) (omega arith) ∙ all

-- each of them is below the base
pub digits-below : (base k n : ℕ) → 0 < base → All (λ d. d < base) (digits base k n)
unfolding digits
digits-below base zero n pos = λ i d less. absurd (omega arith)
digits-below base (suc k) n pos =
    All-push (λ d. d < base) (digits base k (n / base)) (n % base) (digits-below base k (n / base) pos) (mod_below n base pos)
