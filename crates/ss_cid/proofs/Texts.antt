-- A text has one CID, and a CID one text.
use Rattle.std.proofs.Common.{◌≡◌, ℕ, zero, suc, ◌+◌, ◌-◌, ◌*◌, ◌/◌, ◌%◌, ◌^◌, ◌<◌, ◌≤◌, Bool, true, false, not, eqb, ltb, List, [], ◌∷◌, map, length, take, get_or, All, Ok, refl, ap, ap₂, sym, subst, ◌∙◌, arith}
use Rattle.std.specs.Int.Digits.{number_from_digits}
use Rattle.std.proofs.lemmas.Bool.{ltb-false, le-ltb, eqb-true, eq-eqb}
use Rattle.std.proofs.lemmas.Bool.Decides.{nat_tests}
use Rattle.std.proofs.lemmas.List.{length-map, get_or-map, take_all}
use Rattle.std.proofs.lemmas.List.Elements.{All-from_get_or}
use Rattle.std.proofs.lemmas.List.Sums.{position_or_len_is, fails_before_first}
use Rattle.std.proofs.lemmas.Nat.{pow-add, shl-shr, shl_below, shr_below, shr_split, mod_low, pow_pos}
use Rattle.std.proofs.Math.Nat.{pow-suc}
use Rattle.std.specs.Str.{IsAscii, IsUtf8}
use Rattle.std.proofs.lemmas.Str.{IsUtf8-from_ascii}
use Rattle.std.proofs.lemmas.Str.Ascii.{IsAscii-nil, IsAscii-cons}
use Rattle.ss_cid.specs.Base32.{letter, is_letter, letter_value, letter_count, letter_values, spelled_bytes, unused_bits}
use Rattle.ss_cid.specs.Text.{good_letters, is_cut, letters_bytes, text_bytes, cid_text, cid_from_text}
use Rattle.ss_cid.specs.Cid.{IsCid, cid_at, cid_len}
use Rattle.ss_cid.specs.declared.fault.CidFault.TheVariants.{BadText}
use Rattle.ss_cid.proofs.Chains.{bind-Ok, guard-Ok, chosen-Ok, Ok-same}
use Rattle.ss_cid.proofs.Grammar.{IsCid-length}
use Rattle.ss_cid.proofs.Digits.{length-digits, number-digits, number-lt, digits-number, digits-below}

-- ---- characters and their values

pub letter_value-letter : (v : ℕ) → v < 32 → (letter_value (letter v) ≡ v) × (is_letter (letter v) ≡ true)
letter_value-letter v small = (grind (arith, nat_tests), grind (arith, nat_tests))

pub letter-letter_value : (c : ℕ) → is_letter c ≡ true → (letter (letter_value c) ≡ c) × (letter_value c < 32)
letter-letter_value c good = (grind (arith, nat_tests), grind (arith, nat_tests))

values_of_letters : (vs : List ℕ) → All (λ v. v < 32) vs → map letter_value (map letter vs) ≡ vs
values_of_letters [] small = refl
values_of_letters (v ∷ vs) small =
    ap₂ (λ x xs. x ∷ xs) (letter_value-letter v (small 0 v (omega arith))).0 (values_of_letters vs (λ k d less. small (suc k) d (omega arith)))

letters_of_values : (cs : List ℕ) → ((j : ℕ) → j < length cs → is_letter (get_or cs j 0) ≡ true) → map letter (map letter_value cs) ≡ cs
letters_of_values [] good = refl
letters_of_values (c ∷ cs) good =
    ap₂ (λ x xs. x ∷ xs) (letter-letter_value c (good 0 (omega arith))).0 (letters_of_values cs (λ j less. good (suc j) (omega arith)))

-- ---- powers of the two bases

power_256 : (n : ℕ) → 256 ^ n ≡ 2 ^ (8 * n)
power_256 zero = refl
power_256 (suc n) =
    let more : 8 * suc n ≡ 8 * n + 8 = omega arith in
    pow-suc 256 n ∙ ap (λ p. p * 256) (power_256 n) ∙ sym (ap (λ m. 2 ^ m) more ∙ pow-add 2 (8 * n) 8)

power_32 : (n : ℕ) → 32 ^ n ≡ 2 ^ (5 * n)
power_32 zero = refl
power_32 (suc n) =
    let more : 5 * suc n ≡ 5 * n + 5 = omega arith in
    pow-suc 32 n ∙ ap (λ p. p * 32) (power_32 n) ∙ sym (ap (λ m. 2 ^ m) more ∙ pow-add 2 (5 * n) 5)

low_zeros : (n k : ℕ) → n * 2 ^ k % 2 ^ k ≡ 0
low_zeros n k =
    let none : n * 2 ^ k ≡ n * 2 ^ k + 0 = omega arith in
    ap (λ x. x % 2 ^ k) none ∙ mod_low n k 0 (pow_pos k)

-- ---- bytes to values and back

module _ (bytes : List ℕ) (small : All (λ b. b < 256) bytes) where
  unused : ℕ
  unused = 5 * letter_count (length bytes) - 8 * length bytes

  shifted : ℕ
  unfolding unused
  shifted = number_from_digits 256 bytes * 2 ^ unused

  shifted_fits : shifted < 32 ^ letter_count (length bytes)
  unfolding shifted unused
  shifted_fits =
      let fits : number_from_digits 256 bytes < 2 ^ (8 * length bytes) = subst (λ p. number_from_digits 256 bytes < p) (power_256 (length bytes)) (number-lt 256 bytes small) in
      let all : 8 * length bytes + unused ≡ 5 * letter_count (length bytes) = omega arith in
      subst (λ p. shifted < p) (ap (λ m. 2 ^ m) all ∙ sym (power_32 (letter_count (length bytes)))) (shl_below (number_from_digits 256 bytes) (8 * length bytes) unused fits)

  length-letter_values : length (letter_values bytes) ≡ letter_count (length bytes)
  unfolding letter_values
  length-letter_values = length-digits 32 (letter_count (length bytes)) _

  number-letter_values : number_from_digits 32 (letter_values bytes) ≡ shifted
  unfolding letter_values shifted unused
  number-letter_values = number-digits 32 (letter_count (length bytes)) shifted (omega arith) shifted_fits

  below-letter_values : All (λ v. v < 32) (letter_values bytes)
  unfolding letter_values
  below-letter_values = digits-below 32 (letter_count (length bytes)) _ (omega arith)

  unused_is : unused_bits (letter_count (length bytes)) ≡ unused
  unfolding unused
  unused_is = omega arith

  -- the values of some bytes spell them
  spelled-letter_values : spelled_bytes (letter_values bytes) ≡ bytes
  unfolding spelled_bytes shifted
  spelled-letter_values =
      let count : 5 * letter_count (length bytes) / 8 ≡ length bytes = omega arith in
      rw (length-letter_values, number-letter_values, count, unused_is, shl-shr (number_from_digits 256 bytes) unused) (digits-number 256 bytes small)

  -- and no unused bit is set
  rest-letter_values : number_from_digits 32 (letter_values bytes) % 2 ^ unused_bits (letter_count (length bytes)) ≡ 0
  unfolding shifted
  rest-letter_values = rw (number-letter_values, unused_is) (low_zeros (number_from_digits 256 bytes) unused)

-- values whose unused bits are zero are those of the bytes that they spell
letter_values-spelled : (values : List ℕ) → All (λ v. v < 32) values → unused_bits (length values) < 5 → number_from_digits 32 values % 2 ^ unused_bits (length values) ≡ 0
    → letter_values (spelled_bytes values) ≡ values
unfolding letter_values spelled_bytes
letter_values-spelled values small few none =
    let count = length values in
    let bytes = 5 * count / 8 in
    let rest = unused_bits count in
    let all = number_from_digits 32 values in
    let fits : all < 2 ^ (8 * bytes + rest)
    = subst (λ p. all < p) (power_32 count ∙ ap (λ m. 2 ^ m) (omega arith)) (number-lt 32 values small) in
    let high : all / 2 ^ rest < 256 ^ bytes = rw (power_256 bytes) (shr_below all (8 * bytes) rest fits) in
    let same : letter_count bytes ≡ count = omega arith in
    let gap : 5 * count - 8 * bytes ≡ rest = omega arith in
    let whole : all / 2 ^ rest * 2 ^ rest ≡ all = omega (arith, shr_split all rest, none) in
    rw (length-digits 256 bytes (all / 2 ^ rest), number-digits 256 bytes (all / 2 ^ rest) (omega arith) high, same, gap, whole) (digits-number 32 values small)

-- ---- texts

-- so many characters do not cut the last one off
not_cut : (n : ℕ) → unused_bits n < 5 → is_cut n ≡ false
not_cut n few = grind (arith, nat_tests)

all_good : (letters : List ℕ) → ((j : ℕ) → j < length letters → is_letter (get_or letters j 0) ≡ true) → good_letters letters ≡ length letters
all_good letters good =
    position_or_len_is (λ c. not (is_letter c)) letters (length letters) 0 (omega arith) (λ j less. ap not (good j less)) (λ more. absurd (omega arith))

-- the text of some bytes spells them
text_bytes-cid_text : (bytes : List ℕ) → All (λ b. b < 256) bytes → length bytes ≤ 72 → text_bytes (cid_text bytes) ≡ Ok bytes
unfolding cid_text text_bytes letters_bytes
text_bytes-cid_text bytes small short =
    let values = letter_values bytes in
    let letters = map letter values in
    let below = below-letter_values bytes small in
    let count : length letters ≡ letter_count (length bytes) = length-map values letter ∙ length-letter_values bytes small in
    let good : good_letters letters ≡ length letters = all_good letters
    (λ j less. let there : j < length values = omega (arith, length-map values letter) in
    rw (get_or-map letter values j 0 0 there) (letter_value-letter (get_or values j 0) (below j 0 there)).1) in
    let back : map letter_value letters ≡ values = values_of_letters values below in
    let long : ltb 117 (length letters + 1) ≡ false = le-ltb _ _ (omega (arith, count)) in
    let few : is_cut (letter_count (length bytes)) ≡ false = not_cut (letter_count (length bytes)) (omega arith) in
    rw (long, good, le-ltb (length letters) (length letters) (omega arith), count, few, back, rest-letter_values bytes small, spelled-letter_values bytes small) refl

pub cid_from_text-cid_text : (c : List ℕ) → IsCid c → cid_from_text (cid_text c) ≡ Ok c
unfolding cid_from_text cid_at
cid_from_text-cid_text c is =
    let bounds = IsCid-length c is in
    rw (text_bytes-cid_text c is.bytes bounds.1, is.whole, take_all (length c) c (omega arith), eq-eqb (length c) (length c) refl) refl

not-false : (b : Bool) → not b ≡ false → b ≡ true
not-false true h = refl
not-false false h = absurd (cc)

cut-few : (n : ℕ) → is_cut n ≡ false → unused_bits n < 5
cut-few n whole = grind (arith, nat_tests)

spelled-below : (values : List ℕ) → All (λ b. b < 256) (spelled_bytes values)
unfolding spelled_bytes
spelled-below values = digits-below 256 _ _ (omega arith)

-- a text that spells bytes is theirs
letters_bytes-spelled : (letters bytes : List ℕ) → letters_bytes letters ≡ Ok bytes → (map letter (letter_values bytes) ≡ letters) × All (λ b. b < 256) bytes
unfolding letters_bytes
letters_bytes-spelled letters bytes h =
    let count = length letters in
    let values = map letter_value letters in
    let good = guard-Ok (ltb (good_letters letters) count) (BadText (good_letters letters + 1)) _ bytes h in
    let whole = guard-Ok (is_cut count) (BadText (count + 1)) _ bytes good.1 in
    let zero = guard-Ok (not (eqb (number_from_digits 32 values % 2 ^ unused_bits count) 0)) (BadText count) _ bytes whole.1 in
    let is : spelled_bytes values ≡ bytes = Ok-same zero.1 in
    let enough : count ≤ good_letters letters = ltb-false _ _ good.0 in
    let place : (j : ℕ) → j < count → is_letter (get_or letters j 0) ≡ true
    = λ j less. not-false _ (fails_before_first (λ c. not (is_letter c)) letters j 0 (omega arith)) in
    let below : All (λ v. v < 32) values = All-from_get_or (λ v. v < 32) values 0
    (λ j less. let there : j < count = omega (arith, length-map letters letter_value) in
    rw (get_or-map letter_value letters j 0 0 there) (letter-letter_value (get_or letters j 0) (place j there)).1) in
    let len : length values ≡ count = length-map letters letter_value in
    let few : unused_bits (length values) < 5 = rw len (cut-few count whole.0) in
    let none : number_from_digits 32 values % 2 ^ unused_bits (length values) ≡ 0 = rw len (eqb-true _ _ (not-false _ zero.0)) in
    let back : letter_values bytes ≡ values = ap letter_values (sym is) ∙ letter_values-spelled values below few none in
    (ap (map letter) back ∙ letters_of_values letters place, subst (λ bs. All (λ b. b < 256) bs) is (spelled-below values))

text_bytes-spelled : (text bytes : List ℕ) → text_bytes text ≡ Ok bytes → (text ≡ cid_text bytes) × All (λ b. b < 256) bytes
unfolding text_bytes cid_text
text_bytes-spelled [] bytes h = absurd (cc)
text_bytes-spelled (first ∷ letters) bytes h =
    let sign = guard-Ok (not (eqb first 98)) (BadText 0) _ bytes h in
    let short = guard-Ok (ltb 117 (length letters + 1)) (BadText 117) _ bytes sign.1 in
    let spelled = letters_bytes-spelled letters bytes short.1 in
    let is : first ≡ 98 = grind (arith, nat_tests) in
    (ap₂ (λ x xs. x ∷ xs) is (sym spelled.0), spelled.1)

cid_at-Ok : (bytes : List ℕ) (found : List ℕ × ℕ) → cid_at bytes ≡ Ok found → (cid_len bytes ≡ Ok found.1) × (take found.1 bytes ≡ found.0)
unfolding cid_at
cid_at-Ok bytes found h =
    let len = bind-Ok (cid_len bytes) _ found h in
    let same = Ok-same len.2 in
    let is : len.0 ≡ found.1 = ap (λ p. p.1) same in
    (len.1 ∙ ap Ok is, ap (λ n. take n bytes) (sym is) ∙ ap (λ p. p.0) same)

pub cid_from_text-spelled : (text c : List ℕ) → cid_from_text text ≡ Ok c → (text ≡ cid_text c) × IsCid c
unfolding cid_from_text
cid_from_text-spelled text c h =
    let bytes = bind-Ok (text_bytes text) _ c h in
    let found = bind-Ok (cid_at bytes.0) _ c bytes.2 in
    let whole = chosen-Ok (eqb found.0.1 (length bytes.0)) (BadText (length text)) (Ok found.0.0) c found.2 in
    let spelled = text_bytes-spelled text bytes.0 bytes.1 in
    let read = cid_at-Ok bytes.0 found.0 found.1 in
    let all : found.0.1 ≡ length bytes.0 = eqb-true _ _ whole.0 in
    let same : bytes.0 ≡ c = sym (take_all found.0.1 bytes.0 (omega arith)) ∙ read.1 ∙ Ok-same whole.1 in (
      spelled.0 ∙ ap cid_text same,
      record {
        whole = ap cid_len (sym same) ∙ read.0 ∙ ap Ok (all ∙ ap length same);
        bytes = subst (λ bs. All (λ b. b < 256) bs) same spelled.1;
      },
    )

-- ---- a text is ASCII, hence UTF-8

letters-ascii : (vs : List ℕ) → All (λ v. v < 32) vs → IsAscii (map letter vs)
letters-ascii [] small = IsAscii-nil
letters-ascii (v ∷ vs) small =
    IsAscii-cons (letter v) (map letter vs) (letter-ascii v (small 0 v (omega arith)))
    (letters-ascii vs (λ k d less. small (suc k) d (omega arith))) where
      letter-ascii : (v : ℕ) → v < 32 → letter v < 128
      letter-ascii v below = grind (arith, nat_tests)

pub cid_text-IsUtf8 : (bytes : List ℕ) → IsUtf8 (cid_text bytes)
unfolding cid_text letter_values
cid_text-IsUtf8 bytes =
    IsUtf8-from_ascii _ (IsAscii-cons 98 _ (omega arith) (letters-ascii (letter_values bytes) (digits-below 32 _ _ (omega arith))))
