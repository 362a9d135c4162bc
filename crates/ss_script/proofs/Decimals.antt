-- A decimal number of a script, as std's `parse` reads it.
use Rattle.std.proofs.Common.{◌≡◌, ℕ, ◌<◌, ◌^◌, Bool, true, false, cond, List, [], ◌∷◌, Result, Ok, Err, length, refl, sym, ap, ◌∙◌, arith, ◌&&◌, not, zero, suc}
use Rattle.std.specs.Prelude.{nat_lt, ◌==◌, ◌||◌, slice_index}
use Rattle.std.specs.List.{list_all}
use Rattle.std.specs.Char.{is_ascii_digit}
use Rattle.std.specs.Fmt.{decimal}
use Rattle.std.specs.Option.{ok_or}
use Rattle.std.specs.Result.{result_ok, OkIff}
use Rattle.std.specs.Str.{IsUtf8, IsAscii, all_ascii_digits}
use Rattle.std.specs.Str.Parse.{ParsesUnsigned, digits_value}
use Rattle.std.proofs.lemmas.Bool.{and_parts, lt-ltb, ltb-true, ltb-false}
use Rattle.std.proofs.lemmas.Bool.Decides.{nat_tests}
use Rattle.std.proofs.lemmas.Fmt.{IsAscii-from_digits, decimal-digits_value, decimal_nonempty, digits_decimal, first_decimal}
use Rattle.std.proofs.lemmas.Str.{IsUtf8-from_ascii}
use Rattle.std.proofs.lemmas.Str.Parse.{IsNumeralModel, numerals_by_value, tells_all_ascii_digits, parse_digits}
use Rattle.ss_script.specs.declared.fault.ScriptKind.TheVariants.{BadNumber}
use Rattle.ss_script.specs.Fields.{is_number, number_of}

own : IsNumeralModel (λ ds. all_ascii_digits ds ≡ true) (digits_value 10)
own = numerals_by_value _ tells_all_ascii_digits

digits_are : (bs : List ℕ) → list_all is_ascii_digit bs ≡ all_ascii_digits bs
digits_are [] = refl
digits_are (b ∷ bs) = ap (λ rest. is_ascii_digit b && rest) (digits_are bs)

number_digits : (bs : List ℕ) → is_number bs ≡ true → all_ascii_digits bs ≡ true
number_digits bs is = sym (digits_are bs) ∙ (and_parts _ _ (and_parts (nat_lt 0 (length bs)) _ is).1).0

numeral_is_ascii : (bs : List ℕ) → all_ascii_digits bs ≡ true → IsAscii bs
numeral_is_ascii bs is = IsAscii-from_digits bs (own.to bs is)

pub number_text : (bs : List ℕ) → is_number bs ≡ true → IsUtf8 bs
number_text bs is = IsUtf8-from_ascii bs (numeral_is_ascii bs (number_digits bs is))

-- a printed number is a number
pub number_printed : (n : ℕ) → n < 2 ^ 64 → is_number (decimal n) ≡ true
number_printed n small = and_all _ _ _ (lt-ltb 0 _ (decimal_nonempty n small)) (digits_are (decimal n) ∙ digits_decimal own n small) (first_digit n small)
  where
    and_all : (a b c : Bool) → a ≡ true → b ≡ true → c ≡ true → (a && (b && c)) ≡ true
    and_all a b c p q r = rw (p, q, r) refl

    or_not : (a b : Bool) → b ≡ false → (a || not b) ≡ true
    or_not true b is = refl
    or_not false b is = rw is refl

    first_digit : (n : ℕ) → n < 2 ^ 64 → ((length (decimal n) == 1) || not (slice_index (decimal n) 0 == 48)) ≡ true
    first_digit zero small =
        let alone : decimal 0 ≡ 48 ∷ [] = decimal-digits_value own (48 ∷ []) refl (omega arith) (λ _. refl) (omega arith) in
        rw alone refl
    first_digit (suc m) small =
        let above = first_decimal (suc m) (omega arith) small in
        or_not (length (decimal (suc m)) == 1) _ (grind (arith, nat_tests, above))

-- at any width the parse is the number, where it fits
pub number_parses : {E : Type 0} (width : ℕ) (bs : List ℕ) (r : Result ℕ E) → is_number bs ≡ true → ParsesUnsigned width 10 bs r → OkIff r ((0 < length bs) × (digits_value 10 bs < 2 ^ width)) (digits_value 10 bs)
number_parses width bs r is parses = parse_digits own width bs r parses (number_digits bs is)

pub number_parsed : {E : Type 0} (bs : List ℕ) (r : Result ℕ E) → is_number bs ≡ true → ParsesUnsigned 32 10 bs r → ok_or (result_ok r) BadNumber ≡ number_of bs
unfolding number_of
number_parsed bs r is parses =
    let positive : 0 < length bs = ltb-true _ _ (and_parts (nat_lt 0 (length bs)) _ is).0 in
    rw is (go r (number_parses 32 bs r is parses) (nat_lt (digits_value 10 bs) (2 ^ 32)) refl positive)
  where
    go : {E : Type 0} (r : Result ℕ E) → OkIff r ((0 < length bs) × (digits_value 10 bs < 2 ^ 32)) (digits_value 10 bs) → (b : Bool) → nat_lt (digits_value 10 bs) (2 ^ 32) ≡ b → 0 < length bs → ok_or (result_ok r) BadNumber ≡ cond b (Ok (digits_value 10 bs)) (Err BadNumber)
    go (Ok x) h true e p = ap Ok h.1
    go (Ok x) h false e p = absurd (omega (arith, ltb-false _ _ e, h.0.1))
    go (Err x) h true e p = absurd (h (p, ltb-true _ _ e))
    go (Err x) h false e p = refl
