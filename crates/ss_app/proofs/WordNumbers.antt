-- The number of a word, as std's `parse` reads it.
use Rattle.std.proofs.Common.{◌≡◌, ℕ, ◌<◌, ◌^◌, Bool, true, false, cond, List, Some, None, Result, Ok, Err, length, refl, arith, ◌&&◌}
use Rattle.std.specs.Prelude.{nat_lt, nat_le}
use Rattle.std.specs.Result.{OkIff, result_ok}
use Rattle.std.specs.Str.Parse.{ParsesUnsigned, digits_value}
use Rattle.std.proofs.lemmas.Bool.{and_parts, ltb-true, leb-true}
use Rattle.ss_script.specs.Fields.{is_number}
use Rattle.ss_app.specs.Words.{number_within}
use Rattle.ss_script.proofs.Decimals.{number_parses}

-- a number that does not fit 64 bits is above any bound that does
pub number_beyond : {E : Type 0} (least most : ℕ) (value : List ℕ) (r : Result ℕ E) → is_number value ≡ true → ParsesUnsigned 64 10 value r → result_ok r ≡ None → most < 2 ^ 64 → None ≡ number_within least most value
unfolding number_within
number_beyond least most value r is parses fails fits = rw is (go (nat_le least n && nat_le n most) refl r (number_parses 64 value r is parses) fails)
  where
    n : ℕ
    n = digits_value 10 value

    positive : 0 < length value
    positive = ltb-true _ _ (and_parts (nat_lt 0 (length value)) _ is).0

    go : {E : Type 0} (b : Bool) → (nat_le least n && nat_le n most) ≡ b → (r : Result ℕ E) → OkIff r ((0 < length value) × (n < 2 ^ 64)) n → result_ok r ≡ None → None ≡ cond b (Some n) None
    go true within (Ok x) parses fails = absurd (cc)
    go true within (Err e) parses fails =
        let below = leb-true n most (and_parts (nat_le least n) (nat_le n most) within).1 in
        absurd (parses (positive, omega (arith, below, fits)))
    go false within r parses fails = refl
