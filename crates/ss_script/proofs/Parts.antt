-- Text that is written part by part.
use Rattle.std.proofs.Common.{◌≡◌, ◌<◌, ◌+◌, ℕ, List, [], ◌∷◌, ◌++◌, length, take, drop, get_or, subst, sym, ap, ◌∙◌, append_assoc, refl}
use Rattle.std.specs.Prelude.{Result, Ok, Err, is_err, true}
use Rattle.std.proofs.lemmas.List.{drop_more, take-append-drop}
use Rattle.std.proofs.lemmas.Grind.{flat_map-append}
use Rattle.hex.specs.Hex.{encode_with, encode_lower, lower_digits}
use Rattle.ss_io.specs.Streams.{HasCause}
use Rattle.ss_io.specs.declared.sink.Sink.{Ghosts}
use Rattle.ss_io.proofs.Told.{AppendsFront-more, PutAppends-append}
use Rattle.ss_script.specs.Text.{number_text, numbers_text, Writes}

module _ {K E : Type 0} {sink : Ghosts K} where
  -- a part was written, and then the next, or a prefix of it
  pub after : {a b c : K} {u : Unit {0}} {result : Result (Unit {0}) E} (xs ys : List ℕ) → Writes {E = E} sink a b (Ok u) xs → Writes sink b c result ys → Writes sink a c result (xs ++ ys)
  after {a = a} {b = b} {c = c} {result = result} xs ys first second = record {
    bytes = PutAppends-append (sink.written a) (sink.written b) (sink.written c) xs ys result first.bytes second.bytes;
    cause = subst (λ n. HasCause n (sink.faults c) result) first.cause.kept second.cause;
  }

  -- a part failed before the rest came
  pub cut : {F : Type 0} {a b : K} {e : F} (result : Result (Unit {0}) E) (xs ys : List ℕ) → is_err result ≡ true → Writes sink a b (Err e) xs → Writes sink a b result (xs ++ ys)
  cut (Ok x) xs ys failed part = absurd (cc)
  cut {a = a} {b = b} (Err e) xs ys failed part = record {
    bytes = AppendsFront-more (sink.written a) (sink.written b) xs ys part.bytes;
    cause = record { later = part.cause.later; failed = part.cause.failed; kept = tt };
  }

-- the numbers before an index, the one there and those after it
numbers_at : (numbers : List ℕ) (i : ℕ) → i < length numbers → numbers_text numbers ≡ numbers_text (take i numbers) ++ (number_text (get_or numbers i 0) ++ numbers_text (drop (i + 1) numbers))
numbers_at numbers i within =
    sym (ap numbers_text (ap (λ l. take i numbers ++ l) (sym (drop_more numbers i 0 within)) ∙ take-append-drop i numbers))
    ∙ flat_map-append number_text (take i numbers) (get_or numbers i 0 ∷ drop (i + 1) numbers)

-- a label and numbers, cut at one of them
pub cut_at : (label numbers : List ℕ) (i : ℕ) → i < length numbers → label ++ numbers_text numbers ≡ (label ++ numbers_text (take i numbers)) ++ (number_text (get_or numbers i 0) ++ numbers_text (drop (i + 1) numbers))
cut_at label numbers i within = ap (λ l. label ++ l) (numbers_at numbers i within) ∙ simp append_assoc

encode_more : (table xs ys : List ℕ) → encode_with table (xs ++ ys) ≡ encode_with table xs ++ encode_with table ys
unfolding encode_with
encode_more table [] ys = refl
encode_more table (x ∷ xs) ys = rw (encode_more table xs ys) refl

-- the digits of bytes are those of one part and then of the other
pub digits_of_parts : (xs ys : List ℕ) → encode_lower (xs ++ ys) ≡ encode_lower xs ++ encode_lower ys
digits_of_parts xs ys = encode_more lower_digits xs ys

-- the digits of bytes of which some are written, then a piece, and then more
pub digits_at : (bytes done rest piece more : List ℕ) → bytes ≡ done ++ rest → rest ≡ piece ++ more → encode_lower bytes ≡ encode_lower done ++ (encode_lower piece ++ encode_lower more)
digits_at bytes done rest piece more left parts =
    ap encode_lower (left ∙ ap (λ l. done ++ l) parts) ∙ digits_of_parts done (piece ++ more) ∙ ap (λ l. encode_lower done ++ l) (digits_of_parts piece more)
