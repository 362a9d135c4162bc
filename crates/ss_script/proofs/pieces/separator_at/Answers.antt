use Rattle.std.proofs.Common.{◌≡◌, ◌==◌, ℕ, Bool, true, false, List, length, Option, Some, None, nat_lt, cond, refl, ap, ◌∙◌, sym, arith}
use Rattle.std.specs.List.{position, position_or_len}
use Rattle.std.proofs.lemmas.Bool.{lt-ltb, le-ltb}
use Rattle.std.proofs.lemmas.List.Sums.{position_or_len_is}
use Rattle.memchr.specs.Find.{IsFirstByte, is_byte}
use Rattle.ss_script.proofs.pieces.separator_at.Goals as goal

not_so : (b : Bool) → (b ≡ true → ⊥) → b ≡ false
not_so true never = absurd (never refl)
not_so false never = refl

-- the first place at which a byte stands is where it stands first
first_place : (separator : ℕ) (bytes : List ℕ) (r : Option ℕ) → IsFirstByte (is_byte separator) bytes r → r ≡ position (λ b. b == separator) bytes
first_place separator bytes None nowhere =
    let at : position_or_len (λ b. b == separator) bytes ≡ length bytes =
    position_or_len_is (λ b. b == separator) bytes (length bytes) 0 (omega arith) (λ k within. not_so _ (nowhere k (omega arith) within)) (λ within. absurd (let no : ⊥ = omega (arith, within) in no)) in
    sym (ap (λ n. cond (nat_lt n (length bytes)) (Some n) None) at ∙ ap (λ b. cond b (Some (length bytes)) None) (le-ltb (length bytes) (length bytes) (omega arith)))
first_place separator bytes (Some i) found =
    let at : position_or_len (λ b. b == separator) bytes ≡ i =
    position_or_len_is (λ b. b == separator) bytes i 0 (omega (arith, found.0.high)) (λ k below. not_so _ (found.0.before k (omega arith) below)) (λ within. found.1) in
    sym (ap (λ n. cond (nat_lt n (length bytes)) (Some n) None) at ∙ ap (λ b. cond b (Some i) None) (lt-ltb i (length bytes) found.0.high))

pub returns-clause-first : goal.returns-clause-first
returns-clause-first c = first_place c.args.separator c.args.bytes.now c.memchr.result c.memchr.ensures
