-- The puts of an import, one section or one put further.
use Rattle.std.proofs.Common.{◌≡◌, ℕ, ◌+◌, List, [], ◌∷◌, ◌++◌, refl, sym, ap, ◌∙◌, append_assoc, arith}
use Rattle.ss_car.specs.Car.{Section}
use Rattle.ss_model.specs.declared.call.PutReply.TheVariants as put
use Rattle.ss_model.specs.declared.call.Entry.{Entry}
use Rattle.ss_import.specs.Import.{IsGroup, put_of, new_of, new_in, ArePuts}

-- more sections were read
pub puts_read : (v : ℕ) (sections : List Section) (h : List Entry) (left rest : List Section) → ArePuts v sections h left → ArePuts v (sections ++ rest) h (left ++ rest)
puts_read v sections [] left rest are = ap (λ l. l ++ rest) are
puts_read v sections (e ∷ h) left rest are =
    (are.0, are.1 ++ rest, are.2, ap (λ l. l ++ rest) are.3 ∙ append_assoc are.0 are.1 rest, are.4, are.5, puts_read v are.1 h left rest are.6)

-- one group more was stored, of those that come next
pub puts_more : (v : ℕ) (sections : List Section) (h : List Entry) (left group more : List Section) (n : ℕ) → ArePuts v sections h left → left ≡ group ++ more → IsGroup group
    → ArePuts v sections (h ++ put_of v group (put.Stored n) ∷ []) more
puts_more v sections [] left group more n are is together = (group, more, n, sym are ∙ is, together, refl, refl)
puts_more v sections (e ∷ h) left group more n are is together = (are.0, are.1, are.2, are.3, are.4, are.5, puts_more v are.1 h left group more n are.6 is together)

-- how many blocks are new
pub new_more : (h : List Entry) (e : Entry) → new_in (h ++ e ∷ []) ≡ new_in h + new_of e.answer
new_more [] e = omega arith
new_more (x ∷ h) e = let rest = new_more h e in omega (arith, rest)
