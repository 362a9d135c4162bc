-- The pairs of a put, read one after another.
use Rattle.std.proofs.Common.{◌≡◌, ℕ, List, [], ◌∷◌, ◌++◌, Result, Ok, refl, ap, ◌∙◌}
use Rattle.ss_cid.specs.Steps.{◌>>=◌}
use Rattle.ss_script.specs.declared.fault.ScriptKind.{ScriptKind}
use Rattle.ss_script.specs.Fields.{field_by, cid_of, data_of}
use Rattle.ss_script.specs.Script.{pairs_of}
use Rattle.ss_script.proofs.Onward.{onto, onto_more}

-- two parts of an element are read, and then the elements that are left
two_steps : {A B C E : Type 0} (first : Result A E) (second : Result B E) (x : A) (y : B) (rest : Result (List C) E) (next : A → B → C) → first ≡ Ok x → second ≡ Ok y
    → (first >>= (λ a. second >>= (λ b. rest >>= (λ xs. Ok (next a b ∷ xs))))) ≡ (rest >>= (λ xs. Ok (next x y ∷ xs)))
two_steps first second x y rest next is then_is = rw (is, then_is) refl

module _ (all : Result (List (List ℕ × List ℕ)) ScriptKind) (so_far : List (List ℕ × List ℕ)) (fields : List (List ℕ)) (before : all ≡ onto so_far (pairs_of fields)) where
  -- one more pair is read
  pub pair_read : (new : List (List ℕ × List ℕ)) (after rest : List (List ℕ)) (name bytes c b : List ℕ)
      → fields ≡ name ∷ after → after ≡ bytes ∷ rest → field_by cid_of name ≡ Ok c → field_by data_of bytes ≡ Ok b
      → new ≡ so_far ++ (c, b) ∷ []
      → all ≡ onto new (pairs_of rest)
  pair_read new after rest name bytes c b first second cid block added =
      let here : pairs_of fields ≡ (pairs_of rest >>= (λ xs. Ok ((c, b) ∷ xs))) =
      rw (first, second) (two_steps (field_by cid_of name) (field_by data_of bytes) c b (pairs_of rest) (λ x y. (x, y)) cid block) in
      rw added (before ∙ ap (onto so_far) here ∙ onto_more so_far ((c, b) ∷ []) (pairs_of rest))
