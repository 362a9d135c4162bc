-- Lists that are read element by element, to the end or to the first that is at fault.
use Rattle.std.proofs.Common.{◌≡◌, List, ◌++◌, Result, Ok, Err, refl, sym, ap, append_assoc}
use Rattle.ss_cid.specs.Steps.{◌>>=◌}

-- the elements so far and those that are left
abbrev pub onto : {A E : Type 0} → List A → Result (List A) E → Result (List A) E
onto so_far (Ok more) = Ok (so_far ++ more)
onto so_far (Err fault) = Err fault

-- some elements more are read
pub onto_more : {A E : Type 0} (so_far next : List A) (more : Result (List A) E) → onto so_far (more >>= (λ xs. Ok (next ++ xs))) ≡ onto (so_far ++ next) more
onto_more so_far next (Ok xs) = ap Ok (sym (append_assoc so_far next xs))
onto_more so_far next (Err fault) = refl
