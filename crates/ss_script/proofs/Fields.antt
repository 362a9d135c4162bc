-- Fields that are judged after they are seen not to be empty.
use Rattle.std.proofs.Common.{◌≡◌, ℕ, Bool, true, false, cond, List, ◌∷◌, length, Result, Ok, Err}
use Rattle.std.specs.Prelude.{◌==◌}
use Rattle.ss_cid.specs.Steps.{◌>>=◌}
use Rattle.ss_script.specs.declared.fault.ScriptKind.{ScriptKind}
use Rattle.ss_script.specs.declared.fault.ScriptKind.TheVariants.{BadFields}
use Rattle.ss_script.specs.Fields.{field_by, first_by}

-- a field that is there is what its reader says
pub field_read : {A : Type 0} (read : List ℕ → Result A ScriptKind) (field same : List ℕ) (said : Result A ScriptKind) → field_by Ok field ≡ Ok same → said ≡ read same → field_by read field ≡ said
field_read read field same said there is = go (length field == 0) there
  where
    go : (b : Bool) → cond b (Err BadFields) (Ok field) ≡ Ok same → cond b (Err BadFields) (read field) ≡ said
    go true there = absurd (cc)
    go false there = cc

-- the same of the first of some fields
pub first_read : {A : Type 0} (read : List ℕ → Result A ScriptKind) (all : List (List ℕ)) (field : List ℕ) (rest : List (List ℕ)) (said : Result A ScriptKind) → first_by Ok all ≡ Ok (field, rest) → all ≡ field ∷ rest → said ≡ read field → field_by read field ≡ said
first_read read all field rest said there first is = go (length field == 0) (rw first at there)
  where
    go : (b : Bool) → ◌>>=◌ {B = List ℕ × List (List ℕ)} (cond b (Err BadFields) (Ok field)) (λ x. Ok (x, rest)) ≡ Ok (field, rest) → cond b (Err BadFields) (read field) ≡ said
    go true there = absurd (cc)
    go false there = cc
