-- What a reader has lent, after its calls.
use Rattle.std.proofs.Common.{◌≡◌, ◌⊎◌, inl, inr, ⊎_elim, ℕ, ◌+◌, ◌-◌, ◌<◌, ◌≤◌, Bool, true, false, IsTrue, List, [], ◌∷◌, ◌++◌, length, take, drop, refl, sym, ◌∙◌, ap, subst, arith, rules}
use Rattle.std.specs.Prelude.{slice_range, Result, Ok, Err, Option, IsErr}
use Rattle.ss_device.specs.declared.disk.Disk.{Ghosts}
use Rattle.ss_device.specs.Disk.{Files, Same, Changes, Torn}
use Rattle.ss_device.specs.Calls.{Goes}
use Rattle.ss_device.proofs.Goes.{stays}
use Rattle.ss_gatelog.specs.Log.{spelled, HasRecords, HasList, Spells}
use Rattle.ss_gatelog.specs.GateLog.{IsSure, Opens}
use Rattle.ss_gatelog.specs.Gate.{LeadTo, IsPiece, Reader, HasLent, Lends}
use Rattle.ss_gatelog.specs.declared.fault.RecordsFault.{RecordsFault}
use Rattle.ss_gatelog.specs.declared.fault.RecordsFault.TheVariants.{NoMemory, DiskFault, Damaged}
use Rattle.ss_gatelog.proofs.Logs.{settled_on, opens_short}
use Rattle.ss_gatelog.proofs.Pieces.{piece_body, piece_behind}

module _ {D : Type 0} (disk : Ghosts D) where
  -- no file changed
  pub lent_on : (old new : D) (reader : Reader) (records : List (List ℕ)) → IsTrue disk.told → Goes disk Same old new → HasLent disk old reader records → HasLent disk new reader records
  lent_on old new reader records told goes lent =
      let file : disk.files old reader.file ≡ disk.files new reader.file = sym (ap (λ (f : Files). f reader.file) (goes.files told)) in
      record {
        leads = subst (λ (f : List ℕ). LeadTo reader.limit f records reader.at) file lent.leads;
        all = λ ended. subst (λ (f : List ℕ). HasList reader.limit f records) file (lent.all ended);
        ahead = subst (λ (f : List ℕ). IsPiece f reader.at reader.ahead) file lent.ahead;
        size = ap (length {A = ℕ}) (sym file) ∙ lent.size;
        synced = λ left image. settled_on disk reader.file (disk.files old reader.file) old new told goes lent.synced left image ∙ file;
      }

  module _ (now : D) (reader : Reader) (records : List (List ℕ)) (lent : HasLent disk now reader records) where
    -- it read ahead, and perhaps saw that all was lent
    pub lent_still : (window : List ℕ) (ended : Bool) → IsPiece (disk.files now reader.file) reader.at window → (ended ≡ true → HasList reader.limit (disk.files now reader.file) records)
        → HasLent disk now (record { file = reader.file; size = reader.size; limit = reader.limit; at = reader.at; body = []; ahead = window; ended = ended }) records
    lent_still window ended piece all = record { leads = lent.leads; all = all; ahead = piece; size = lent.size; synced = lent.synced }

    -- it read a record
    pub lent_more : (window : List ℕ) (next : ℕ) → IsPiece (disk.files now reader.file) reader.at window → reader.at + 5 ≤ next → next - reader.at ≤ length window
        → LeadTo reader.limit (disk.files now reader.file) (records ++ slice_range (disk.files now reader.file) (reader.at + 5) next ∷ []) next
        → HasLent disk now (record { file = reader.file; size = reader.size; limit = reader.limit; at = next; body = drop 5 (take (next - reader.at) window); ahead = drop (next - reader.at) window; ended = false })
        (records ++ drop 5 (take (next - reader.at) window) ∷ [])
    lent_more window next piece past inside leads =
        let file = disk.files now reader.file in
        record {
          leads = subst (λ (b : List ℕ). LeadTo reader.limit file (records ++ b ∷ []) next) (sym (piece_body file window reader.at next piece past inside)) leads;
          all = λ ended. absurd (let differ : ⊥ = cc in differ);
          ahead = piece_behind file window reader.at next piece past inside;
          size = lent.size;
          synced = lent.synced;
        }

    -- the limit is another one
    pub limit_set : (limit : ℕ) → reader.at < limit → HasLent disk now (record reader { limit = limit }) records
    limit_set limit within = record {
      leads = record { rest = lent.leads.rest; is = lent.leads.is; place = lent.leads.place; bodies = lent.leads.bodies; within = within };
      all = λ ended. ⊎_elim (λ short. inl short) (λ has. inr (record { spells = has.spells; bodies = has.bodies; within = omega (arith, lent.leads.place, within) })) (lent.all ended);
      ahead = lent.ahead;
      size = lent.size;
      synced = lent.synced;
    }

    none_spelled : (rs : List (List ℕ)) → length (spelled rs) ≡ 0 → rs ≡ []
    none_spelled [] none = refl
    none_spelled (r ∷ rs) none = absurd (let differ : ⊥ = cc in differ)

    -- the log of a file of more than a byte
    pub lent_sure : reader.ended ≡ true → 1 < reader.size → IsSure disk now (record { file = reader.file; limit = reader.limit; end = reader.at; unsure = false }) records
    lent_sure ended long = ⊎_elim (λ short. absurd (omega (arith, short.0, lent.size, long))) sure (lent.all ended)
      where
        sure : HasRecords reader.limit (disk.files now reader.file) records → IsSure disk now (record { file = reader.file; limit = reader.limit; end = reader.at; unsure = false }) records
        sure has = record {
          each = λ left image. subst (Spells records) (sym (lent.synced left image)) has.spells;
          end = lent.leads.place;
          bodies = has.bodies;
        }

    -- no record is in a file of a byte
    pub lent_none : reader.at ≡ 0 → records ≡ []
    lent_none none = none_spelled records (sym lent.leads.place ∙ none)

  -- a file of no more than a byte was made an empty log
  pub lent_short : (now new : D) (reader : Reader) (records : List (List ℕ)) → (IsTrue disk.told → HasLent disk now reader records) → reader.size ≤ 1 → Goes disk (Changes reader.file (Torn 0 1)) now new
      → Goes disk (Changes reader.file (Opens (disk.files now reader.file))) now new
  lent_short now new reader records lent short made =
      opens_short disk reader.file now now new (stays disk now Same (λ files. refl)) made (λ told. omega (arith, short, (lent told).size)) (λ told. (lent told).synced)

  -- what was lent stays lent after a fault that is no damage
  pub lends_fault : (now : D) (old new : Reader) (records : List (List ℕ)) (result : Result (Option ℕ) RecordsFault) → IsErr result → ((e : RecordsFault) → result ≡ Err e → (e ≡ NoMemory) ⊎ (e ≡ DiskFault)) → HasLent disk now new records → Lends disk now old new records result
  lends_fault now old new records (Ok found) failed errors lent = absurd (let differ : ⊥ = search rules in differ)
  lends_fault now old new records (Err NoMemory) failed errors lent = lent
  lends_fault now old new records (Err DiskFault) failed errors lent = lent
  lends_fault now old new records (Err (Damaged at)) failed errors lent = absurd (other at (errors (Damaged at) refl))
    where
      other : (at : ℕ) → (Damaged at ≡ NoMemory) ⊎ (Damaged at ≡ DiskFault) → ⊥
      other at (inl is) = cc
      other at (inr is) = cc
