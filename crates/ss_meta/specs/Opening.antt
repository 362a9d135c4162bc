-- What the walk over the records of a plan has gathered.
use Rattle.std.specs.{Prelude.{◌≡◌, ◌↔◌, ℕ, List, [], Option, None, Some, Ok, Bool, MatchBool, IsTrue}, List.Contains, Ordering.nat_cmp, Cmp.Lexicographic.slice_cmp}
use Rattle.std.specs.BTreeSet.{BTreeSet, contains}
use Rattle.ss_device.specs.declared.disk.Disk.{Ghosts}
use Rattle.ss_gatelog.specs.Gate.{Reader, HasLent}
use Rattle.ss_records.specs.{declared.record.Record.Record, Record.spelling, Fields.read_record}
use Rattle.ss_store.specs.Append.{bodies}
use Rattle.ss_meta.specs.{declared.plan.Plan.Plan, declared.log.walk.Walk.Walk, Plan.{plan_after, plan_of, AllDiffer, MayFollow, Follows, IsPlan}}

-- the set has these CIDs and no other
abbrev pub Sees : BTreeSet (List ℕ) → List (List ℕ) → Type 0
Sees seen cids = (c : List ℕ) → IsTrue (contains (slice_cmp nat_cmp) seen c) ↔ Contains cids c

-- the candidates of a plan
abbrev pub cold_of : Option Plan → List (List ℕ)
cold_of None = []
cold_of (Some p) = p.cold

-- the walk's set has the plan's candidates, which all differ
pub record IsSound (walk : Walk) : Type 0 where
  pub seen : Sees walk.seen (cold_of walk.plan)
  pub differ : AllDiffer (cold_of walk.plan)

-- the record was entered, or may not follow
abbrev pub Enters : Record → Walk → Walk → Bool → Type 0
Enters r old new fits = MatchBool fits (MayFollow old.plan r × (new.plan ≡ plan_after old.plan r) × IsSound new) (MayFollow old.plan r → ⊥)

-- the walk read a record of this body, and entered it
pub record IsRead (old : Walk) (body : List ℕ) (new : Walk) : Type 0 where
  pub is : Record
  pub spells : body ≡ spelling is
  pub follows : Follows old.plan is
  pub plan : new.plan ≡ plan_after old.plan is
  pub sound : IsSound new

-- these bytes spell no record that may follow
abbrev pub IsMisfit : Option Plan → List ℕ → Type 0
IsMisfit plan body = (r : Record) → read_record body ≡ Ok r → MayFollow plan r → ⊥

-- where the disk exposes its files: the reader has lent these records, and this is their plan
pub record HasRead {D : Type 0} (disk : Ghosts D) (now : D) (reader : Reader) (told : Option Plan) (records : List Record) : Type 0 where
  pub lent : HasLent disk now reader (bodies records)
  pub are : IsPlan records
  pub plan : told ≡ plan_of records
