-- The plan of a compaction, by the records of its log, a form of this project's own: which record may follow which, what a file is.
use Rattle.std.specs.{Prelude.{◌≡◌, ◌⊎◌, ℕ, ◌≤◌, ◌<◌, true, false, List, [], ◌∷◌, ◌++◌, length, Option, None, Some, Ok}, List.Contains}
use Rattle.ss_gatelog.specs.Log.{open_gate, length_bytes, spelled, AreBodies, HasList, Fits as FitsGate}
use Rattle.ss_records.specs.{declared.record.Record.Record, Record.{Fits, IsValue}, Fields.read_record}
use Rattle.ss_store.specs.Append.{bodies}
use Rattle.ss_meta.specs.declared.plan.Plan.{Plan}

-- the plan after a record
abbrev pub plan_after : Option Plan → Record → Option Plan
plan_after None (Record.Start edge roots) = Some (record { edge = edge; roots = roots; cold = []; sealed = false; copied = 0; purged = 0 })
plan_after (Some p) (Record.Cold cids) = Some (record p { cold = p.cold ++ cids })
plan_after (Some p) (Record.Sealed total) = Some (record p { sealed = true })
plan_after (Some p) (Record.Copied up_to) = Some (record p { copied = up_to })
plan_after (Some p) (Record.Purged up_to) = Some (record p { purged = up_to })
plan_after plan _ = plan

-- the plan after records
abbrev pub plan_from : Option Plan → List Record → Option Plan
plan_from plan [] = plan
plan_from plan (r ∷ rs) = plan_from (plan_after plan r) rs

abbrev pub plan_of : List Record → Option Plan
plan_of records = plan_from None records

-- no CID stands twice
abbrev pub AllDiffer : List (List ℕ) → Type 0
AllDiffer [] = Unit {0}
AllDiffer (c ∷ cs) = (Contains cs c → ⊥) × AllDiffer cs

-- The record may be the next of a plan: Start, then Cold with CIDs that all differ, then Sealed with their total, and then Copied and
-- Purged with numbers that do not fall and do not pass the total.
abbrev pub MayFollow : Option Plan → Record → Type 0
MayFollow None (Record.Start edge roots) = Unit {0}
MayFollow (Some p) (Record.Cold cids) = (p.sealed ≡ false) × AllDiffer (p.cold ++ cids)
MayFollow (Some p) (Record.Sealed total) = (p.sealed ≡ false) × (total ≡ length p.cold)
MayFollow (Some p) (Record.Copied up_to) = (p.sealed ≡ true) × (p.copied ≤ up_to) × (up_to ≤ length p.cold)
MayFollow (Some p) (Record.Purged up_to) = (p.sealed ≡ true) × (p.purged ≤ up_to) × (up_to ≤ length p.cold)
MayFollow plan _ = ⊥

-- a record that may be read as the next of a plan
pub record Follows (plan : Option Plan) (r : Record) : Type 0 where
  pub fits : Fits r
  pub value : IsValue r
  pub may_follow : MayFollow plan r

-- records that may be read one after another
abbrev pub AllFollow : Option Plan → List Record → Type 0
AllFollow plan [] = Unit {0}
AllFollow plan (r ∷ rs) = Follows plan r × AllFollow (plan_after plan r) rs

-- the records of a plan, or none
abbrev pub IsPlan : List Record → Type 0
IsPlan records = AllFollow None records

-- how many candidates there are
abbrev pub total_of : Option Plan → ℕ
total_of None = 0
total_of (Some p) = length p.cold

-- the file has these records, which are those of a plan
pub record IsMeta (limit : ℕ) (file : List ℕ) (records : List Record) : Type 0 where
  pub list : HasList limit file (bodies records)
  pub plan : IsPlan records

-- a record is whole after a gate, and is none that may be read as the next of a plan
pub record IsBad (limit at : ℕ) (plan : Option Plan) (rest : List ℕ) : Type 0 where
  pub body : List ℕ
  pub more : List ℕ
  pub is : rest ≡ length_bytes (length body) ++ (body ++ more)
  pub fits : FitsGate limit at rest (length body)
  pub bad : (r : Record) → read_record body ≡ Ok r → MayFollow plan r → ⊥

-- The first invalid record: valid ones lead up to an open gate here, after which none fits, or one that may not follow them.
pub record IsFaulty (limit : ℕ) (file : List ℕ) (at : ℕ) : Type 0 where
  pub front : List Record
  pub rest : List ℕ
  pub is : file ≡ spelled (bodies front) ++ open_gate ∷ rest
  pub place : at ≡ length (spelled (bodies front))
  pub bodies : AreBodies (bodies front)
  pub plan : IsPlan front
  pub within : at < limit
  pub not_short : 1 < length file
  pub fault : ((n : ℕ) → FitsGate limit at rest n → ⊥) ⊎ IsBad limit at (plan_of front) rest
