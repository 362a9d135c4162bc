-- What one record more does to a plan.
use Rattle.std.proofs.Common.{◌≡◌, List, [], ◌∷◌, ◌++◌, refl}
use Rattle.std.specs.Prelude.{Option}
use Rattle.ss_records.specs.declared.record.Record.{Record}
use Rattle.ss_meta.specs.declared.plan.Plan.{Plan}
use Rattle.ss_meta.specs.Plan.{plan_after, plan_from, Follows, AllFollow}

pub plan_from-push : (plan : Option Plan) (rs : List Record) (r : Record) → plan_from plan (rs ++ r ∷ []) ≡ plan_after (plan_from plan rs) r
plan_from-push plan [] r = refl
plan_from-push plan (q ∷ rs) r = plan_from-push (plan_after plan q) rs r

pub AllFollow-push : (plan : Option Plan) (rs : List Record) (r : Record) → AllFollow plan rs → Follows (plan_from plan rs) r → AllFollow plan (rs ++ r ∷ [])
AllFollow-push plan [] r are one = (one, tt)
AllFollow-push plan (q ∷ rs) r are one = (are.0, AllFollow-push (plan_after plan q) rs r are.1 one)
