-- How a walk over the records of a plan enters one.
use Rattle.std.proofs.Common.{◌≡◌, ℕ, Bool, true, false, List, [], ◌++◌, refl, sym, ◌∙◌, ap, subst}
use Rattle.std.specs.Prelude.{Option, Some, None, is_some, MatchBool}
use Rattle.std.specs.BTreeSet.{BTreeSet}
use Rattle.ss_records.specs.declared.record.Record.{Record}
use Rattle.ss_records.specs.declared.record.Record.TheVariants.{Start, Cold}
use Rattle.ss_meta.specs.declared.plan.Plan.{Plan}
use Rattle.ss_meta.specs.declared.log.walk.Walk.{Walk}
use Rattle.ss_meta.specs.Plan.{plan_after, MayFollow, AllDiffer}
use Rattle.ss_meta.specs.Opening.{Sees, cold_of, IsSound, Enters}

-- a walk is sound by its set and its candidates
pub sound_as : (seen : BTreeSet (List ℕ)) (plan : Option Plan) (cold : List (List ℕ)) → cold_of plan ≡ cold → Sees seen cold → AllDiffer cold → IsSound (record { plan = plan; seen = seen })
sound_as seen plan cold is sees differ = record {
  seen = subst (Sees seen) (sym is) sees;
  differ = subst AllDiffer (sym is) differ;
}

pub sees_as : (old : Walk) (cold : List (List ℕ)) → cold_of old.plan ≡ cold → IsSound old → Sees old.seen cold
sees_as old cold is sound = subst (Sees old.seen) is sound.seen

pub differ_as : (old : Walk) (cold : List (List ℕ)) → cold_of old.plan ≡ cold → IsSound old → AllDiffer cold
differ_as old cold is sound = subst AllDiffer is sound.differ

-- a record that leaves the candidates, or may not follow
pub entered : (b : Bool) (old : Walk) (p q next : Plan) (r : Record) → IsSound old → old.plan ≡ Some p → plan_after (Some p) r ≡ Some next → next.cold ≡ p.cold → MatchBool b (MayFollow (Some p) r × (q ≡ next)) ((MayFollow (Some p) r → ⊥) × (q ≡ p))
    → Enters r old (record { plan = Some q; seen = old.seen }) b
entered true old p q next r sound is after same may =
    let cold : cold_of old.plan ≡ q.cold = ap cold_of is ∙ sym same ∙ ap (λ (x : Plan). x.cold) (sym may.1) in (
      subst (λ (o : Option Plan). MayFollow o r) (sym is) may.0,
      ap Some may.1 ∙ sym after ∙ ap (λ (o : Option Plan). plan_after o r) (sym is),
      sound_as old.seen (Some q) q.cold refl (sees_as old q.cold cold sound) (differ_as old q.cold cold sound),
    )
entered false old p q next r sound is after same may = λ follows. may.0 (subst (λ (o : Option Plan). MayFollow o r) is follows)

-- the first record
pub started : (old : Walk) (edge : ℕ) (roots cold : List (List ℕ)) → IsSound old → old.plan ≡ None → cold ≡ [] → Enters (Start edge roots) old (record { plan = Some (record { edge = edge; roots = roots; cold = cold; sealed = false; copied = 0; purged = 0 }); seen = old.seen }) true
started old edge roots cold sound none empty =
    let same : cold_of old.plan ≡ cold = ap cold_of none ∙ sym empty in (
      subst (λ (o : Option Plan). MayFollow o (Start edge roots)) (sym none) tt,
      ap (λ (x : List (List ℕ)). Some (record { edge = edge; roots = roots; cold = x; sealed = false; copied = 0; purged = 0 })) empty ∙ ap (λ (o : Option Plan). plan_after o (Start edge roots)) (sym none),
      sound_as old.seen (Some (record { edge = edge; roots = roots; cold = cold; sealed = false; copied = 0; purged = 0 })) cold refl (sees_as old cold same sound) (differ_as old cold same sound),
    )

pub no_plan : (plan : Option Plan) → is_some plan ≡ false → plan ≡ None
no_plan None is = refl
no_plan (Some p) is = absurd (let differ : ⊥ = cc in differ)

-- further candidates
pub more : (old : Walk) (p : Plan) (cids cold : List (List ℕ)) (seen : BTreeSet (List ℕ)) → old.plan ≡ Some p → p.sealed ≡ false → cold ≡ p.cold ++ cids → Sees seen (p.cold ++ cids) × AllDiffer (p.cold ++ cids)
    → Enters (Cold cids) old (record { plan = Some (record p { cold = cold }); seen = seen }) true
more old p cids cold seen is unsealed grown both = (
  subst (λ (o : Option Plan). MayFollow o (Cold cids)) (sym is) (unsealed, both.1),
  ap (λ (x : List (List ℕ)). Some (record p { cold = x })) grown ∙ ap (λ (o : Option Plan). plan_after o (Cold cids)) (sym is),
  sound_as seen (Some (record p { cold = cold })) (p.cold ++ cids) grown both.0 both.1,
)
