use Rattle.std.proofs.Common.{◌++◌, ap}
use Rattle.std.proofs.lemmas.Bool.Decides.{when_true}
use Rattle.ss_meta.specs.Plan.{AllDiffer}
use Rattle.ss_meta.specs.Opening.{Sees, cold_of}
use Rattle.ss_meta.proofs.Walks.{sees_as, differ_as, more}
use Rattle.ss_meta.proofs.log.walk.Walk.add_cold.Goals as goal

pub returns-in_ok-extend-in-Some : goal.returns-in_ok-extend-in-Some
returns-in_ok-extend-in-Some c =
    let p = c.in-Some.plan in
    let all = p.cold ++ c.args.cids.now in
    let is = ap cold_of c.in-Some.is in
    let both = when_true (Sees c.see.new.seen all × AllDiffer all) (AllDiffer all → ⊥) c.if-not-branch.false (c.in_ok-see-in-Some.ensures p.cold (sees_as c.args.self.now p.cold is c.requires) (differ_as c.args.self.now p.cold is c.requires)) in
    more c.args.self.now p c.args.cids.now c.extend.new.self c.see.new.seen c.in-Some.is c.if-not-plan.true c.in_ok-extend-in-Some.ensures.ok both
