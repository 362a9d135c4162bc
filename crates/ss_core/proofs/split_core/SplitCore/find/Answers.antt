use Rattle.std.proofs.Common.{sym, ap, ◌∙◌}
use Rattle.std.specs.Option.{option_or}
use Rattle.std.specs.Prelude.{is_some}
use Rattle.std.specs.FinMap as finite_map
use Rattle.ss_model.proofs.Kept.{fetched_is as fetched_by}
use Rattle.ss_core.proofs.Gets.{fetched_is}
use Rattle.ss_core.proofs.PutSteps.{held_is}
use Rattle.ss_core.proofs.split_core.SplitCore.find.Goals as goal

pub returns-in-Some-clause-there : goal.returns-in-Some-clause-there
returns-in-Some-clause-there g c = λ s doubt stands. sym (ap is_some (fetched_by s.kept c.args.cid.now ∙ ap (λ i. option_or i (finite_map.get s.kept c.args.cid.now)) (sym c.in-Some.ensures)))

pub returns-in_err-place-in-None-clause-there : goal.returns-in_err-place-in-None-clause-there
returns-in_err-place-in-None-clause-there g c = λ s doubt stands.
    ap is_some c.from_residual.ensures ∙ ap is_some (sym c.in_err-place-in-None.was ∙ c.place.ensures.value) ∙ held_is g.D.Disk c.args.self.now s doubt stands c.args.cid.now ∙ sym (ap is_some (fetched_is s.kept c.args.cid.now c.in-None.ensures))

pub returns-in_ok-place-in-None-clause-there : goal.returns-in_ok-place-in-None-clause-there
returns-in_ok-place-in-None-clause-there g c = λ s doubt stands.
    ap is_some (sym c.in_ok-place-in-None.was ∙ c.place.ensures.value) ∙ held_is g.D.Disk c.args.self.now s doubt stands c.args.cid.now ∙ sym (ap is_some (fetched_is s.kept c.args.cid.now c.in-None.ensures))
