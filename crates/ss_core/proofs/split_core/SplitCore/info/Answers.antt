use Rattle.std.proofs.Common.{refl, rules}
use Rattle.ss_model.specs.declared.call.Call.TheVariants as call
use Rattle.ss_model.specs.declared.call.Answer.TheVariants as answer
use Rattle.ss_core.proofs.Asked.{info_is}
use Rattle.ss_core.proofs.Idle.{idle}
use Rattle.ss_core.proofs.split_core.SplitCore.info.Goals as goal

pub returns-clause-told : goal.returns-clause-told
returns-clause-told g c = λ told s doubt stands.
    idle g.D.Disk c.args.self.now c.args.self.now s doubt call.Info (answer.Info _) refl refl (record { settles = refl; stands = refl; roomy = refl }) stands
    (info_is g.D.Disk c.args.self.now s doubt _ _ _ _ _ _ _ stands c.config-config.ensures (search rules) (search rules) c.kept_count-kept.ensures.count c.count.ensures c.is_due.ensures) stands
