use Rattle.std.proofs.Common.{◌∙◌, sym, arith}
use Rattle.ss_chain.proofs.Tipsets.{repeats-none, repeats-next, repeats-found}
use Rattle.ss_chain.proofs.tipset_rule.check_cids.Goals as goal

pub loop-i-init : goal.loop-i-init
loop-i-init c = repeats-none _

pub returns-then-stands_earlier-clause-fault : goal.returns-then-stands_earlier-clause-fault
returns-then-stands_earlier-clause-fault c = repeats-found _ _ (omega arith) (omega arith) c.loop-i.invariant (omega arith) (sym c.stands_earlier.ensures ∙ c.if-stands_earlier.true)

pub loop-i-preserved : goal.loop-i-preserved
loop-i-preserved c = repeats-next _ _ c.loop-i.invariant (sym c.stands_earlier.ensures ∙ c.if-stands_earlier.false)
