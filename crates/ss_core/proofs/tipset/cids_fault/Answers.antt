use Rattle.std.proofs.Common.{◌∙◌, sym, arith}
use Rattle.ss_chain.specs.Tipset.{repeat_at}
use Rattle.ss_chain.proofs.Firsts.{first_of-none}
use Rattle.ss_core.proofs.Repeats.{repeats-next, repeats-found}
use Rattle.ss_core.proofs.tipset.cids_fault.Goals as goal

pub loop-i-init : goal.loop-i-init
loop-i-init c = first_of-none (repeat_at c.args.cids.now)

pub returns-then-stands_earlier-clause-fault : goal.returns-then-stands_earlier-clause-fault
returns-then-stands_earlier-clause-fault c = repeats-found _ _ (omega arith) (omega arith) c.loop-i.invariant (omega arith) (sym c.stands_earlier.ensures ∙ c.if-stands_earlier.true)

pub loop-i-preserved : goal.loop-i-preserved
loop-i-preserved c = repeats-next _ _ c.loop-i.invariant (sym c.stands_earlier.ensures ∙ c.if-stands_earlier.false)
