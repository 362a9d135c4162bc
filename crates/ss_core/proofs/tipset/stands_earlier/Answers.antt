use Rattle.std.proofs.Common.{◌∙◌, sym, arith}
use Rattle.ss_chain.specs.Tipset.{same_cid}
use Rattle.ss_chain.proofs.Firsts.{list_any-next}
use Rattle.ss_core.proofs.Repeats.{earlier-found, earlier-none}
use Rattle.ss_core.proofs.tipset.stands_earlier.Goals as goal

pub returns-then-eq : goal.returns-then-eq
returns-then-eq c = earlier-found _ _ _ _ _ c.at-cid.ensures c.at.ensures (omega arith) (sym c.eq.ensures ∙ c.if-eq.true)

pub loop-j-preserved : goal.loop-j-preserved
loop-j-preserved c = list_any-next (same_cid c.at-cid.result) c.args.cids.now _ _ c.at.ensures c.loop-j.invariant (sym c.eq.ensures ∙ c.if-eq.false)

pub returns : goal.returns
returns c = earlier-none _ _ _ _ c.at-cid.ensures (omega arith) c.loop-j.invariant
