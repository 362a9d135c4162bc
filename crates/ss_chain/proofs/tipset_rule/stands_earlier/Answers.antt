use Rattle.std.proofs.Common.{◌∙◌, sym, arith}
use Rattle.ss_chain.proofs.Tipsets.{earlier-found, earlier-next, earlier-none}
use Rattle.ss_chain.proofs.tipset_rule.stands_earlier.Goals as goal

pub returns-then-eq : goal.returns-then-eq
returns-then-eq c = earlier-found _ _ _ _ _ c.at-cid.ensures c.at-earlier.ensures (omega arith) (sym c.eq.ensures ∙ c.if-eq.true)

pub loop-j-preserved : goal.loop-j-preserved
loop-j-preserved c = earlier-next _ _ _ _ c.at-earlier.ensures c.loop-j.invariant (sym c.eq.ensures ∙ c.if-eq.false)

pub returns : goal.returns
returns c = earlier-none _ _ _ _ c.at-cid.ensures (omega arith) c.loop-j.invariant
