use native.Mathlib.Numerals.{unary_clauses}
use Rattle.std.proofs.Common.{refl, arith}
use Rattle.ss_chain.proofs.Rows.{links-next, links-stop, links-end}
use Rattle.ss_chain.proofs.fields.leads_with_links.Goals as goal

pub loop-init : goal.loop-init
loop-init c = record { bound = omega arith; end = refl; same = simp unary_clauses refl }

pub returns-in_default : goal.returns-in_default
returns-in_default c = links-stop _ _ _ _ c.loop.invariant _ c.loop-test.true c.in_default.ensures

pub loop-preserved : goal.loop-preserved
loop-preserved c = links-next _ _ _ _ c.loop.invariant _ _ c.loop-test.true c.in-Some.ensures

pub returns : goal.returns
returns c = links-end _ _ _ _ c.loop.invariant c.loop-test.false
