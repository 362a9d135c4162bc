use native.Mathlib.Numerals.{unary_clauses}
use Rattle.std.proofs.Common.{refl, arith}
use Rattle.ss_chain.proofs.Rows.{items-next, items-stop, items-end}
use Rattle.ss_chain.proofs.fields.pass_items.Goals as goal

pub loop-init : goal.loop-init
loop-init c = record { bound = omega arith; end = refl; same = simp unary_clauses refl }

pub returns-in_err-next_item : goal.returns-in_err-next_item
returns-in_err-next_item c = rw c.from_residual.ensures (items-stop _ _ _ _ c.loop.invariant (λ item. item.now) _ c.loop-test.true c.in_err-next_item.ensures)

pub loop-preserved : goal.loop-preserved
loop-preserved c = items-next _ _ _ _ c.loop.invariant (λ item. item.now) _ _ c.loop-test.true c.in_ok-next_item.ensures

pub returns : goal.returns
returns c = items-end _ _ _ _ c.loop.invariant c.loop-test.false
