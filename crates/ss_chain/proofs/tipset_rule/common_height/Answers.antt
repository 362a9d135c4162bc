use Rattle.std.proofs.Common.{sym, arith}
use Rattle.std.proofs.lemmas.Result.{err_from_is_err_and}
use Rattle.ss_chain.specs.Header.{fields}
use Rattle.ss_chain.proofs.Tipsets.{wrong-first, wrong-next, height-wrong, height-is, height-none}
use Rattle.ss_chain.proofs.tipset_rule.common_height.Goals as goal

pub returns-in_default : goal.returns-in_default
returns-in_default c = height-none _ _ c.at-cid.ensures (sym c.in_default.ensures.exact)

pub loop-i-init : goal.loop-i-init
loop-i-init c = wrong-first _ (fields c.in-Some.first) _ c.at-cid.ensures (sym c.in-Some.ensures.exact)

pub returns-in_err-check_beside : goal.returns-in_err-check_beside
returns-in_err-check_beside c =
    let p = err_from_is_err_and c.from_residual.result c.from_residual.ensures.1 in
    rw (p.1, p.2) (height-wrong _ (fields c.in-Some.first) _ _ _ _ c.at-cid.ensures (sym c.in-Some.ensures.exact) c.at-cid-in-loop-i.ensures
    c.loop-i.invariant (omega arith) (sym c.in_err-check_beside.ensures))

pub loop-i-preserved : goal.loop-i-preserved
loop-i-preserved c = wrong-next _ (fields c.in-Some.first) _ _ c.at-cid-in-loop-i.ensures c.loop-i.invariant (sym c.in_ok-check_beside.ensures)

pub returns : goal.returns
returns c = height-is _ (fields c.in-Some.first) _ _ c.at-cid.ensures (sym c.in-Some.ensures.exact) c.loop-i.invariant (omega arith)
