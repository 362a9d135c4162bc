use Rattle.std.proofs.Common.{◌≡◌, ◌+◌, ◌-◌, suc, ◌∙◌, arith}
use Rattle.std.proofs.lemmas.Result.{err_from_is_err_and}
use Rattle.ss_records.specs.Fields.{allowed_cid_at}
use Rattle.ss_records.proofs.Items.{Reads-start, Reads-next, Reads-fault, Reads-end}
use Rattle.ss_records.proofs.reading.cids_of.Goals as goal

pub loop-init : goal.loop-init
loop-init c = rw c.new-cids.ensures (Reads-start (allowed_cid_at c.args.allowed) _ _ _ (omega arith))

pub returns-in_err-cid : goal.returns-in_err-cid
returns-in_err-cid c =
    let p = err_from_is_err_and c.from_residual.result c.from_residual.ensures.1 in
    let more : c.args.count - c.loop.counter ≡ suc (c.args.count - (c.loop.counter + 1)) = omega arith in
    rw (p.1, p.2) (Reads-fault (allowed_cid_at c.args.allowed) _ _ _ _ _ _ c.loop.invariant more c.in_err-cid.ensures.value)

pub loop-preserved : goal.loop-preserved
loop-preserved c =
    let more : c.args.count - c.loop.counter ≡ suc (c.args.count - (c.loop.counter + 1)) = omega arith in
    rw (c.in_ok-push.ensures.ok, c.behind-rest.ensures.value) (Reads-next (allowed_cid_at c.args.allowed) _ _ _ _ _ _ _ c.loop.invariant more c.in_ok-cid.ensures.value)

pub returns-in_err-ended : goal.returns-in_err-ended
returns-in_err-ended c =
    let p = err_from_is_err_and c.from_residual-in_err-ended.result c.from_residual-in_err-ended.ensures.1 in
    rw (p.1, p.2) (Reads-end (allowed_cid_at c.args.allowed) _ _ _ _ c.loop.invariant (omega arith) ∙ c.in_err-ended.ensures)

pub returns : goal.returns
returns c = Reads-end (allowed_cid_at c.args.allowed) _ _ _ _ c.loop.invariant (omega arith) ∙ c.in_ok-ended.ensures
