use Rattle.std.proofs.Common.{refl}
use Rattle.ss_app.proofs.Endings.{read_refused, store_refused, traced, traced_refused}
use Rattle.ss_history.proofs.Stories.{begun_story}
use Rattle.ss_app.proofs.run.trace.Goals as goal

pub returns-in-Err : goal.returns-in-Err
returns-in-Err g c = read_refused g.D.Disk _ _ _ c.in-Err.ending refl c.in-Err.ensures c.finish-status.ensures

pub returns-in-Err-open : goal.returns-in-Err-open
returns-in-Err-open g c =
    let said = rw c.from.ensures at c.finish-status-in-Err-open.ensures in
    store_refused g.D.Disk _ _ _ _ c.in-Err-open.fault c.in-Ok.ensures c.in-Err-open.ensures.told c.in-Err-open.ensures.opens said

pub returns-then-calls : goal.returns-then-calls
returns-then-calls g c =
    let opens = c.in-Ok-open.ensures.opens in
    let made = rw c.if-calls.true at c.make_calls-calls.ensures c.args.disk (begun_story c.args.disk c.in-Ok-open.core opens.goes c.in-Ok-open.ensures.told opens.counts opens.fits) in
    traced_refused g.D.Disk _ _ _ _ c.in-Ok.ensures _ made refl

pub returns : goal.returns
returns g c =
    let opens = c.in-Ok-open.ensures.opens in
    let made = rw c.if-calls.false at c.make_calls-calls.ensures c.args.disk (begun_story c.args.disk c.in-Ok-open.core opens.goes c.in-Ok-open.ensures.told opens.counts opens.fits) in
    traced g.D.Disk _ _ _ _ c.in-Ok.ensures _ _ made c.finish.ensures
