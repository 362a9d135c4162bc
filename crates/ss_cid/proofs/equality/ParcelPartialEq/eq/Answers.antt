use Rattle.std.proofs.Common.{◌≡◌, length, sym, arith}
use Rattle.ss_cid.proofs.Parcels.{parcels_differ, parcels_same, pairs_at, pairs_more}
use Rattle.ss_cid.proofs.equality.ParcelPartialEq.eq.Goals as goal

pub returns-then-ne : goal.returns-then-ne
returns-then-ne c = parcels_differ c.args.self.now c.args.other.now c.loop-i.i _ _ c.at.ensures c.at-in-loop-i.ensures c.if-ne.ensures

pub loop-i-preserved : goal.loop-i-preserved
loop-i-preserved c =
    pairs_more c.args.self.now c.args.other.now c.loop-i.i c.loop-i.invariant
    (λ d. pairs_at c.args.self.now c.args.other.now c.loop-i.i _ _ d c.at.ensures c.at-in-loop-i.ensures c.if-ne.ensures)

pub returns : goal.returns
returns c =
    let all : c.loop-i.i ≡ length c.args.self.now = omega arith in
    sym (parcels_same c.args.self.now c.args.other.now (omega arith) (λ k d less. c.loop-i.invariant k d (omega arith)))
