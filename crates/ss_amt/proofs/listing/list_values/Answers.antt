use Rattle.std.proofs.Common.{◌≡◌, ◌*◌, ◌^◌, ◌%◌, ◌<◌, arith}
use Rattle.std.proofs.lemmas.Nat.{one_shl}
use Rattle.ss_amt.proofs.Listed.{listing-start, listing-next, listing-stop, listing-row, listing-added}
use Rattle.ss_amt.proofs.listing.list_values.Goals as goal

pub loop-init : goal.loop-init
loop-init c = listing-start _ _ _ _ _ _ _

pub returns-in_default : goal.returns-in_default
returns-in_default c = listing-stop _ _ _ _ _ _ _ _ _ _ _ c.loop.invariant _ _ c.loop-test.true c.in_default.ensures

pub loop-preserved : goal.loop-preserved
loop-preserved c =
    let slots : 1 * 2 ^ c.args.width % 18446744073709551616 ≡ 2 ^ c.args.width = one_shl c.args.width 64 (omega arith) in
    let low : c.next_taken-slot.result < 2 ^ c.args.width = omega (arith, slots, c.next_taken-slot.ensures.within) in
    listing-next _ _ _ _ _ _ _ _ _ _ _ c.loop.invariant (λ item. item.now) _ c.in-Some.item c.next_taken-slot.result _ c.loop-test.true c.in-Some.ensures low
    c.next_taken-slot.ensures.one c.next_taken-slot.ensures.taken c.in_ok-push.ensures.ok

pub returns : goal.returns
returns c = (c.loop.invariant.row, listing-row _ _ _ _ _ _ _ _ _ _ _ c.loop.invariant c.loop-test.false, c.loop.invariant.read.end, listing-added _ _ _ _ _ _ _ _ _ _ _ c.loop.invariant)
