use Rattle.std.proofs.Common.{◌≡◌, ◌*◌, ◌^◌, ◌%◌, ◌<◌, List, ℕ, refl, ◌∙◌, arith}
use Rattle.std.proofs.lemmas.Nat.{one_shl}
use Rattle.ss_node.proofs.Members.{reversed-end}
use Rattle.ss_node.proofs.Rows.{taken-read}
use Rattle.ss_amt.proofs.Widths.{shape-fits, slot-room}
use Rattle.ss_amt.proofs.Listed.{listing-start, listing-next, listing-stop, listing-row, listing-added}
use Rattle.ss_amt.proofs.listing.list_children.Goals as goal

pub loop-init : goal.loop-init
loop-init c = listing-start _ _ _ _ _ _ _

pub returns-in_default : goal.returns-in_default
returns-in_default c = listing-stop _ _ _ _ _ _ _ _ _ _ _ c.loop.invariant _ _ c.loop-test.true (taken-read _ _ _ _ _ c.in_default.ensures)

pub overflow_add-child : goal.overflow_add-child
overflow_add-child c =
    let room = slot-room c.args.width c.args.height c.args.first c.next_taken-slot.result c.requires.room (omega (arith, c.next_taken-slot.ensures.within)) in
    omega (arith, room)

pub loop-preserved : goal.loop-preserved
loop-preserved c =
    let fits = shape-fits c.args.width c.args.height c.requires.shape in
    let slots : 1 * 2 ^ c.args.width % 18446744073709551616 ≡ 2 ^ c.args.width = one_shl c.args.width 64 (omega arith) in
    let low : c.next_taken-slot.result < 2 ^ c.args.width = omega (arith, slots, c.next_taken-slot.ensures.within) in
    let room = slot-room c.args.width c.args.height c.args.first c.next_taken-slot.result c.requires.room low in
    let offset : c.next_taken-slot.result * 2 ^ (c.args.width * c.args.height) % 18446744073709551616 ≡ c.next_taken-slot.result * 2 ^ (c.args.width * c.args.height) = omega (arith, room) in
    listing-next _ _ _ _ _ _ _ _ _ _ _ c.loop.invariant (λ (cid : List ℕ). cid) _ c.in-Some.cid c.next_taken-slot.result _ c.loop-test.true (taken-read _ _ _ _ _ c.in-Some.ensures) low
    c.next_taken-slot.ensures.one c.next_taken-slot.ensures.taken (c.in-Ok.ensures.items ∙ rw (c.saturating_sub.ensures, offset) refl)

pub returns : goal.returns
returns c =
    let added = listing-added _ _ _ _ _ _ _ _ _ _ _ c.loop.invariant in (
      c.loop.invariant.row,
      listing-row _ _ _ _ _ _ _ _ _ _ _ c.loop.invariant c.loop-test.false,
      c.loop.invariant.read.end,
      c.reverse_from.ensures ∙ reversed-end c.args.pending.now.items _ _ _ added (omega (arith, c.len-start.ensures, c.args.pending.now.ok)),
    )
