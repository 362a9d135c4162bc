use Rattle.std.proofs.Common.{◌≡◌, ◌*◌, ◌^◌, ◌%◌, arith}
use Rattle.std.proofs.lemmas.Nat.{one_shl}
use Rattle.ss_amt.proofs.Widths.{bitmap-room}
use Rattle.ss_amt.proofs.node.is_bitmap.Goals as goal

pub ones_below-requires-then-bits-max : goal.ones_below-requires-then-bits-max
ones_below-requires-then-bits-max c =
    let slots : 1 * 2 ^ c.args.width % 18446744073709551616 ≡ 2 ^ c.args.width = one_shl c.args.width 64 (omega arith) in
    omega (arith, slots, bitmap-room c.args.width)

pub returns-then-bits-max-clause-room : goal.returns-then-bits-max-clause-room
returns-then-bits-max-clause-room c same =
    let slots : 1 * 2 ^ c.args.width % 18446744073709551616 ≡ 2 ^ c.args.width = one_shl c.args.width 64 (omega arith) in
    omega (arith, slots, bitmap-room c.args.width)
