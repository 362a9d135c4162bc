use Rattle.std.proofs.Common.{◌≡◌, ◌*◌, ◌^◌, ◌%◌, arith, refl}
use Rattle.std.proofs.lemmas.Nat.{one_shl, and_mask}
use Rattle.ss_hamt.proofs.slots.ones_below.Goals as goal

pub returns : goal.returns
returns c =
    let mask : 1 * 2 ^ c.args.slot % 4294967296 ≡ 2 ^ c.args.slot = one_shl c.args.slot 32 (omega arith) in
    rw (mask, and_mask) refl
