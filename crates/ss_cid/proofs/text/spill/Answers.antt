use Rattle.std.proofs.Common.{arith}
use Rattle.ss_cid.proofs.Queues.{byte_fits}
use Rattle.ss_cid.proofs.text.spill.Goals as goal

pub overflow_cast-emit : goal.overflow_cast-emit
overflow_cast-emit c =
    let bits = c.args.bits.now in
    let small = byte_fits bits.held bits.len (omega arith) bits.fits in
    omega arith
