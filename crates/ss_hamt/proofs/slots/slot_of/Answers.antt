use Rattle.std.proofs.Common.{◌-◌, ◌*◌, arith}
use Rattle.ss_hamt.proofs.Groups.{digits-below, group-by}
use Rattle.ss_hamt.proofs.slots.slot_of.Goals as goal

pub returns-clause-value : goal.returns-clause-value
returns-clause-value c =
    let shift = 11 - (5 * c.args.level - 8 * c.min-first.result) in
    let digits = digits-below c.args.hash.now c.fits-hash in
    rw (c.from.ensures, c.from-2.ensures)
    (group-by c.args.hash.now c.min-first.result c.args.level shift digits c.told-hash (omega (arith, c.min-first.ensures)) (omega arith) (omega (arith, c.min-first.ensures)) (omega (arith, c.min-first.ensures)) (omega (arith, c.min-first.ensures)))
