use Rattle.std.proofs.Common.{length, ap, arith}
use Rattle.std.specs.Int.{w16}
use Rattle.std.proofs.lemmas.List.{length-drop}
use Rattle.ss_records.proofs.Numbers.{number_at-Ok}
use Rattle.ss_records.proofs.places.PutBlocks.begin.Goals as goal

pub invariant_of-result : goal.invariant_of-result
invariant_of-result c =
    let read = number_at-Ok w16 1 4096 c.args.fields.now c.in_ok-due.due c.in_ok-due.rest.now c.in_ok-due.ensures in
    record { within = omega (arith, ap length read.rest_is, length-drop 2 c.args.fields.now, c.requires) }
