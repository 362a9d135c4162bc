use Rattle.std.proofs.Common.{◌<◌, ◌^◌, refl, arith}
use Rattle.ss_marks.proofs.Fresh.{fresh_sound}
use Rattle.ss_marks.proofs.marks.Marks.new.Goals as goal

pub invariant_of-result : goal.invariant_of-result
invariant_of-result c =
    let small : c.args.limit < 2 ^ 32 = omega (arith, c.ranges.limit) in
    fresh_sound _ c.new.ensures.items c.new-3.ensures.heads c.new-3.ensures.below c.new-4.ensures c.new-5.ensures refl refl small
