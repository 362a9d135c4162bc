use Rattle.std.proofs.Common.{◌≡◌, ◌/◌, ◌%◌, ◌^◌, arith, refl}
use Rattle.ss_hash.specs.Blake2b.{working}
use Rattle.ss_hash.proofs.Words.{eight}
use Rattle.ss_hash.proofs.compress.working.Goals as goal
use Rattle.ss_hash.proofs.compress.working.Goals.{then-last, else-last}

pub returns : goal.returns
unfolding working
returns c =
    let low : c.args.count % 2 ^ 64 ≡ c.args.count = omega arith in
    let high : c.args.count / 2 ^ 64 ≡ 0 = omega arith in
    rw (low, high, eight c.args.hash.now c.told-hash)
    (elim c.if-last.branch [
      | then-last w ↦ rw (w.flag-is, w.if-last.true) refl
      | else-last w ↦ rw (w.flag-is, w.if-last.false) refl
    ])
