use Rattle.std.proofs.Common.{◌≤◌, ap, length, arith}
use Rattle.std.proofs.lemmas.Result.{on_ok_weaker}
use Rattle.ss_disk.specs.MemoryLaws.{torn_from_holds}
use Rattle.ss_disk.proofs.memory.image.tear_write.Goals as goal

pub returns : goal.returns
returns c =
    let place : c.args.at ≤ length c.args.bytes.now.items = omega (arith, c.if-at-len.false, c.len.ensures, c.args.bytes.now.ok) in
    let short : length c.deref.result.now ≤ length c.args.left.now = omega (arith, c.in_ok-cut_short.ensures, ap length c.deref.ensures.value) in
    on_ok_weaker c.overwrite.result (λ holds n le. torn_from_holds _ n c.deref.result.now _ _ place (omega (arith, short, le)) holds) c.overwrite.ensures.ok
