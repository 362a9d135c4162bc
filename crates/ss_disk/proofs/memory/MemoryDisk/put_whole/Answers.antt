use Rattle.std.proofs.Common.{◌≡◌, ℕ, ◌+◌, length, refl, ap, arith, subst, rules}
use Rattle.ss_disk.specs.MemoryDisk.{Writes}
use Rattle.ss_disk.proofs.Writes.{writes_along}
use Rattle.ss_disk.proofs.memory.MemoryDisk.put_whole.Goals as goal

pub returns-clause-writes : goal.returns-clause-writes
returns-clause-writes c =
    let copied : c.in_ok-left.left.items ≡ c.args.bytes.now = search rules in
    let size : length c.in_ok-left.left.items + 0 ≡ length c.args.bytes.now = omega (arith, ap length copied) in
    let writes = subst (λ (n : ℕ). Writes c.args.file c.args.at n c.args.self.now c.put.new.self) size c.put.ensures.writes in
    writes_along c.args.file c.args.at _ c.args.self.now c.put.new.self _ writes refl refl refl
