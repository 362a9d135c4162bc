use Rattle.std.proofs.Common.{arith, ap, length}
use Rattle.ss_disk.proofs.Stories.{replays_known}
use Rattle.ss_disk.proofs.memory.MemoryDiskDisk.size.Goals as goal

pub invariant_of-self : goal.invariant_of-self
invariant_of-self c =
    record { replays = replays_known _ _ _ _ c.args.file _ c.requires (omega (arith, ap length c.content.ensures)) c.ask.new.self.replays }
