use Rattle.ss_disk.proofs.Stories.{replays_asked}
use Rattle.ss_disk.specs.declared.memory.call.DeviceCall.TheVariants.{Asked}
use Rattle.ss_disk.proofs.memory.MemoryDisk.ask.Goals as goal

pub invariant_of-self : goal.invariant_of-self
invariant_of-self c = record { replays = replays_asked _ _ _ _ Asked _ _ c.args.self.now.replays tt c.push.ensures.items }

pub invariant_of-self-then-is_err : goal.invariant_of-self-then-is_err
invariant_of-self-then-is_err c = record { replays = replays_asked _ _ _ _ Asked _ _ c.args.self.now.replays tt c.push.ensures.items }
