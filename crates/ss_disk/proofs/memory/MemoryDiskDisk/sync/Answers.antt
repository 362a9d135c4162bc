use Rattle.std.proofs.Common.{refl}
use Rattle.ss_disk.specs.declared.memory.call.DeviceCall.TheVariants.{Asked, Synced}
use Rattle.ss_disk.proofs.Stories.{replays_asked, evolves_asked, one_of}
use Rattle.ss_disk.proofs.memory.MemoryDiskDisk.sync.Goals as goal

pub invariant_of-self : goal.invariant_of-self
invariant_of-self c = record { replays = replays_asked _ _ _ _ Asked _ _ c.args.self.now.replays tt c.push.ensures.items }

pub invariant_of-self-else-is_err : goal.invariant_of-self-else-is_err
invariant_of-self-else-is_err c = record { replays = replays_asked _ _ _ _ (Synced c.args.file) _ _ c.args.self.now.replays c.requires c.push-2.ensures.items }

pub returns-clause-images : goal.returns-clause-images
returns-clause-images c = evolves_asked _ _ _ _ (Synced c.args.file) _ _ c.args.self.now.replays c.requires refl (one_of _ _ _ _ c.push-2.ensures.items)
