use Rattle.ss_disk.proofs.Writes.{writes_torn, writes_evolves, writes_keep}
use Rattle.ss_disk.proofs.memory.MemoryDiskDisk.write.Goals as goal

pub returns-then-fails_next-clause-images : goal.returns-then-fails_next-clause-images
returns-then-fails_next-clause-images c = writes_evolves _ _ _ _ _ c.put_torn.ensures.writes

pub returns-in-Ok-clause-torn : goal.returns-in-Ok-clause-torn
returns-in-Ok-clause-torn c = writes_torn _ _ _ _ _ c.requires.place c.put_whole.ensures.writes

pub returns-in-Ok-clause-images : goal.returns-in-Ok-clause-images
returns-in-Ok-clause-images c = writes_evolves _ _ _ _ _ c.put_whole.ensures.writes

pub returns-in-Err-clause-torn : goal.returns-in-Err-clause-torn
returns-in-Err-clause-torn c = writes_torn _ _ _ _ _ c.requires.place c.put_whole.ensures.writes

pub returns-in-Err-clause-images : goal.returns-in-Err-clause-images
returns-in-Err-clause-images c = writes_evolves _ _ _ _ _ c.put_whole.ensures.writes

pub returns-then-fails_next-clause-keeps : goal.returns-then-fails_next-clause-keeps
returns-then-fails_next-clause-keeps c = writes_keep _ _ _ _ _ c.put_torn.ensures.writes

pub returns-in-Ok-clause-keeps : goal.returns-in-Ok-clause-keeps
returns-in-Ok-clause-keeps c = writes_keep _ _ _ _ _ c.put_whole.ensures.writes

pub returns-in-Err-clause-keeps : goal.returns-in-Err-clause-keeps
returns-in-Err-clause-keeps c = writes_keep _ _ _ _ _ c.put_whole.ensures.writes
