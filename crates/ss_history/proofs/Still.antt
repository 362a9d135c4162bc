-- Disks of which no file changed.
use Rattle.std.proofs.Common.{refl}
use Rattle.ss_device.specs.declared.disk.Disk.{Ghosts}
use Rattle.ss_device.specs.Disk.{Same}
use Rattle.ss_device.specs.Calls.{Goes, TouchesFiles}
use Rattle.ss_device.proofs.Goes.{stays, same_files}
use Rattle.ss_core.specs.LogFiles.{log_files}

-- nothing was asked of the disk
pub same_disk : {D : Type 0} (disk : Ghosts D) (now : D) → Goes disk Same now now
same_disk disk now = stays disk now Same (λ files. refl)

-- where no file changed, none but those of the logs did
pub same_touches : {D : Type 0} (disk : Ghosts D) (old new : D) → Goes disk Same old new → TouchesFiles disk log_files old new
same_touches disk old new goes = same_files disk log_files old new goes
