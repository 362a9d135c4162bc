-- What contracts see of a disk in memory.
use Rattle.std.specs.{Prelude.{◌≡◌, ◌⊎◌, ℕ, ◌+◌, List, [], ◌∷◌, ◌++◌, length, take, slice_index, Contains, Vec, Result, IsErr, OnOk}, declared.alloc.Global.Global}
use Rattle.ss_device.specs.Disk.{Files, Holds, Changes}
use Rattle.ss_disk.specs.{declared.memory.MemoryDisk.MemoryDisk, declared.memory.call.DeviceCall.DeviceCall, Memory.{contents, Image}}

-- what a read of each file gives
abbrev pub files_of : MemoryDisk → Files
files_of disk = contents disk.current

-- the clock: how many calls were made
abbrev pub moment_of : MemoryDisk → ℕ
moment_of disk = length disk.calls.items

-- what a crash after the first calls, so many of them, may leave
abbrev pub image_of : MemoryDisk → ℕ → Files → Type 0
image_of disk call = Image disk.first (take call disk.calls.items)

-- the numbers of the calls that are to fail
abbrev pub listed : MemoryDisk → List ℕ
listed disk = disk.failing.items

-- No call was made yet: a crash leaves what a read gives, no length is known, no call is to fail, and no fault was counted.
pub record IsFresh (disk : MemoryDisk) : Type 0 where
  pub no_calls : moment_of disk ≡ 0
  pub settled : (t : ℕ) (files : Files) → image_of disk t files → files ≡ files_of disk
  pub no_lengths : (file : ℕ) → slice_index disk.known file ≡ 0
  pub none_listed : listed disk ≡ []
  pub no_faults : disk.faults ≡ 0

-- the next call is one of those that are to fail
abbrev pub IsListed : MemoryDisk → Type 0
IsListed disk = Contains (listed disk) (moment_of disk)

-- A call that is listed fails, and another only where there was no memory to record it. One that succeeds is recorded.
pub record Counts {T E : Type 0} (old new : MemoryDisk) (result : Result T E) : Type 0 where
  pub fails : IsListed old → IsErr result
  pub alone : IsErr result → IsListed old ⊎ (moment_of new ≡ moment_of old)
  pub recorded : OnOk result (moment_of new ≡ moment_of old + 1)
  pub listed : listed new ≡ listed old

-- all but the list of calls that are to fail is as before
pub record SameButListed (old new : MemoryDisk) : Type 0 where
  pub files : files_of new ≡ files_of old
  pub moment : moment_of new ≡ moment_of old
  pub images : (t : ℕ) (files : Files) → (image_of new t files → image_of old t files) × (image_of old t files → image_of new t files)
  pub known : (file : ℕ) → slice_index new.known file ≡ slice_index old.known file
  pub faults : new.faults ≡ old.faults

-- each image that a crash might leave before a call can be left after it
abbrev pub KeepsImages : MemoryDisk → MemoryDisk → Type 0
KeepsImages old new = (left : Files) → image_of old (moment_of old) left → image_of new (moment_of new) left

-- a call that changes no file joined the record, or there was no memory for it
pub record Notes (call : DeviceCall) (old new : MemoryDisk) : Type 0 where
  pub first : new.first ≡ old.first
  pub current : new.current ≡ old.current
  pub known : new.known ≡ old.known
  pub calls : (new.calls.items ≡ old.calls.items) ⊎ (new.calls.items ≡ old.calls.items ++ call ∷ [])

-- a write joined the record, of a range of this length, that left these bytes and missed so many
pub record Puts (file at len : ℕ) (old new : MemoryDisk) : Type 0 where
  pub left : Vec ℕ Global
  pub missing : ℕ
  pub length_is : length left.items + missing ≡ len
  pub calls : new.calls.items ≡ old.calls.items ++ DeviceCall.Wrote file at left missing ∷ []
  pub files : Changes file (Holds at left.items) (files_of old) (files_of new)

-- no call joined it, and no file changed
pub record Stays (old new : MemoryDisk) : Type 0 where
  pub calls : new.calls.items ≡ old.calls.items
  pub files : (file : ℕ) → files_of new file ≡ files_of old file

-- a write joined the record, or there was no memory for it
pub record Writes (file at len : ℕ) (old new : MemoryDisk) : Type 0 where
  pub first : new.first ≡ old.first
  pub cases : Stays old new ⊎ Puts file at len old new
