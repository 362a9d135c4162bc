-- What contracts see of a disk over a folder: its known lengths and its count of faults, and nothing of its files.
use Rattle.std.specs.Prelude.{◌≡◌, ℕ, false, IsSome, IsTrue, slice_index, slice_index_or}
use Rattle.ss_disk.specs.declared.folder.FolderDisk.{FolderDisk}

abbrev pub known_of : {R : Type 0} → FolderDisk R → ℕ → ℕ
known_of disk file = slice_index disk.known file

abbrev pub faults_of : {R : Type 0} → FolderDisk R → ℕ
faults_of disk = disk.faults

-- a sync of the file has failed
abbrev pub HasLost : {R : Type 0} → FolderDisk R → ℕ → Type 0
HasLost disk file = IsTrue (slice_index_or disk.lost file false)

-- no sync that failed is forgotten, and the first failure stays the first
pub record Remembers {R : Type 0} (old new : FolderDisk R) : Type 0 where
  pub lost : (file : ℕ) → HasLost old file → HasLost new file
  pub first : IsSome old.failure → new.failure ≡ old.failure

-- The system was asked: no known length changed, no fault was counted, and nothing is forgotten.
pub record Asks {R : Type 0} (old new : FolderDisk R) : Type 0 where
  pub known : new.known ≡ old.known
  pub faults : new.faults ≡ old.faults
  pub failure : new.failure ≡ old.failure
  pub keeps : Remembers old new
