-- The count of faults of a device, by what a call over it answered: said once for disks, streams and sets of blocks, and for all that stands on them.
use Rattle.std.specs.Prelude.{◌≡◌, ◌⊎◌, ◌≤◌, ℕ, Result, Err}
use Rattle.ss_device.specs.Disk.{Rose}

-- The count rose exactly where the answer is a fault of the device, which the predicate tells, and stayed where it is any other.
pub record Counts {R : Type 0} (IsFault : R → Type 0) (before now : ℕ) (answer : R) : Type 0 where
  pub later : before ≤ now
  pub rose : IsFault answer → Rose before now
  pub kept : IsFault answer ⊎ (now ≡ before)

-- the same of a result, of whose errors this one alone is the device's fault
abbrev pub CountsFault : {T E : Type 0} → E → ℕ → ℕ → Result T E → Type 0
CountsFault fault before now result = Counts (λ r. r ≡ Err fault) before now result
