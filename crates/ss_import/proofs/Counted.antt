-- A count of faults stays where the answer is no fault of the device.
use Rattle.std.proofs.Common.{◌≡◌, ℕ, ⊎_elim, Result, Ok, Err}
use Rattle.ss_device.specs.Faults.{Counts, CountsFault}
use Rattle.ss_import.specs.declared.fault.ImportFault.{ImportFault}
use Rattle.ss_import.specs.declared.fault.ImportFault.TheVariants as import

pub quiet : {R : Type 0} (IsFault : R → Type 0) (before now : ℕ) (answer : R) → Counts IsFault before now answer → (IsFault answer → ⊥) → now ≡ before
quiet IsFault before now answer counts none = ⊎_elim (λ fault. absurd (none fault)) (λ same. same) counts.kept

-- a part of an import that succeeded
pub quiet_ok : {X : Type 0} (before now : ℕ) (x : X) → CountsFault {E = ImportFault} import.ReadFault before now (Ok x) → now ≡ before
quiet_ok before now x counts = quiet (λ r. r ≡ Err import.ReadFault) before now (Ok x) counts (λ is. cc)

-- an import that did not end by its source
pub quiet_import : {X : Type 0} (before now : ℕ) (result : Result X ImportFault) → CountsFault import.ReadFault before now result → (result ≡ Err import.ReadFault → ⊥) → now ≡ before
quiet_import before now result counts none = quiet (λ r. r ≡ Err import.ReadFault) before now result counts none
