-- Which fault of a reader a store's fault was.
use Rattle.std.proofs.Common.{◌≡◌, ℕ}
use Rattle.ss_gatelog.specs.declared.fault.RecordsFault.{RecordsFault as FaultOfReader}
use Rattle.ss_gatelog.specs.declared.fault.RecordsFault.TheVariants as reader
use Rattle.ss_store.specs.declared.fault.StoreFault.TheVariants.{Damaged}
use Rattle.ss_store.specs.Append.{of_records}

pub damaged_reader : (file : ℕ) (e : FaultOfReader) (f at : ℕ) → of_records file e ≡ Damaged f at → (f ≡ file) × (e ≡ reader.Damaged at)
damaged_reader file reader.NoMemory f at is = absurd (let differ : ⊥ = cc in differ)
damaged_reader file reader.DiskFault f at is = absurd (let differ : ⊥ = cc in differ)
damaged_reader file (reader.Damaged n) f at is = (cc, cc)
