-- What a call of a stream leaves. A stream counts its faults, and the count has risen in each call that answers `Failed`: so a
-- fault is reported for the stream only where it had one, and none is passed over.
use Rattle.std.specs.{Prelude.{◌≡◌, ℕ, List, ◌++◌, Option, Result, MatchResult}, Io.KnownBytes.Appends}
pub use Rattle.ss_device.specs.Disk.{Rose, HasCause}

-- what is written grows by a front of the bytes, where it is told
abbrev pub AppendsFront : Option (List ℕ) → Option (List ℕ) → List ℕ → Type 0
AppendsFront old new bytes =
    (front : List ℕ) × (rest : List ℕ) × (bytes ≡ front ++ rest) × Appends old new front

-- `put(bytes)` appended them all at `Ok`, and a front of them at `Err`
abbrev pub PutAppends : {E : Type 0} → Option (List ℕ) → Option (List ℕ) → Result (Unit {0}) E → List ℕ → Type 0
PutAppends old new result bytes =
    MatchResult result (λ _. Appends old new bytes) (λ _. AppendsFront old new bytes)
