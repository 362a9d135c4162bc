-- What a run is given and what it leaves: a source, a sink and a disk.
use Rattle.std.specs.{Prelude.{◌≡◌, ◌⊎◌, ℕ, List, Option, ◌<◌, length}, Io.KnownBytes.Appends, Option.ForSome}
use Rattle.ss_io.specs.{Streams.{Rose, AppendsFront}, declared.source.Source.Ghosts as Source, declared.sink.Sink.Ghosts as Sink}
use Rattle.ss_app.specs.declared.TheConstants.{SCRIPT_BYTES}

-- what a source has left, where it exposes that, and its count of faults
pub record Input : Type 0 where
  pub left : Option (List ℕ)
  pub faults : ℕ

-- what a sink was given, where it exposes that, and its count of faults
pub record Output : Type 0 where
  pub written : Option (List ℕ)
  pub faults : ℕ

pub record World (D : Type 0) : Type 0 where
  pub source : Input
  pub sink : Output
  pub disk : D

abbrev pub input : {S : Type 0} → Source S → S → Input
input source now = record { left = source.left now; faults = source.faults now }

abbrev pub output : {K : Type 0} → Sink K → K → Output
output sink now = record { written = sink.written now; faults = sink.faults now }

abbrev pub world : {S K D : Type 0} → Source S → Sink K → S → K → D → World D
world source sink from to disk = record { source = input source from; sink = output sink to; disk = disk }

-- The status and the bytes that are written: these; or, where the sink's count of faults rose, 5 and a prefix of them.
abbrev pub Says : Output → Output → List ℕ → ℕ → ℕ → Type 0
Says old new bytes own status =
    ((status ≡ own) × Appends old.written new.written bytes × (new.faults ≡ old.faults)) ⊎ ((status ≡ 5) × AppendsFront old.written new.written bytes × Rose old.faults new.faults)

-- more bytes are left than a script may have, where that is told
abbrev pub IsTooLong : Option (List ℕ) → Type 0
IsTooLong left = ForSome left (λ text. SCRIPT_BYTES < length text)
