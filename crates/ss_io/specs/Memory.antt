-- An end in memory, which fails where it is told to. Calls are counted from 0, those of a sink together.
use Rattle.std.specs.Prelude.{ℕ, ◌+◌, ◌-◌, ◌^◌, min, List, [], Contains}

pub record MemoryEnd : Type 0 where
  -- those left in a source, those written to a sink
  pub bytes : List ℕ
  -- the number of the next call, up to the end of its type
  pub calls : ℕ
  -- the numbers of the calls that fail
  pub failing : List ℕ
  pub faults : ℕ

-- an end that was just made
abbrev pub fresh : List ℕ → MemoryEnd
fresh bytes = record { bytes = bytes; calls = 0; failing = []; faults = 0 }

-- the next call is one of those that fail
abbrev pub IsListed : MemoryEnd → Type 0
IsListed e = Contains e.failing e.calls

-- after a call that succeeded and left these bytes
abbrev pub succeeded : MemoryEnd → List ℕ → MemoryEnd
succeeded e bytes = record e { bytes = bytes; calls = min (e.calls + 1) (2 ^ 64 - 1) }

-- after a call that failed
abbrev pub failed : MemoryEnd → MemoryEnd
failed e = record e { calls = min (e.calls + 1) (2 ^ 64 - 1); faults = min (e.faults + 1) (2 ^ 64 - 1) }
