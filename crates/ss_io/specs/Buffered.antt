-- A source behind a buffer: what is left are the bytes in the buffer, and then those of the source.
use Rattle.std.specs.{Prelude.{ℕ, List, ◌++◌, take, drop, Option, None, Some}}
use Rattle.ss_io.specs.declared.buffered.Buffered.{Buffered}

-- the bytes, and then those that are left behind them
abbrev pub before : List ℕ → Option (List ℕ) → Option (List ℕ)
before bytes None = None
before bytes (Some rest) = Some (bytes ++ rest)

-- the bytes in the buffer
abbrev pub buffered_of : {S : Type 0} → Buffered S → List ℕ
buffered_of b = drop b.start (take b.end b.buffer.items)
