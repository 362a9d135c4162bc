-- What a line of a script asks for: its client, its number from 1, and the call.
use Rattle.std.specs.Prelude.{ℕ}
use Rattle.ss_script.specs.declared.call.ScriptCall.{ScriptCall}

pub record Asked : Type 0 where
  pub client : ℕ
  pub line : ℕ
  pub call : ScriptCall
