-- What is wrong with a script, and how it is reported.
use Rattle.std.specs.Prelude.{◌≡◌, ℕ, Result, Ok, Err}
use Rattle.ss_script.specs.declared.fault.{ScriptKind.ScriptKind, ScriptFault.ScriptFault, LineFault.LineFault}

-- the number of a kind in an error line
abbrev pub kind_number : ScriptKind → ℕ
kind_number ScriptKind.BadClient = 1
kind_number ScriptKind.UnknownCall = 2
kind_number ScriptKind.BadFields = 3
kind_number ScriptKind.BadNumber = 4
kind_number ScriptKind.BadCid = 5
kind_number ScriptKind.BadHex = 6
kind_number ScriptKind.TooManyLines = 8
kind_number ScriptKind.NotYet = 9

-- the fault of a script by that of its line of this number
abbrev pub fault_at : ℕ → LineFault → ScriptFault
fault_at n (LineFault.Bad kind) = ScriptFault.Bad n kind
fault_at n LineFault.NoMemory = ScriptFault.NoMemory

-- a reader gives what the grammar says, or runs out of memory
abbrev pub Reads : {A : Type 0} → Result A LineFault → Result A ScriptKind → Type 0
Reads (Ok x) said = said ≡ Ok x
Reads (Err (LineFault.Bad kind)) said = said ≡ Err kind
Reads (Err LineFault.NoMemory) said = Unit {0}
