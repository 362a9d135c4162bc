-- The status of each ending of a run, and the line that tells why.
use Rattle.std.specs.Prelude.{ℕ, List, [], ◌∷◌, ◌++◌, codes, Result, Ok, Err}
use Rattle.ss_io.specs.declared.whole.ReadAllFault.{ReadAllFault}
use Rattle.ss_script.specs.{declared.fault.ScriptFault.ScriptFault, Fault.kind_number, Text.{numbers_text, head_reply_text, height_text, info_text, settings_text}}
use Rattle.ss_car.specs.Car.{number_of}
use Rattle.ss_model.specs.declared.call.Info.{Info}
use Rattle.ss_import.specs.{Import.block_number, declared.importer.Imported.Imported as Import, declared.fault.ImportFault.ImportFault}
use Rattle.ss_app.specs.{declared.ending.Ending.Ending, declared.ending.Ending.TheVariants.{Done, Usage, NoMemory, ReadFault, DiskFault, NoStore, StoreExists, Damaged, BadScript, TooLong, NotImported, Imported, Informed}}
use Rattle.ss_open.specs.declared.fault.OpenFault.{OpenFault}

-- the ending of a run whose source is not read to its end
abbrev pub ending_of_input : ReadAllFault → Ending
ending_of_input ReadAllFault.Failed = ReadFault
ending_of_input ReadAllFault.TooLong = TooLong
ending_of_input ReadAllFault.NoMemory = NoMemory

-- the ending of a run whose script is not read
abbrev pub ending_of : ScriptFault → Ending
ending_of (ScriptFault.Bad line kind) = BadScript line kind
ending_of ScriptFault.NoMemory = NoMemory

-- the ending of a run whose store is not opened or made
abbrev pub ending_of_open : OpenFault → Ending
ending_of_open OpenFault.NoStore = NoStore
ending_of_open OpenFault.StoreExists = StoreExists
ending_of_open (OpenFault.Damaged file at) = Damaged file at
ending_of_open OpenFault.DiskFault = DiskFault
ending_of_open OpenFault.NoMemory = NoMemory

-- the ending of a run into whose store a CAR was imported
abbrev pub ending_of_outcome : Result Import ImportFault → Ending
ending_of_outcome (Ok imported) = Imported imported
ending_of_outcome (Err fault) = NotImported fault

abbrev pub import_status : ImportFault → ℕ
import_status ImportFault.NoMemory = 3
import_status ImportFault.ReadFault = 4
import_status ImportFault.DiskFault = 6
import_status (ImportFault.BadCar fault offset) = 10
import_status (ImportFault.BadBlock fault offset) = 10
import_status (ImportFault.LogFull file need room) = 11
import_status (ImportFault.TableFull rows) = 12
import_status ImportFault.TooLong = 13
import_status (ImportFault.BadHead reply) = 16

abbrev pub status_of : Ending → ℕ
status_of Done = 0
status_of (Usage word) = 2
status_of NoMemory = 3
status_of ReadFault = 4
status_of DiskFault = 6
status_of NoStore = 7
status_of StoreExists = 7
status_of (Damaged file at) = 8
status_of (BadScript line kind) = 9
status_of TooLong = 13
status_of (NotImported fault) = import_status fault
status_of (Imported imported) = 0
status_of (Informed info) = 0

-- the line of an import that ended before its CAR did
abbrev pub import_line : ImportFault → List ℕ
import_line ImportFault.NoMemory = codes "error: no memory\n"
import_line ImportFault.ReadFault = codes "error: read fault\n"
import_line ImportFault.DiskFault = codes "error: disk fault\n"
import_line (ImportFault.BadCar fault offset) = codes "error: car" ++ (numbers_text (number_of fault ∷ offset ∷ []) ++ codes "\n")
import_line (ImportFault.BadBlock fault offset) = codes "error: car" ++ (numbers_text (block_number fault ∷ offset ∷ []) ++ codes "\n")
import_line (ImportFault.LogFull file need room) = codes "error: log full" ++ (numbers_text (file ∷ need ∷ room ∷ []) ++ codes "\n")
import_line (ImportFault.TableFull rows) = codes "error: table full" ++ (numbers_text (rows ∷ []) ++ codes "\n")
import_line ImportFault.TooLong = codes "error: too long\n"
import_line (ImportFault.BadHead reply) = codes "error: head " ++ (head_reply_text reply ++ codes "\n")

-- how many sections and new blocks there were, and the height that was set
abbrev pub imported_text : Import → List ℕ
imported_text i =
    codes "imported" ++ (numbers_text (i.sections ∷ []) ++ (codes " new" ++ (numbers_text (i.new ∷ []) ++ (codes " height" ++ (height_text i.height ++ codes "\n")))))

-- the settings of a store, and what it counts
abbrev pub informed_text : Info → List ℕ
informed_text info = settings_text info.config ++ (codes "\n" ++ (info_text info ++ codes "\n"))

-- the last lines that are written
abbrev pub line_of : Ending → List ℕ
line_of Done = []
line_of (Usage word) = codes "error: usage" ++ (numbers_text (word ∷ []) ++ codes "\n")
line_of NoMemory = codes "error: no memory\n"
line_of ReadFault = codes "error: read fault\n"
line_of DiskFault = codes "error: disk fault\n"
line_of NoStore = codes "error: no store\n"
line_of StoreExists = codes "error: store exists\n"
line_of (Damaged file at) = codes "error: damaged" ++ (numbers_text (file ∷ at ∷ []) ++ codes "\n")
line_of (BadScript line kind) = codes "error: script" ++ (numbers_text (line ∷ kind_number kind ∷ []) ++ codes "\n")
line_of TooLong = codes "error: too long\n"
line_of (NotImported fault) = import_line fault
line_of (Imported imported) = imported_text imported
line_of (Informed info) = informed_text info
