-- Which file each log has.
use Rattle.std.specs.Prelude.{ℕ, List, [], ◌∷◌}

-- the file of the hot log
abbrev pub hot_file : ℕ
hot_file = 0

-- the files of all logs
abbrev pub log_files : List ℕ
log_files = hot_file ∷ []
