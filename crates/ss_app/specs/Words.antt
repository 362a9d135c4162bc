-- The words of the command line: a command, and behind `init` words `KEY=VALUE` in any order, each key at most once.
--
--     init mode=discard [depth=N] [threshold=N] [batch=N] [rows=N] [limit=N]
--     trace
--     import [head=yes|head=no]
--     info
--     --help
--     --version
--
-- A number is decimal, without a sign and without leading zeros, and within the range of its key. Words are counted from 0.
use Rattle.std.specs.{Prelude.{ℕ, ◌+◌, ◌-◌, ◌^◌, ◌==◌, ◌&&◌, nat_le, true, false, List, [], ◌∷◌, ◌++◌, if◌then◌else◌, length, take, drop, position, codes, Option, Some, None, Result, Ok, Err, option_map, unwrap_or}, Option.{option_and_then, option_map_or}, Fmt.decimal, Str.bytes_eq, Str.Parse.digits_value}
use Rattle.ss_records.specs.{declared.record.Config.Config, declared.record.Mode.Mode, declared.record.Mode.TheVariants.Discard, Record.SettingsFit}
use Rattle.ss_app.specs.{declared.words.Command.Command, declared.words.Command.TheVariants.{Init, Trace, Import, Info, Help, Version}, declared.words.Key.Key, declared.words.Settings.Settings}
use Rattle.ss_script.specs.Fields.{is_number}

-- the number of a value, where it is valid and within these bounds
unfoldable pub number_within : ℕ → ℕ → List ℕ → Option ℕ
number_within least most value =
    let n = digits_value 10 value in
    if is_number value && (nat_le least n && nat_le n most) then Some n else None

-- the mode of this name, of those that a store can be made in
abbrev pub mode_of : List ℕ → Option Mode
mode_of value = if bytes_eq value (codes "discard") then Some Discard else None

-- the key of this name
abbrev pub key_of : List ℕ → Option Key
key_of name =
    if bytes_eq name (codes "mode") then Some Key.Mode
    else if bytes_eq name (codes "depth") then Some Key.Depth
    else if bytes_eq name (codes "threshold") then Some Key.Threshold
    else if bytes_eq name (codes "batch") then Some Key.Batch
    else if bytes_eq name (codes "rows") then Some Key.Rows
    else if bytes_eq name (codes "limit") then Some Key.Limit
    else None

-- what stands before the first `=` of a word, and what stands behind it
abbrev pub key_and_value : List ℕ → Option (List ℕ × List ℕ)
key_and_value word = option_map (λ at. (take at word, drop (at + 1) word)) (position (λ b. b == 61) word)

-- the value of a key, if the key stood in no word before
abbrev pub once : {T : Type 0} → Option T → Option T → Option T
once None value = value
once (Some before) value = None

-- the settings with the value of one key more, where it is valid and within the key's range
unfoldable pub with_value : Settings → Key → List ℕ → Option Settings
with_value s Key.Mode value = option_map (λ m. record s { mode = Some m }) (once s.mode (mode_of value))
with_value s Key.Depth value = option_map (λ n. record s { depth = Some n }) (once s.depth (number_within 0 (2 ^ 62) value))
with_value s Key.Threshold value = option_map (λ n. record s { threshold = Some n }) (once s.threshold (number_within 1 (2 ^ 62) value))
with_value s Key.Batch value = option_map (λ n. record s { batch = Some n }) (once s.batch (number_within 1 4096 value))
with_value s Key.Rows value = option_map (λ n. record s { rows = Some n }) (once s.rows (number_within 1 (2 ^ 32 - 1) value))
with_value s Key.Limit value = option_map (λ n. record s { limit = Some n }) (once s.limit (number_within 65536 (2 ^ 40) value))

-- the settings with one word more, where it is valid
unfoldable pub with_word : Settings → List ℕ → Option Settings
with_word s word = option_and_then (λ parts. option_and_then (λ k. with_value s k parts.1) (key_of parts.0)) (key_and_value word)

-- no word has set anything
abbrev pub no_settings : Settings
no_settings = record { mode = None; depth = None; threshold = None; batch = None; rows = None; limit = None }

-- the settings with words more, of which the first has this place, or the place of the first that is invalid
abbrev pub settings_from : ℕ → Settings → List (List ℕ) → Result Settings ℕ
settings_from place s [] = Ok s
settings_from place s (word ∷ words) = option_map_or (λ more. settings_from (place + 1) more words) (with_word s word) (Err place)

-- the settings of a store, which have to name a mode; what no word sets has its default
abbrev pub config_of : Settings → Option Config
config_of s =
    option_map (λ mode. record {
      mode = mode;
      depth = unwrap_or s.depth 3600;
      threshold = unwrap_or s.threshold 4500;
      batch = unwrap_or s.batch 256;
      rows = unwrap_or s.rows (2 ^ 32 - 1);
      limit = unwrap_or s.limit (2 ^ 40);
    }) s.mode

-- the command `init` with these settings, or the place behind all words where the settings lack a mode
abbrev pub init_with : ℕ → Result Settings ℕ → Result Command ℕ
init_with behind (Ok s) = option_map_or (λ config. Ok (Init config)) (config_of s) (Err behind)
init_with behind (Err place) = Err place

-- the command `init` with these words behind it
abbrev pub init_of : List (List ℕ) → Result Command ℕ
init_of words = init_with (length words + 1) (settings_from 1 no_settings words)

-- a command that takes no words, or the place at fault where there are some
abbrev pub alone : Command → ℕ → List (List ℕ) → Result Command ℕ
alone command place [] = Ok command
alone command place (word ∷ words) = Err place

-- the command `import` with these words behind it, which sets the roots as head unless a word says that it does not
abbrev pub import_of : List (List ℕ) → Result Command ℕ
import_of [] = Ok (Import true)
import_of (word ∷ words) =
    if bytes_eq word (codes "head=yes") then alone (Import true) 2 words
    else if bytes_eq word (codes "head=no") then alone (Import false) 2 words
    else Err 1

-- The command of these words, or the place of the first that is invalid: the number of words where one is missing.
-- A word behind `trace` is at fault, but `--help` and `--version` are themselves no commands unless they stand alone.
abbrev pub command_of : List (List ℕ) → Result Command ℕ
command_of [] = Err 0
command_of (command ∷ words) =
    if bytes_eq command (codes "init") then init_of words
    else if bytes_eq command (codes "trace") then alone Trace 1 words
    else if bytes_eq command (codes "import") then import_of words
    else if bytes_eq command (codes "info") then alone Info 1 words
    else if bytes_eq command (codes "--help") then alone Help 0 words
    else if bytes_eq command (codes "--version") then alone Version 0 words
    else Err 0

-- the words that ask for a store of these settings, where its mode is `discard`
abbrev pub words_of : Config → List (List ℕ)
words_of c =
    codes "init" ∷ codes "mode=discard" ∷ (codes "depth=" ++ decimal c.depth) ∷ (codes "threshold=" ++ decimal c.threshold)
    ∷ (codes "batch=" ++ decimal c.batch) ∷ (codes "rows=" ++ decimal c.rows) ∷ (codes "limit=" ++ decimal c.limit) ∷ []

-- the settings of a store that is made are within their limits
abbrev pub CommandFits : Command → Type 0
CommandFits (Init config) = SettingsFit config
CommandFits _ = Unit {0}
