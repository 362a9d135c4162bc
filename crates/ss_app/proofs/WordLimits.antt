-- The settings that words ask for are within their limits.
use Rattle.std.proofs.Common.{◌≡◌, ℕ, ◌+◌, ◌-◌, ◌^◌, ◌<◌, ◌≤◌, Bool, true, false, cond, List, [], ◌∷◌, Option, Some, None, Ok, Err, length, refl, arith, ◌&&◌}
use Rattle.std.specs.Prelude.{IfSome, IfOk, nat_le, option_map, unwrap_or}
use Rattle.std.specs.Option.{option_and_then, option_map_or}
use Rattle.std.specs.Str.Parse.{digits_value}
use Rattle.std.proofs.lemmas.Bool.{and_parts, leb-true}
use Rattle.ss_records.specs.declared.record.Mode.{Mode}
use Rattle.ss_records.specs.declared.record.Config.{Config}
use Rattle.ss_records.specs.Record.{SettingsFit}
use Rattle.ss_app.specs.declared.words.Command.{Command}
use Rattle.ss_app.specs.declared.words.Command.TheVariants.{Init}
use Rattle.ss_app.specs.declared.words.Key.{Key}
use Rattle.ss_app.specs.declared.words.Key.TheVariants as key
use Rattle.ss_app.specs.declared.words.Settings.{Settings}
use Rattle.ss_script.specs.Fields.{is_number}
use Rattle.ss_app.specs.Words.{CommandFits, alone, config_of, init_of, init_with, key_of, key_and_value, mode_of, no_settings, number_within, once, settings_from, with_value, with_word}

-- the numbers that are set are within their limits
record IsWithin (s : Settings) : Type 0 where
  depth : IfSome s.depth (λ n. n ≤ 2 ^ 62)
  threshold : IfSome s.threshold (λ n. (1 ≤ n) × (n ≤ 2 ^ 62))
  batch : IfSome s.batch (λ n. (1 ≤ n) × (n ≤ 4096))
  rows : IfSome s.rows (λ n. (1 ≤ n) × (n < 2 ^ 32))
  limit : IfSome s.limit (λ n. (65536 ≤ n) × (n ≤ 2 ^ 40))

number_bounds : (least most : ℕ) (value : List ℕ) → IfSome (number_within least most value) (λ n. (least ≤ n) × (n ≤ most))
unfolding number_within
number_bounds least most value = go (is_number value && (nat_le least n && nat_le n most)) refl
  where
    n : ℕ
    n = digits_value 10 value

    go : (b : Bool) → (is_number value && (nat_le least n && nat_le n most)) ≡ b → IfSome (cond b (Some n) None) (λ n. (least ≤ n) × (n ≤ most))
    go true is =
        let bounds = and_parts _ _ (and_parts _ _ is).1 in
        (leb-true _ _ bounds.0, leb-true _ _ bounds.1)
    go false is = tt

-- a value that is set for the first time keeps what holds of it
set : {T : Type 0} (P : T → Type 0) (Q : Settings → Type 0) (f : T → Settings) (before value : Option T) → ((x : T) → P x → Q (f x)) → IfSome value P → IfSome (option_map f (once before value)) Q
set P Q f None None keeps of = tt
set P Q f None (Some x) keeps of = keeps x of
set P Q f (Some y) value keeps of = tt

set_value : (s : Settings) (k : Key) (value : List ℕ) → IsWithin s → IfSome (with_value s k value) IsWithin
unfolding with_value
set_value s key.Mode value w = set (λ _. Unit {0}) IsWithin (λ m. record s { mode = Some m }) s.mode (mode_of value) (λ m _. record { depth = w.depth; threshold = w.threshold; batch = w.batch; rows = w.rows; limit = w.limit }) (all (mode_of value))
  where
    all : (o : Option Mode) → IfSome o (λ _. Unit {0})
    all None = tt
    all (Some m) = tt
set_value s key.Depth value w = set _ IsWithin (λ n. record s { depth = Some n }) s.depth _ (λ n h. record { depth = h.1; threshold = w.threshold; batch = w.batch; rows = w.rows; limit = w.limit }) (number_bounds 0 (2 ^ 62) value)
set_value s key.Threshold value w = set _ IsWithin (λ n. record s { threshold = Some n }) s.threshold _ (λ n h. record { depth = w.depth; threshold = h; batch = w.batch; rows = w.rows; limit = w.limit }) (number_bounds 1 (2 ^ 62) value)
set_value s key.Batch value w = set _ IsWithin (λ n. record s { batch = Some n }) s.batch _ (λ n h. record { depth = w.depth; threshold = w.threshold; batch = h; rows = w.rows; limit = w.limit }) (number_bounds 1 4096 value)
set_value s key.Rows value w = set _ IsWithin (λ n. record s { rows = Some n }) s.rows _ (λ n h. record { depth = w.depth; threshold = w.threshold; batch = w.batch; rows = (h.0, omega (arith, h.1)); limit = w.limit }) (number_bounds 1 (2 ^ 32 - 1) value)
set_value s key.Limit value w = set _ IsWithin (λ n. record s { limit = Some n }) s.limit _ (λ n h. record { depth = w.depth; threshold = w.threshold; batch = w.batch; rows = w.rows; limit = h }) (number_bounds 65536 (2 ^ 40) value)

set_word : (s : Settings) (word : List ℕ) → IsWithin s → IfSome (with_word s word) IsWithin
unfolding with_word
set_word s word w = go (key_and_value word)
  where
    named : (value : List ℕ) (k : Option Key) → IfSome (option_and_then (λ k. with_value s k value) k) IsWithin
    named value None = tt
    named value (Some k) = set_value s k value w

    go : (parts : Option (List ℕ × List ℕ)) → IfSome (option_and_then (λ parts. option_and_then (λ k. with_value s k parts.1) (key_of parts.0)) parts) IsWithin
    go None = tt
    go (Some parts) = named parts.1 (key_of parts.0)

set_words : (words : List (List ℕ)) (place : ℕ) (s : Settings) → IsWithin s → IfOk (settings_from place s words) IsWithin
set_words [] place s w = w
set_words (word ∷ words) place s w = go (with_word s word) (set_word s word w) (λ more. set_words words (place + 1) more)
  where
    go : (more : Option Settings) → IfSome more IsWithin → ((more : Settings) → IsWithin more → IfOk (settings_from (place + 1) more words) IsWithin) → IfOk (option_map_or (λ more. settings_from (place + 1) more words) more (Err place)) IsWithin
    go None of rest = tt
    go (Some more) of rest = rest more of

-- a default that is within the limits
or_default : (P : ℕ → Type 0) (o : Option ℕ) (d : ℕ) → IfSome o P → P d → P (unwrap_or o d)
or_default P None d of own = own
or_default P (Some n) d of own = of

settings_fit : (s : Settings) → IsWithin s → IfSome (config_of s) SettingsFit
settings_fit s w = go s.mode
  where
    go : (mode : Option Mode) → IfSome (option_map (λ mode. record { mode = mode; depth = unwrap_or s.depth 3600; threshold = unwrap_or s.threshold 4500; batch = unwrap_or s.batch 256; rows = unwrap_or s.rows (2 ^ 32 - 1); limit = unwrap_or s.limit (2 ^ 40) }) mode) SettingsFit
    go None = tt
    go (Some mode) = record {
      depth = or_default (λ n. n ≤ 2 ^ 62) s.depth 3600 w.depth (omega arith);
      threshold = or_default (λ n. (1 ≤ n) × (n ≤ 2 ^ 62)) s.threshold 4500 w.threshold (omega arith, omega arith);
      batch = or_default (λ n. (1 ≤ n) × (n ≤ 4096)) s.batch 256 w.batch (omega arith, omega arith);
      rows = or_default (λ n. (1 ≤ n) × (n < 2 ^ 32)) s.rows (2 ^ 32 - 1) w.rows (omega arith, omega arith);
      limit = or_default (λ n. (65536 ≤ n) × (n ≤ 2 ^ 40)) s.limit (2 ^ 40) w.limit (omega arith, omega arith);
    }

pub init_fits : (words : List (List ℕ)) → IfOk (init_of words) CommandFits
init_fits words = go (settings_from 1 no_settings words) (set_words words 1 no_settings (record { depth = tt; threshold = tt; batch = tt; rows = tt; limit = tt }))
  where
    named : (config : Option Config) → IfSome config SettingsFit → IfOk (option_map_or (λ config. Ok (Init config)) config (Err (length words + 1))) CommandFits
    named None of = tt
    named (Some config) of = of

    go : (r : _) → IfOk r IsWithin → IfOk (init_with (length words + 1) r) CommandFits
    go (Ok s) of = named (config_of s) (settings_fit s of)
    go (Err place) of = tt

pub alone_fits : (command : Command) (place : ℕ) (words : List (List ℕ)) → CommandFits command → IfOk (alone command place words) CommandFits
alone_fits command place [] of = of
alone_fits command place (word ∷ words) of = tt
