-- The words that ask for a store are read as its settings.
use Rattle.std.proofs.Common.{◌≡◌, ℕ, ◌+◌, ◌-◌, ◌^◌, ◌<◌, ◌≤◌, true, not, List, [], ◌∷◌, ◌++◌, Some, Ok, Err, length, refl, sym, ap, ◌∙◌, arith}
use Rattle.std.specs.Prelude.{◌==◌, codes}
use Rattle.std.specs.Fmt.{decimal}
use Rattle.std.specs.List.{list_all, position_or_len}
use Rattle.std.specs.Option.{option_map_or}
use Rattle.std.proofs.Math.Seq.{take-append_seam, drop-append-add}
use Rattle.std.proofs.lemmas.Bool.{and_parts, lt-ltb, le-leb}
use Rattle.std.proofs.lemmas.Fmt.{decimal_is_IsNumeral}
use Rattle.std.proofs.lemmas.List.{length-append}
use Rattle.ss_records.specs.declared.record.Config.{Config}
use Rattle.ss_records.specs.declared.record.Mode.TheVariants.{Discard}
use Rattle.ss_records.specs.Record.{SettingsFit}
use Rattle.ss_app.specs.declared.words.Command.TheVariants.{Init}
use Rattle.ss_app.specs.declared.words.Key.{Key}
use Rattle.ss_app.specs.declared.words.Key.TheVariants as key
use Rattle.ss_app.specs.declared.words.Settings.{Settings}
use Rattle.ss_app.specs.Words.{command_of, init_with, key_of, key_and_value, no_settings, number_within, settings_from, with_value, with_word, words_of}
use Rattle.ss_script.proofs.Decimals.{number_printed}

number_read : (least most n : ℕ) → least ≤ n → n ≤ most → most < 2 ^ 64 → number_within least most (decimal n) ≡ Some n
unfolding number_within
number_read least most n low high fits =
    let small : n < 2 ^ 64 = omega arith in
    rw (number_printed n small, (decimal_is_IsNumeral n small).1, le-leb least n low, le-leb n most high) refl

-- no byte of a key is `=`
abbrev IsKey : List ℕ → Type 0
IsKey name = list_all (λ b. not (b == 61)) name ≡ true

equals_at : (name value : List ℕ) → IsKey name → position_or_len (λ b. b == 61) (name ++ 61 ∷ value) ≡ length name
equals_at [] value is = refl
equals_at (b ∷ name) value is =
    let parts = and_parts (not (b == 61)) _ is in
    rw parts.0 (omega (arith, equals_at name value parts.1))

parts_of : (name value : List ℕ) → IsKey name → key_and_value (name ++ 61 ∷ value) ≡ Some (name, value)
parts_of name value is =
    rw (equals_at name value is, lt-ltb (length name) (length (name ++ 61 ∷ value)) (omega (arith, length-append name (61 ∷ value))), take-append_seam name (61 ∷ value), drop-append-add name (61 ∷ value) 1) refl

word_sets : (s more : Settings) (name value : List ℕ) (k : Key) → IsKey name → key_of name ≡ Some k → with_value s k value ≡ Some more → with_word s (name ++ 61 ∷ value) ≡ Some more
unfolding with_word
word_sets s more name value k is names sets = rw (parts_of name value is, names) sets

-- a word that sets a key, before others
key_read : (place : ℕ) (s more : Settings) (name value : List ℕ) (k : Key) (words : List (List ℕ)) → IsKey name → key_of name ≡ Some k → with_value s k value ≡ Some more → settings_from place s ((name ++ 61 ∷ value) ∷ words) ≡ settings_from (place + 1) more words
key_read place s more name value k words is names sets = ap (λ o. option_map_or (λ more. settings_from (place + 1) more words) o (Err place)) (word_sets s more name value k is names sets)

pub asked_for : (c : Config) → SettingsFit c → c.mode ≡ Discard → command_of (words_of c) ≡ Ok (Init c)
unfolding with_value
asked_for c fit is =
    ap (init_with 7) (
    key_read 1 no_settings set_mode (codes "mode") (codes "discard") key.Mode from_depth refl refl refl
    ∙ key_read 2 set_mode set_depth (codes "depth") (decimal c.depth) key.Depth from_threshold refl refl (rw (number_read 0 (2 ^ 62) c.depth (omega arith) fit.depth (omega arith)) refl)
    ∙ key_read 3 set_depth set_threshold (codes "threshold") (decimal c.threshold) key.Threshold from_batch refl refl (rw (number_read 1 (2 ^ 62) c.threshold fit.threshold.0 fit.threshold.1 (omega arith)) refl)
    ∙ key_read 4 set_threshold set_batch (codes "batch") (decimal c.batch) key.Batch from_rows refl refl (rw (number_read 1 4096 c.batch fit.batch.0 fit.batch.1 (omega arith)) refl)
    ∙ key_read 5 set_batch set_rows (codes "rows") (decimal c.rows) key.Rows from_limit refl refl (rw (number_read 1 (2 ^ 32 - 1) c.rows fit.rows.0 (omega (arith, fit.rows.1)) (omega arith)) refl)
    ∙ key_read 6 set_rows set_limit (codes "limit") (decimal c.limit) key.Limit [] refl refl (rw (number_read 65536 (2 ^ 40) c.limit fit.limit.0 fit.limit.1 (omega arith)) refl))
    ∙ ap (λ mode. Ok (Init (record c { mode = mode }))) (sym is)
  where
    set_mode : Settings
    set_mode = record no_settings { mode = Some Discard }

    set_depth : Settings
    set_depth = record set_mode { depth = Some c.depth }

    set_threshold : Settings
    set_threshold = record set_depth { threshold = Some c.threshold }

    set_batch : Settings
    set_batch = record set_threshold { batch = Some c.batch }

    set_rows : Settings
    set_rows = record set_batch { rows = Some c.rows }

    set_limit : Settings
    set_limit = record set_rows { limit = Some c.limit }

    from_limit : List (List ℕ)
    from_limit = (codes "limit=" ++ decimal c.limit) ∷ []

    from_rows : List (List ℕ)
    from_rows = (codes "rows=" ++ decimal c.rows) ∷ from_limit

    from_batch : List (List ℕ)
    from_batch = (codes "batch=" ++ decimal c.batch) ∷ from_rows

    from_threshold : List (List ℕ)
    from_threshold = (codes "threshold=" ++ decimal c.threshold) ∷ from_batch

    from_depth : List (List ℕ)
    from_depth = (codes "depth=" ++ decimal c.depth) ∷ from_threshold
