use Rattle.std.proofs.Common.{◌≡◌, ◌+◌, map, string_bytes, drop}
use Rattle.ss_app.specs.Words.{no_settings, settings_from}
use Rattle.ss_app.proofs.words.read_settings.Given as goal

abbrev pub invariant-loop-index : goal.invariant-loop-index
invariant-loop-index l =
    settings_from 1 no_settings (map string_bytes l.words)
    ≡ settings_from (l.index + 1) l.settings (drop l.index (map string_bytes l.words))
