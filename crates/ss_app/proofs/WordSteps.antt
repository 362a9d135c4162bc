-- One word more of the words behind `init`.
use Rattle.std.proofs.Common.{◌≡◌, ℕ, suc, ◌+◌, ◌<◌, List, [], ◌∷◌, Option, Some, None, Result, Err, length, map, drop, get_or, sym, ap, ◌∙◌, add-one, arith}
use Rattle.std.specs.Option.{option_map_or}
use Rattle.std.proofs.Math.Seq.{drop-cons}
use Rattle.std.proofs.lemmas.List.{get_or-map, length-map}
use Rattle.ss_app.specs.declared.words.Settings.{Settings}
use Rattle.ss_app.specs.Words.{settings_from, with_word}

module _ {X : Type 0} (bytes : X → List ℕ) (words : List X) (index : ℕ) (word : X) (within : index < length words) (is : word ≡ get_or words index word) (s : Settings) where
  -- the word at this place, and those behind it
  next_word : drop index (map bytes words) ≡ bytes word ∷ drop (index + 1) (map bytes words)
  next_word =
      let inside : index < length (map bytes words) = omega (arith, length-map words bytes) in
      let this : get_or (map bytes words) index [] ≡ bytes word = get_or-map bytes words index word [] within ∙ ap bytes (sym is) in
      rw add-one (drop-cons (map bytes words) index [] inside ∙ ap (λ w. w ∷ drop (suc index) (map bytes words)) this)

  -- what is read from this word on, where it makes these settings
  abbrev goes_on : Option Settings → Result Settings ℕ
  goes_on more = option_map_or (λ more. settings_from (index + 1 + 1) more (drop (index + 1) (map bytes words))) more (Err (index + 1))

  from_word : settings_from (index + 1) s (drop index (map bytes words)) ≡ goes_on (with_word s (bytes word))
  from_word = ap (settings_from (index + 1) s) next_word

  pub word_read : (more : Settings) → with_word s (bytes word) ≡ Some more → settings_from (index + 1) s (drop index (map bytes words)) ≡ settings_from (index + 1 + 1) more (drop (index + 1) (map bytes words))
  word_read more is = from_word ∙ ap goes_on is

  pub word_at_fault : with_word s (bytes word) ≡ None → settings_from (index + 1) s (drop index (map bytes words)) ≡ Err (index + 1)
  word_at_fault is = from_word ∙ ap goes_on is
