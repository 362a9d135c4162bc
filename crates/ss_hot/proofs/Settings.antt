-- The settings of a file, and the two records that commit them.
use Rattle.std.proofs.Common.{◌≡◌, ⊎_elim, ℕ, suc, ◌<◌, List, [], ◌∷◌, ◌++◌, length, take, drop, refl, sym, ◌∙◌, ap, arith, append_assoc, length-append}
use Rattle.std.specs.Prelude.{Result, Ok, Option, Some, None}
use Rattle.std.proofs.lemmas.List.{drop_at, take_at}
use Rattle.ss_records.specs.declared.record.Config.{Config as Settings}
use Rattle.ss_records.specs.declared.record.Record.{Record}
use Rattle.ss_records.specs.declared.record.Record.TheVariants.{Config, Generation, Put, Dropped, Head, Base, Start, Cold, Sealed, Copied, Purged}
use Rattle.ss_records.specs.Record.{spelling}
use Rattle.ss_records.specs.Fields.{read_record}
use Rattle.ss_records.proofs.Records.{read_again}
use Rattle.ss_gatelog.specs.Log.{open_gate, length_bytes, spelled, AreBodies, Spells}
use Rattle.ss_gatelog.proofs.Lists.{compared, closed_ends}
use Rattle.ss_gatelog.proofs.Steps.{spelled-append, spelled-push}
use Rattle.ss_store.specs.Append.{bodies}
use Rattle.ss_hot.specs.Half.{MayStand, AreInPlace, settings_from, settings_of}
use Rattle.ss_hot.specs.Half.{HasSettings}

-- the bytes of the second record's body are a part of the file
pub second_part : (file : List ℕ) (settings : Settings) (has : HasSettings file settings) → (at : ℕ) × (take (length has.second) (drop at file) ≡ has.second)
second_part file settings has =
    let front = spelled (has.first ∷ []) ++ open_gate ∷ length_bytes (length has.second) in
    let behind = has.gate ∷ has.rest in
    let is : file ≡ front ++ (has.second ++ behind) =
    has.is ∙ spelled-push (has.first ∷ []) has.second behind ∙ sym (append_assoc (spelled (has.first ∷ [])) (open_gate ∷ length_bytes (length has.second)) (has.second ++ behind)) in (
      length front,
      ap (λ (l : List ℕ). take (length has.second) (drop (length front) l)) is ∙ ap (λ (l : List ℕ). take (length has.second) l) (drop_at front (has.second ++ behind) (length front) refl) ∙ take_at has.second behind (length has.second) refl,
    )

-- ---- the settings that the records tell

-- a record that stands as the second tells settings
pub second_tells : (r : Record) → MayStand 1 r → (c : Settings) × (r ≡ Config c)
second_tells (Config c) stands = (c, refl)
second_tells (Generation n) stands = absurd stands
second_tells (Put blocks) stands = absurd stands
second_tells (Dropped cids) stands = absurd stands
second_tells (Head height cids) stands = absurd stands
second_tells (Base base ended) stands = absurd stands
second_tells (Start edge cids) stands = absurd stands
second_tells (Cold cids) stands = absurd stands
second_tells (Sealed total) stands = absurd stands
second_tells (Copied up_to) stands = absurd stands
second_tells (Purged up_to) stands = absurd stands

-- later ones tell none
later_keep : (n : ℕ) (told : Option Settings) (rs : List Record) → AreInPlace (suc (suc n)) rs → settings_from told rs ≡ told
later_keep n told [] are = refl
later_keep n told (Config c ∷ rs) are = absurd are.0.may_stand
later_keep n told (Generation k ∷ rs) are = later_keep (suc n) told rs are.1
later_keep n told (Put blocks ∷ rs) are = later_keep (suc n) told rs are.1
later_keep n told (Dropped cids ∷ rs) are = later_keep (suc n) told rs are.1
later_keep n told (Head height cids ∷ rs) are = later_keep (suc n) told rs are.1
later_keep n told (Base base ended ∷ rs) are = later_keep (suc n) told rs are.1
later_keep n told (Start edge cids ∷ rs) are = later_keep (suc n) told rs are.1
later_keep n told (Cold cids ∷ rs) are = later_keep (suc n) told rs are.1
later_keep n told (Sealed total ∷ rs) are = later_keep (suc n) told rs are.1
later_keep n told (Copied up_to ∷ rs) are = later_keep (suc n) told rs are.1
later_keep n told (Purged up_to ∷ rs) are = later_keep (suc n) told rs are.1

-- the first tells none
first_keeps : (r : Record) (rs : List Record) → MayStand 0 r → settings_of (r ∷ rs) ≡ settings_of rs
first_keeps (Config c) rs stands = absurd stands
first_keeps (Generation n) rs stands = refl
first_keeps (Put blocks) rs stands = absurd stands
first_keeps (Dropped cids) rs stands = absurd stands
first_keeps (Head height cids) rs stands = absurd stands
first_keeps (Base base ended) rs stands = absurd stands
first_keeps (Start edge cids) rs stands = absurd stands
first_keeps (Cold cids) rs stands = absurd stands
first_keeps (Sealed total) rs stands = absurd stands
first_keeps (Copied up_to) rs stands = absurd stands
first_keeps (Purged up_to) rs stands = absurd stands

-- records in their places tell the settings of the second
two_told : (p q : Record) (rs : List Record) (c : Settings) → AreInPlace 0 (p ∷ q ∷ rs) → q ≡ Config c → settings_of (p ∷ q ∷ rs) ≡ Some c
two_told p q rs c are is =
    first_keeps p (q ∷ rs) are.0.may_stand
    ∙ ap (λ (r : Record). settings_of (r ∷ rs)) is
    ∙ later_keep 0 (Some c) rs are.1.1

-- a file that they spell commits the settings that they tell
pub settings_stand : (file : List ℕ) (rs : List Record) (settings : Settings) → AreInPlace 0 rs → settings_of rs ≡ Some settings → AreBodies (bodies rs) → Spells (bodies rs) file → HasSettings file settings
settings_stand file [] settings are told short spells = absurd (let differ : ⊥ = cc in differ)
settings_stand file (p ∷ []) settings are told short spells = absurd (none (sym (first_keeps p [] are.0.may_stand) ∙ told))
  where
    none : ◌≡◌ {A = Option Settings} None (Some settings) → ⊥
    none is = cc
settings_stand file (p ∷ q ∷ rs) settings are told short spells =
    let row = spelling p ∷ spelling q ∷ [] in
    gated (spelled (bodies rs) ++ spells.gate ∷ spells.rest)
    (spells.is ∙ ap (λ (l : List ℕ). l ++ spells.gate ∷ spells.rest) (spelled-append row (bodies rs)) ∙ append_assoc (spelled row) (spelled (bodies rs)) (spells.gate ∷ spells.rest))
    (omega (arith, length-append (spelled (bodies rs)) (spells.gate ∷ spells.rest)))
  where
    tells : (c : Settings) × (q ≡ Config c)
    tells = second_tells q are.1.0.may_stand

    once : (c d : Settings) → ◌≡◌ {A = Option Settings} (Some c) (Some d) → c ≡ d
    once c d same = cc

    is_settings : tells.0 ≡ settings
    is_settings = once tells.0 settings (sym (two_told p q rs tells.0 are tells.1) ∙ told)

    reads : read_record (spelling q) ≡ Ok (Config settings)
    reads = read_again q are.1.0.value are.1.0.fits ∙ ap Ok (tells.1 ∙ ap Config is_settings)

    gated : (rest : List ℕ) → file ≡ spelled (spelling p ∷ spelling q ∷ []) ++ rest → 0 < length rest → HasSettings file settings
    gated [] is some = absurd (omega arith)
    gated (gate ∷ rest) is some = record {
      first = spelling p;
      second = spelling q;
      gate = gate;
      rest = rest;
      is = is;
      bodies = (short.0, (short.1.0, tt));
      reads = reads;
    }

-- records that begin with these bodies
told_by : (rs : List Record) (first second : List ℕ) (more : List (List ℕ)) (settings : Settings) → AreInPlace 0 rs → bodies rs ≡ first ∷ second ∷ more → read_record second ≡ Ok (Config settings) → settings_of rs ≡ Some settings
told_by [] first second more settings are is reads = absurd (let differ : ⊥ = cc in differ)
told_by (p ∷ []) first second more settings are is reads = absurd (let differ : ⊥ = cc in differ)
told_by (p ∷ q ∷ rs) first second more settings are is reads =
    let tells = second_tells q are.1.0.may_stand in
    let spells : spelling q ≡ second = seconds _ _ _ _ _ _ is in
    let reads' : read_record second ≡ Ok q = ap read_record (sym spells) ∙ read_again q are.1.0.value are.1.0.fits in
    let same : Config tells.0 ≡ Config settings = oks _ _ (sym (reads' ∙ ap Ok tells.1) ∙ reads) in
    let equal : tells.0 ≡ settings = cc in
    first_keeps p (q ∷ rs) are.0.may_stand
    ∙ ap (λ (r : Record). settings_of (r ∷ rs)) tells.1
    ∙ later_keep 0 (Some tells.0) rs are.1.1
    ∙ ap Some equal
  where
    seconds : (a b c d : List ℕ) (s t : List (List ℕ)) → a ∷ b ∷ s ≡ c ∷ d ∷ t → b ≡ d
    seconds a b c d s t is = cc

    oks : (a b : Record) → ◌≡◌ {A = Result Record ℕ} (Ok a) (Ok b) → a ≡ b
    oks a b is = cc

-- the records of a file tell the settings that are committed there
pub tells_settings : (file : List ℕ) (rs : List Record) (settings : Settings) → HasSettings file settings → Spells (bodies rs) file → AreBodies (bodies rs) → AreInPlace 0 rs → settings_of rs ≡ Some settings
tells_settings file rs settings has spells are in_place =
    let row = has.first ∷ has.second ∷ [] in
    ⊎_elim
    (λ both. told_by rs has.first has.second [] settings in_place (sym both.0) has.reads)
    (λ other. ⊎_elim
    (λ longer. told_by rs has.first has.second (longer.body ∷ longer.bodies) settings in_place longer.is has.reads)
    (λ longer. absurd (closed_ends (bodies rs) row spells.gate spells.rest (has.gate ∷ has.rest) spells.closed longer))
    other)
    (compared row (bodies rs) (has.gate ∷ has.rest) (spells.gate ∷ spells.rest) has.bodies are (sym has.is ∙ spells.is))
