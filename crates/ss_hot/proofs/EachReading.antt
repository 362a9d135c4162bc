-- A file with settings has a list of records, or a first invalid record.
use Rattle.std.proofs.Common.{◌≡◌, ◌⊎◌, inl, inr, ⊎_elim, ℕ, zero, suc, ◌+◌, ◌<◌, ◌≤◌, List, [], ◌∷◌, ◌++◌, length, drop, refl, sym, ◌∙◌, ap, subst, arith}
use Rattle.std.proofs.lemmas.Bool.{cases_eq}
use Rattle.ss_records.specs.declared.record.Config.{Config as Settings}
use Rattle.ss_records.specs.declared.record.Record.{Record}
use Rattle.ss_records.specs.declared.record.Record.TheVariants.{Config}
use Rattle.ss_records.specs.Record.{spelling}
use Rattle.ss_records.proofs.Parts.{IsBytes, IsBytes-drop, IsBytes-take}
use Rattle.ss_records.proofs.Records.{read_takes}
use Rattle.ss_gatelog.specs.Log.{open_gate, length_bytes, spelled, AreBodies, Fits as FitsGate}
use Rattle.ss_gatelog.proofs.Steps.{spelled-push, length-spelled-push, bodies_push}
use Rattle.ss_store.specs.Append.{bodies}
use Rattle.ss_store.proofs.Appended.{bodies-push}
use Rattle.ss_hot.specs.Half.{IsInPlace, AreInPlace}
use Rattle.ss_hot.specs.Half.{HasSettings, IsHalf, IsBad, IsDamagedHalf}
use Rattle.ss_hot.proofs.Grown.{AreInPlace-push}
use Rattle.ss_hot.proofs.Misfits.{read_or_misfit, fits_or_not, fit_body}
use Rattle.ss_hot.proofs.Readings.{long_file}
use Rattle.ss_hot.proofs.Settings.{second_part}

-- valid records at the start of a file, and what stands after them
record IsFront (limit : ℕ) (file : List ℕ) (front : List Record) (rest : List ℕ) : Type 0 where
  is : file ≡ spelled (bodies front) ++ rest
  are : AreBodies (bodies front)
  in_place : AreInPlace 0 front
  within : length (spelled (bodies front)) < limit
  small : IsBytes rest
  some : 0 < length rest

-- one record more
front_next : (limit : ℕ) (file rest more : List ℕ) (front : List Record) (r : Record) → IsFront limit file front (open_gate ∷ rest) → rest ≡ length_bytes (length (spelling r)) ++ (spelling r ++ more) → FitsGate limit (length (spelled (bodies front))) rest (length (spelling r))
    → IsInPlace (length front) r → IsBytes more → 0 < length more → IsFront limit file (front ++ r ∷ []) more
front_next limit file rest more front r leads parts fits stands small some =
    let row : bodies front ++ spelling r ∷ [] ≡ bodies (front ++ r ∷ []) = sym (bodies-push front r) in
    let count : length front ≡ 0 + length front = omega arith in
    record {
      is =
          leads.is
          ∙ ap (λ (l : List ℕ). spelled (bodies front) ++ open_gate ∷ l) parts
          ∙ sym (spelled-push (bodies front) (spelling r) more)
          ∙ ap (λ (l : List (List ℕ)). spelled l ++ more) row;
      are = subst AreBodies row (bodies_push (bodies front) (spelling r) leads.are fits.in_bounds);
      in_place = AreInPlace-push 0 front r leads.in_place (subst (λ (k : ℕ). IsInPlace k r) count stands);
      within = omega (arith, fits.in_limit, length-spelled-push (bodies front) (spelling r), ap (λ (l : List (List ℕ)). length (spelled l)) row);
      small = small;
      some = some;
    }

module _ (file : List ℕ) (settings : Settings) (committed : HasSettings file settings) where
  -- what the file stands for
  abbrev Reading : Type 0
  Reading = ((records : List Record) × IsHalf file settings records) ⊎ ((at : ℕ) × IsDamagedHalf file at)

  -- an open gate after valid records
  module _ (front : List Record) (rest : List ℕ) (leads : IsFront settings.limit file front (open_gate ∷ rest)) where
    abbrev at : ℕ
    at = length (spelled (bodies front))

    -- the first fault is there
    faulty : ((n : ℕ) → FitsGate settings.limit at rest n → ⊥) ⊎ IsBad settings.limit (length front) at rest → Reading
    faulty fault = inr (
      at,
      record {
        settings = settings;
        committed = committed;
        damage = record { front = front; rest = rest; is = leads.is; place = refl; bodies = leads.are; in_place = leads.in_place; within = leads.within; fault = fault };
      },
    )

    -- it is, or one good record more
    opened : ((next : List Record) (more : List ℕ) → IsFront settings.limit file next more → length more ≤ length rest → Reading) → Reading
    opened on = ⊎_elim (λ found. fitting found.0 found.1) (λ unfit. faulty (inl unfit)) (fits_or_not settings.limit at rest behind)
      where
        behind : IsBytes rest
        behind = IsBytes-drop 1 (open_gate ∷ rest) leads.small

        fitting : (n : ℕ) → FitsGate settings.limit at rest n → Reading
        fitting n fits =
            let b = fit_body settings.limit at rest behind n fits in
            let fits' = subst (FitsGate settings.limit at rest) (sym b.size) fits in
            ⊎_elim
            (λ read. on (front ++ read.0 ∷ []) b.more (front_next settings.limit file rest b.more front read.0 leads
            (subst (λ (l : List ℕ). rest ≡ length_bytes (length l) ++ (l ++ b.more)) read.1 b.is)
            (subst (λ (l : List ℕ). FitsGate settings.limit at rest (length l)) read.1 fits')
            read.2 b.more_bytes b.some)
            b.shorter)
            (λ bad. faulty (inr (record { body = b.body; more = b.more; is = b.is; fits = fits'; bad = bad })))
            (read_or_misfit (length front) b.body b.body_bytes)

  -- it comes to an end, since each record takes bytes
  goes_on : (fuel : ℕ) (front : List Record) (rest : List ℕ) → IsFront settings.limit file front rest → length rest ≤ fuel → Reading
  goes_on zero front rest leads enough = absurd (omega (arith, leads.some, enough))
  goes_on (suc fuel) front [] leads enough = absurd (omega (arith, leads.some))
  goes_on (suc fuel) front (gate ∷ rest) leads enough = elim (cases_eq gate open_gate) [
    | inl is_open ↦ opened front rest (subst (λ (b : ℕ). IsFront settings.limit file front (b ∷ rest)) is_open leads) (λ next more then less. goes_on fuel next more then (omega (arith, less, enough)))
    | inr shut ↦ inl (front, record { committed = committed; list = inr (record { spells = record { gate = gate; rest = rest; is = leads.is; closed = shut }; bodies = leads.are; within = leads.within }); in_place = leads.in_place })
  ]

-- the settings are within their bounds, so the file has a limit
pub each_reading : (file : List ℕ) (settings : Settings) → IsBytes file → (committed : HasSettings file settings) → Reading file settings committed
each_reading file settings small committed = goes_on file settings committed (length file) [] file start (omega arith)
  where
    second : IsBytes committed.second
    second = let part = second_part file settings committed in subst IsBytes part.1 (IsBytes-take (length committed.second) (drop part.0 file) (IsBytes-drop part.0 file small))

    start : IsFront settings.limit file [] file
    start = record {
      is = refl;
      are = tt;
      in_place = tt;
      within = omega (arith, (read_takes committed.second (Config settings) second committed.reads).2.limit.0);
      small = small;
      some = omega (arith, long_file file settings committed);
    }
