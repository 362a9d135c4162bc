-- Which body stands after an open gate, and whether it is that of a record which may stand there.
use Rattle.std.proofs.Common.{◌≡◌, ◌⊎◌, inl, inr, ⊎_elim, ℕ, zero, suc, ◌+◌, ◌<◌, ◌≤◌, List, ◌++◌, length, take, drop, refl, sym, ◌∙◌, ap, subst, arith, length-drop, take-append-drop}
use Rattle.std.specs.Prelude.{Result, Ok, Err}
use Rattle.std.specs.Int.{w32, from_be_bytes}
use Rattle.std.proofs.lemmas.Bool.{cases_lt}
use Rattle.std.proofs.lemmas.List.{length-take-le}
use Rattle.std.proofs.lemmas.Nat.{be_bytes_4}
use Rattle.ss_records.specs.declared.record.Record.{Record}
use Rattle.ss_records.specs.declared.record.Record.TheVariants.{Config, Generation, Put, Dropped, Head, Base}
use Rattle.ss_records.specs.Record.{spelling}
use Rattle.ss_records.specs.Fields.{read_record}
use Rattle.ss_records.proofs.Parts.{IsBytes, IsBytes-drop, IsBytes-take}
use Rattle.ss_records.proofs.Records.{read_takes}
use Rattle.ss_gatelog.specs.Log.{longest_body, length_bytes, Fits as FitsGate}
use Rattle.ss_gatelog.proofs.Bytes.{from_length_bytes}
use Rattle.ss_hot.specs.Half.{MayStand, IsInPlace}
use Rattle.ss_hot.specs.Opening.{IsMisfit}
use Rattle.ss_hot.proofs.Readings.{one_result}

-- a record may stand at an index or not
stands_or_not : (n : ℕ) (r : Record) → MayStand n r ⊎ (MayStand n r → ⊥)
stands_or_not zero (Generation k) = inl tt
stands_or_not (suc zero) (Config c) = inl tt
stands_or_not (suc (suc n)) (Put blocks) = inl tt
stands_or_not (suc (suc n)) (Dropped cids) = inl tt
stands_or_not (suc (suc n)) (Head height cids) = inl tt
stands_or_not (suc (suc n)) (Base base ended) = inl tt
stands_or_not n r = inr (λ stands. stands)

-- bytes are the spelling of a record that may be read at an index, or misfit there
pub read_or_misfit : (n : ℕ) (body : List ℕ) → IsBytes body → ((r : Record) × (body ≡ spelling r) × IsInPlace n r) ⊎ IsMisfit n body
read_or_misfit n body small = by_reading (read_record body) refl
  where
    no_result : (r : Record) (left : ℕ) (read : Result Record ℕ) → read ≡ Ok r → read ≡ Err left → ⊥
    no_result r left read is is' = cc

    by_reading : (read : Result Record ℕ) → read_record body ≡ read → ((r : Record) × (body ≡ spelling r) × IsInPlace n r) ⊎ IsMisfit n body
    by_reading (Err left) is = inr (λ r reads stands. no_result r left (read_record body) reads is)
    by_reading (Ok r) is = ⊎_elim
        (λ stands. let taken = read_takes body r small is in inl (r, taken.0, record { fits = taken.2; value = taken.1; may_stand = stands }))
        (λ not. inr (λ s reads stands. not (subst (MayStand n) (one_result s r (read_record body) reads is) stands)))
        (stands_or_not n r)

-- a body of this length after the four bytes of its length, and what stands after it
pub record BodyAt (n : ℕ) (rest : List ℕ) : Type 0 where
  pub body : List ℕ
  pub more : List ℕ
  pub is : rest ≡ length_bytes (length body) ++ (body ++ more)
  pub size : length body ≡ n
  pub body_bytes : IsBytes body
  pub more_bytes : IsBytes more
  pub shorter : length more ≤ length rest
  pub some : 0 < length more

module _ (limit at : ℕ) (rest : List ℕ) (small : IsBytes rest) where
  -- what the four bytes tell
  abbrev told : ℕ
  told = from_be_bytes w32 (take 4 rest)

  -- no other length fits
  none : (FitsGate limit at rest told → ⊥) → (n : ℕ) → FitsGate limit at rest n → ⊥
  none unfit n fits = unfit (subst (FitsGate limit at rest) (from_length_bytes n (take 4 rest) (omega (arith, fits.in_bounds)) (sym fits.spelled_so)) fits)

  -- they are the bytes of what they tell
  spells : 4 ≤ length rest → take 4 rest ≡ length_bytes told
  unfolding length_bytes
  spells whole = sym (be_bytes_4 (take 4 rest) told (length-take-le 4 rest whole) (IsBytes-take 4 rest small) refl)

  -- one length fits or none does
  pub fits_or_not : ((n : ℕ) × FitsGate limit at rest n) ⊎ ((n : ℕ) → FitsGate limit at rest n → ⊥)
  fits_or_not = elim (cases_lt (length rest) 4) [
    | inl cut ↦ inr (λ n fits. omega (arith, cut, fits.in_file))
    | inr whole ↦ elim (cases_lt longest_body told) [
      | inl long ↦ inr (none (λ fits. omega (arith, long, fits.in_bounds)))
      | inr short ↦ elim (cases_lt (4 + told) (length rest)) [
        | inr past ↦ inr (none (λ fits. omega (arith, past, fits.in_file)))
        | inl in_file ↦ elim (cases_lt (at + 5 + told) limit) [
          | inr past ↦ inr (none (λ fits. omega (arith, past, fits.in_limit)))
          | inl in_limit ↦ inl (told, record { spelled_so = spells whole; in_bounds = short; in_file = in_file; in_limit = in_limit })
        ]
      ]
    ]
  ]

  -- the body of a length that fits
  pub fit_body : (n : ℕ) → FitsGate limit at rest n → BodyAt n rest
  fit_body n fits =
      let behind = drop 4 rest in
      let four = length-drop 4 rest in
      let left = length-drop n behind in
      let size : length (take n behind) ≡ n = length-take-le n behind (omega (arith, fits.in_file, four)) in
      record {
        body = take n behind;
        more = drop n behind;
        is =
            sym (take-append-drop 4 rest)
            ∙ ap (λ (l : List ℕ). l ++ behind) (fits.spelled_so ∙ ap length_bytes (sym size))
            ∙ ap (λ (l : List ℕ). length_bytes (length (take n behind)) ++ l) (sym (take-append-drop n behind));
        size = size;
        body_bytes = IsBytes-take n behind (IsBytes-drop 4 rest small);
        more_bytes = IsBytes-drop n behind (IsBytes-drop 4 rest small);
        shorter = omega (arith, left, four);
        some = omega (arith, left, four, fits.in_file);
      }
