-- A walk over the records of a file.
use Rattle.std.proofs.Common.{◌≡◌, ◌≢◌, ◌⊎◌, inl, inr, ⊎_elim, ℕ, zero, suc, subst, ◌+◌, ◌-◌, ◌<◌, ◌≤◌, ◌^◌, List, [], ◌∷◌, ◌++◌, length, take, drop, refl, sym, ◌∙◌, ap, arith, length-drop, take-append-drop}
use Rattle.std.specs.Prelude.{slice_index, slice_range}
use Rattle.std.proofs.lemmas.Bool.{cases_eq, cases_lt}
use Rattle.std.specs.Int.{w32, from_be_bytes}
use Rattle.std.proofs.lemmas.List.{drop_at, drop_more, drop-drop, length-take-le}
use Rattle.ss_gatelog.specs.Log.{open_gate, longest_body, length_bytes, spelled, HasRecords, HasList, Fits, IsDamaged}
use Rattle.ss_gatelog.specs.Gate.{LeadTo}
use Rattle.ss_gatelog.proofs.Bytes.{length_bytes-injective, from_length_bytes}
use Rattle.ss_gatelog.proofs.Steps.{spelled-push, length-spelled-push, bodies_push}

-- before the first record
pub starts : (limit : ℕ) (file : List ℕ) → 0 < limit → LeadTo limit file [] 0
starts limit file some = record { rest = file; is = refl; place = refl; bodies = tt; within = some }

module _ (limit : ℕ) (file : List ℕ) (records : List (List ℕ)) (at : ℕ) (leads : LeadTo limit file records at) (inside : at < length file) where
  abbrev gate : ℕ
  gate = slice_index file at

  abbrev behind : List ℕ
  behind = drop (at + 1) file

  -- the gate that was reached, and what stands behind it
  reached : file ≡ spelled records ++ gate ∷ behind
  reached =
      let rest : drop at file ≡ leads.rest = ap (λ (l : List ℕ). drop at l) leads.is ∙ drop_at (spelled records) leads.rest at (sym leads.place) in
      leads.is ∙ ap (λ (l : List ℕ). spelled records ++ l) (sym rest ∙ drop_more file at 0 inside)

  size : length behind ≡ length file - (at + 1)
  size = length-drop (at + 1) file

  pub leads_closed : gate ≢ open_gate → HasRecords limit file records
  leads_closed closed = record {
    spells = record { gate = gate; rest = behind; is = reached; closed = closed };
    bodies = leads.bodies;
    within = omega (arith, leads.place, leads.within);
  }

  damaged : gate ≡ open_gate → 1 < length file → ((n : ℕ) → Fits limit at behind n → ⊥) → IsDamaged limit file at
  damaged is_open long unfit = record {
    front = records;
    rest = behind;
    is = reached ∙ ap (λ (b : ℕ). spelled records ++ b ∷ behind) is_open;
    place = leads.place;
    bodies = leads.bodies;
    within = leads.within;
    not_short = long;
    unfit = unfit;
  }

  -- the file ends before a length does
  pub leads_cut : gate ≡ open_gate → 1 < length file → length file < at + 5 → IsDamaged limit file at
  leads_cut is_open long short = damaged is_open long (λ n fits. absurd (omega (arith, size, fits.in_file, short)))

  module _ (n : ℕ) (fits_four : n < 2 ^ 32) (spells : length_bytes n ≡ slice_range file (at + 1) (at + 5)) where
    four : take 4 behind ≡ length_bytes n
    four = let count : at + 5 - (at + 1) ≡ 4 = omega arith in sym (spells ∙ ap (λ (k : ℕ). take k behind) count)

    -- no other length stands there, and this one does not fit
    pub leads_unfit : gate ≡ open_gate → 1 < length file → (longest_body < n) ⊎ (length file ≤ at + 5 + n) ⊎ (limit ≤ at + 5 + n) → IsDamaged limit file at
    leads_unfit is_open long why = damaged is_open long (λ m fits.
        let same : m ≡ n = length_bytes-injective m n (omega (arith, fits.in_bounds)) fits_four (sym fits.spelled_so ∙ four) in
        why_not m fits same why)
      where
        why_not : (m : ℕ) → Fits limit at behind m → m ≡ n → (longest_body < n) ⊎ (length file ≤ at + 5 + n) ⊎ (limit ≤ at + 5 + n) → ⊥
        why_not m fits same why = grind (arith, size, fits.in_bounds, fits.in_file, fits.in_limit, same, why)

    -- the record is passed
    pub leads_next : gate ≡ open_gate → n ≤ longest_body → at + 5 + n < length file → at + 5 + n < limit → LeadTo limit file (records ++ slice_range file (at + 5) (at + 5 + n) ∷ []) (at + 5 + n)
    leads_next is_open short in_file in_limit =
        let body = slice_range file (at + 5) (at + 5 + n) in
        let rest = drop n (drop 4 behind) in
        let count : at + 5 + n - (at + 5) ≡ n = omega arith in
        let after : drop 4 behind ≡ drop (at + 5) file = drop-drop 4 (at + 1) file ∙ ap (λ (k : ℕ). drop k file) (let place : at + 1 + 4 ≡ at + 5 = omega arith in place) in
        let body_is : take n (drop 4 behind) ≡ body = ap (λ (l : List ℕ). take n l) after ∙ ap (λ (k : ℕ). take k (drop (at + 5) file)) (sym count) in
        let body_size : length body ≡ n = ap (length {A = ℕ}) (sym body_is) ∙ length-take-le n (drop 4 behind) (omega (arith, size, length-drop 4 behind)) in
        let split : behind ≡ length_bytes (length body) ++ (body ++ rest) =
        sym (take-append-drop 4 behind)
        ∙ ap (λ (l : List ℕ). l ++ drop 4 behind) (four ∙ ap length_bytes (sym body_size))
        ∙ ap (λ (l : List ℕ). length_bytes (length body) ++ l) (sym (take-append-drop n (drop 4 behind)))
        ∙ ap (λ (l : List ℕ). length_bytes (length body) ++ (l ++ rest)) body_is in
        record {
          rest = rest;
          is =
              reached
              ∙ ap (λ (b : ℕ). spelled records ++ b ∷ behind) is_open
              ∙ ap (λ (l : List ℕ). spelled records ++ open_gate ∷ l) split
              ∙ sym (spelled-push records body rest);
          place = omega (arith, leads.place, length-spelled-push records body, body_size);
          bodies = bodies_push records body leads.bodies (omega (arith, body_size, short));
          within = in_limit;
        }

same_or_not : (xs ys : List ℕ) → (xs ≡ ys) ⊎ (xs ≢ ys)
same_or_not [] [] = inl refl
same_or_not [] (y ∷ ys) = inr (λ equal. cc)
same_or_not (x ∷ xs) [] = inr (λ equal. cc)
same_or_not (x ∷ xs) (y ∷ ys) = elim (cases_eq x y) [
  | inl head ↦ ⊎_elim (λ tail. inl (cc)) (λ differ. inr (λ equal. differ (tail_of equal))) (same_or_not xs ys)
  | inr differ ↦ inr (λ equal. differ (head_of equal))
]
  where
    tail_of : x ∷ xs ≡ y ∷ ys → xs ≡ ys
    tail_of equal = cc

    head_of : x ∷ xs ≡ y ∷ ys → x ≡ y
    head_of equal = cc

-- what a file stands for
abbrev Reading : ℕ → List ℕ → Type 0
Reading limit file = ((records : List (List ℕ)) × HasList limit file records) ⊎ ((at : ℕ) × IsDamaged limit file at)

module _ (limit : ℕ) (file : List ℕ) (records : List (List ℕ)) (at : ℕ) (leads : LeadTo limit file records at) (inside : at < length file) (long : 1 < length file) where
  abbrev head : List ℕ
  head = slice_range file (at + 1) (at + 5)

  abbrev told_length : ℕ
  told_length = from_be_bytes w32 head

  taken : take 4 (drop (at + 1) file) ≡ head
  taken = let count : 4 ≡ at + 5 - (at + 1) = omega arith in ap (λ (k : ℕ). take k (drop (at + 1) file)) count

  -- no other number has these bytes
  alone : (m : ℕ) → Fits limit at (drop (at + 1) file) m → m ≡ told_length
  alone m fits = from_length_bytes m head (omega (arith, fits.in_bounds)) (sym fits.spelled_so ∙ taken)

  -- a walk that reached a place either ends there or passes a record
  step : ((n : ℕ) (more : List (List ℕ)) → LeadTo limit file more (at + 5 + n) → at + 5 + n < length file → Reading limit file) → Reading limit file
  step on = elim (cases_eq (slice_index file at) open_gate) [
    | inl is_open ↦ elim (cases_lt (length file) (at + 5)) [
      | inl cut ↦ inr (at, leads_cut limit file records at leads inside is_open long cut)
      | inr whole ↦ opened is_open whole
    ]
    | inr closed ↦ inl (records, inr (leads_closed limit file records at leads inside closed))
  ]
    where
      none : slice_index file at ≡ open_gate → (Fits limit at (drop (at + 1) file) told_length → ⊥) → Reading limit file
      none is_open unfit = inr (at, damaged limit file records at leads inside is_open long (λ m fits. unfit (subst (Fits limit at (drop (at + 1) file)) (alone m fits) fits)))

      opened : slice_index file at ≡ open_gate → at + 5 ≤ length file → Reading limit file
      opened is_open whole = elim (same_or_not (length_bytes told_length) head) [
        | inr differ ↦ none is_open (λ fits. differ (sym fits.spelled_so ∙ taken))
        | inl spells ↦ elim (cases_lt longest_body told_length) [
          | inl long_body ↦ none is_open (λ fits. omega (arith, long_body, fits.in_bounds))
          | inr short ↦ elim (cases_lt (at + 5 + told_length) (length file)) [
            | inr past ↦ none is_open (λ fits. omega (arith, past, fits.in_file, length-drop (at + 1) file))
            | inl in_file ↦ elim (cases_lt (at + 5 + told_length) limit) [
              | inr past ↦ none is_open (λ fits. omega (arith, past, fits.in_limit))
              | inl in_limit ↦ on told_length _ (leads_next limit file records at leads inside told_length (omega (arith, short)) spells is_open short in_file in_limit) in_file
            ]
          ]
        ]
      ]

-- it comes to an end, since each record takes bytes
walks : (fuel limit : ℕ) (file : List ℕ) (records : List (List ℕ)) (at : ℕ) → LeadTo limit file records at → at < length file → 1 < length file → length file ≤ at + fuel → Reading limit file
walks zero limit file records at leads inside long enough = absurd (omega arith)
walks (suc fuel) limit file records at leads inside long enough = step limit file records at leads inside long (λ n more on in_file. walks fuel limit file more (at + 5 + n) on in_file long (omega (arith, enough)))

pub each_file : (limit : ℕ) (file : List ℕ) → 0 < limit → Reading limit file
each_file limit file some = elim (cases_lt 1 (length file)) [
  | inr short ↦ inl ([], inl (short, refl))
  | inl long ↦ walks (length file) limit file [] 0 (starts limit file some) (omega arith) long (omega arith)
]
