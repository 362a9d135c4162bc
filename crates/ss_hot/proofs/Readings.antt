-- A file has one setting and one list of records, or is damaged at one offset.
use Rattle.std.proofs.Common.{◌≡◌, ⊎_elim, ℕ, suc, ◌+◌, ◌<◌, List, [], ◌∷◌, ◌++◌, length, refl, sym, ◌∙◌, ap, subst, arith, append_assoc, length-append}
use Rattle.std.specs.Prelude.{Result, Ok}
use Rattle.std.proofs.lemmas.List.{length-map}
use Rattle.ss_records.specs.declared.record.Config.{Config as Settings}
use Rattle.ss_records.specs.declared.record.Record.{Record}
use Rattle.ss_records.specs.declared.record.Record.TheVariants.{Config}
use Rattle.ss_records.specs.Record.{spelling}
use Rattle.ss_records.specs.Fields.{read_record}
use Rattle.ss_records.proofs.Records.{read_again}
use Rattle.ss_gatelog.specs.Log.{open_gate, spelled, AreBodies, HasRecords, HasList}
use Rattle.ss_gatelog.proofs.Steps.{spelled-push, bodies_push}
use Rattle.ss_gatelog.proofs.Lists.{GoesOn, compared, closed_ends, unfit_ends, one_list, list_or_damaged}
use Rattle.ss_store.specs.Append.{bodies}
use Rattle.ss_hot.specs.Half.{IsInPlace, AreInPlace}
use Rattle.ss_hot.specs.Half.{HasSettings, IsHalf, IsBad, IsFaulty, IsDamagedHalf}

-- a reading is of one record
pub one_result : (r s : Record) (read : Result Record ℕ) → read ≡ Ok r → read ≡ Ok s → r ≡ s
one_result r s read is is' = cc

-- a row of two bodies goes on after no other row of two
two_bodies : (p q s t : List ℕ) (x y : List ℕ) → GoesOn (p ∷ q ∷ []) (s ∷ t ∷ []) x y → ⊥
two_bodies p q s t x y on = omega (arith, ap (length {A = List ℕ}) on.is)

-- the settings of a file are the one setting that its second record tells
pub settings_once : (file : List ℕ) (a b : Settings) → HasSettings file a → HasSettings file b → a ≡ b
settings_once file a b has has' = ⊎_elim
    (λ both. told both.0)
    (λ other. absurd (⊎_elim
    (two_bodies has.first has.second has'.first has'.second _ _)
    (two_bodies has'.first has'.second has.first has.second _ _)
    other))
    (compared (has.first ∷ has.second ∷ []) (has'.first ∷ has'.second ∷ []) (has.gate ∷ has.rest) (has'.gate ∷ has'.rest) has.bodies has'.bodies (sym has.is ∙ has'.is))
  where
    second_of : (p q s t : List ℕ) → p ∷ q ∷ [] ≡ s ∷ t ∷ [] → q ≡ t
    second_of p q s t same = cc

    of_config : (c d : Settings) → Config c ≡ Config d → c ≡ d
    of_config c d same = cc

    told : has.first ∷ has.second ∷ [] ≡ has'.first ∷ has'.second ∷ [] → a ≡ b
    told same =
        let second : has.second ≡ has'.second = second_of has.first has.second has'.first has'.second same in
        of_config a b (one_result (Config a) (Config b) (read_record has.second) has.reads (ap read_record second ∙ has'.reads))

-- a file with settings holds more than a byte
pub long_file : (file : List ℕ) (settings : Settings) → HasSettings file settings → 1 < length file
long_file file settings has =
    omega (arith, ap (length {A = ℕ}) has.is, length-append (spelled (has.first ∷ has.second ∷ [])) (has.gate ∷ has.rest))

-- a record that stands in its place is what its body reads as
one_record : (n m : ℕ) (r s : Record) → IsInPlace n r → IsInPlace m s → spelling r ≡ spelling s → r ≡ s
one_record n m r s is is' same =
    one_result r s (read_record (spelling r)) (read_again r is.value is.fits) (ap read_record same ∙ read_again s is'.value is'.fits)

-- so the bodies of a row tell its records
bodies_once : (n m : ℕ) (rs ss : List Record) → AreInPlace n rs → AreInPlace m ss → bodies rs ≡ bodies ss → rs ≡ ss
bodies_once n m [] [] are are' same = refl
bodies_once n m [] (s ∷ ss) are are' same = absurd (let differ : ⊥ = cc in differ)
bodies_once n m (r ∷ rs) [] are are' same = absurd (let differ : ⊥ = cc in differ)
bodies_once n m (r ∷ rs) (s ∷ ss) are are' same =
    let body : spelling r ≡ spelling s = cc in
    let others : bodies rs ≡ bodies ss = cc in
    let first : r ≡ s = one_record n m r s are.0 are'.0 body in
    let rest : rs ≡ ss = bodies_once (suc n) (suc m) rs ss are.1 are'.1 others in
    ap (λ (x : Record). x ∷ rs) first ∙ ap (λ (xs : List Record). s ∷ xs) rest

pub records_once : (file : List ℕ) (a b : Settings) (r s : List Record) → IsHalf file a r → IsHalf file b s → r ≡ s
records_once file a b r s half half' =
    let same : a ≡ b = settings_once file a b half.committed half'.committed in
    let list : HasList a.limit file (bodies s) = subst (λ (c : Settings). HasList c.limit file (bodies s)) (sym same) half'.list in
    bodies_once 0 0 r s half.in_place half'.in_place (one_list a.limit file (bodies r) (bodies s) half.list list)

-- a record that may stand at an index, by its body
record StandsAt (n : ℕ) (body : List ℕ) : Type 0 where
  of : Record
  is : body ≡ spelling of
  in_place : IsInPlace n of

-- each body of a row is that of a record which may stand there
body_stands : (n k : ℕ) (records : List Record) (front more : List (List ℕ)) (body : List ℕ) → AreInPlace n records → bodies records ≡ front ++ body ∷ more → k ≡ n + length front → StandsAt k body
body_stands n k [] [] more body are same at = absurd (let differ : ⊥ = cc in differ)
body_stands n k [] (f ∷ front) more body are same at = absurd (let differ : ⊥ = cc in differ)
body_stands n k (r ∷ records) [] more body are same at =
    let is : body ≡ spelling r = cc in
    let here : n ≡ k = omega (arith, at) in
    record { of = r; is = is; in_place = subst (λ (i : ℕ). IsInPlace i r) here are.0 }
body_stands n k (r ∷ records) (f ∷ front) more body are same at =
    let others : bodies records ≡ front ++ body ∷ more = cc in
    body_stands (suc n) k records front more body are.1 others (omega (arith, at))

-- which a bad body is not
bad_stands : (limit n at : ℕ) (rest : List ℕ) (bad : IsBad limit n at rest) → StandsAt n bad.body → ⊥
bad_stands limit n at rest bad stands =
    bad.bad stands.of (ap read_record stands.is ∙ read_again stands.of stands.in_place.value stands.in_place.fits) stands.in_place.may_stand

-- no row of valid records stands at the start of a file with a bad record, unless it ends before that record
bad_ends : (limit at : ℕ) (file rest y : List ℕ) (front records : List Record) → file ≡ spelled (bodies front) ++ open_gate ∷ rest → AreBodies (bodies front) → (bad : IsBad limit (length front) at rest)
    → AreInPlace 0 records → AreBodies (bodies records) → file ≡ spelled (bodies records) ++ y → (GoesOn (bodies records) (bodies front ++ bad.body ∷ []) y bad.more → ⊥) → ⊥
bad_ends limit at file rest y front records is front_are bad in_place are whole ends = ⊎_elim
    (λ both. stands [] (sym both.0))
    (λ other. ⊎_elim
    (λ longer. stands (longer.body ∷ longer.bodies) (longer.is ∙ append_assoc (bodies front) (bad.body ∷ []) (longer.body ∷ longer.bodies)))
    ends
    other)
    (compared (bodies front ++ bad.body ∷ []) (bodies records) bad.more y (bodies_push (bodies front) bad.body front_are bad.fits.in_bounds) are (sym upto ∙ whole))
  where
    upto : file ≡ spelled (bodies front ++ bad.body ∷ []) ++ bad.more
    upto = is ∙ ap (λ (l : List ℕ). spelled (bodies front) ++ open_gate ∷ l) bad.is ∙ sym (spelled-push (bodies front) bad.body bad.more)

    stands : (more : List (List ℕ)) → bodies records ≡ bodies front ++ bad.body ∷ more → ⊥
    stands more same =
        bad_stands limit (length front) at rest bad (body_stands 0 (length front) records (bodies front) more bad.body in_place same (omega (arith, length-map front spelling)))

-- a file with an invalid record is no half
half_or_faulty : (file : List ℕ) (at : ℕ) (settings : Settings) (records : List Record) → IsFaulty settings.limit file at → IsHalf file settings records → ⊥
half_or_faulty file at settings records faulty half = ⊎_elim
    (λ unfit. list_or_damaged settings.limit file (bodies records) at half.list (record {
      front = bodies faulty.front;
      rest = faulty.rest;
      is = faulty.is;
      place = faulty.place;
      bodies = faulty.bodies;
      within = faulty.within;
      not_short = long;
      unfit = unfit;
    }))
    (λ bad. ⊎_elim (λ short. omega (arith, short.0, long)) (listed bad) half.list)
    faulty.fault
  where
    long : 1 < length file
    long = long_file file settings half.committed

    listed : IsBad settings.limit (length faulty.front) at faulty.rest → HasRecords settings.limit file (bodies records) → ⊥
    listed bad has =
        let s = has.spells in
        bad_ends settings.limit at file faulty.rest (s.gate ∷ s.rest) faulty.front records faulty.is faulty.bodies bad half.in_place has.bodies s.is
        (closed_ends (bodies records) (bodies faulty.front ++ bad.body ∷ []) s.gate s.rest bad.more s.closed)

-- a file that is damaged is no half
pub apart : (file : List ℕ) (at : ℕ) (settings : Settings) (records : List Record) → IsDamagedHalf file at → IsHalf file settings records → ⊥
apart file at settings records damaged half =
    let same = settings_once file damaged.settings settings damaged.committed half.committed in
    half_or_faulty file at settings records (subst (λ (c : Settings). IsFaulty c.limit file at) same damaged.damage) half

-- of two first invalid records none stands after the other
fault_ends : (limit at at' : ℕ) (file : List ℕ) (d : IsFaulty limit file at) (e : IsFaulty limit file at') → GoesOn (bodies d.front) (bodies e.front) (open_gate ∷ d.rest) (open_gate ∷ e.rest) → ⊥
fault_ends limit at at' file d e on = ⊎_elim
    (λ unfit. unfit_ends limit at (bodies d.front) (bodies e.front) d.rest (open_gate ∷ e.rest) d.place unfit e.bodies (omega (arith, e.place, e.within)) (omega arith) on)
    (λ bad. bad_ends limit at file d.rest (open_gate ∷ e.rest) d.front e.front d.is d.bodies bad e.in_place e.bodies e.is (longer bad.body bad.more))
    d.fault
  where
    longer : (body more : List ℕ) → GoesOn (bodies e.front) (bodies d.front ++ body ∷ []) (open_gate ∷ e.rest) more → ⊥
    longer body more back = omega (
      arith,
      ap (length {A = List ℕ}) on.is,
      length-append (bodies d.front) (on.body ∷ on.bodies),
      ap (length {A = List ℕ}) back.is,
      length-append (bodies d.front) (body ∷ []),
      length-append (bodies e.front) (back.body ∷ back.bodies),
    )

fault_once : (limit at at' : ℕ) (file : List ℕ) → IsFaulty limit file at → IsFaulty limit file at' → at ≡ at'
fault_once limit at at' file d e = ⊎_elim
    (λ both. d.place ∙ ap (λ (l : List (List ℕ)). length (spelled l)) both.0 ∙ sym e.place)
    (λ other. absurd (⊎_elim (fault_ends limit at at' file d e) (fault_ends limit at' at file e d) other))
    (compared (bodies d.front) (bodies e.front) (open_gate ∷ d.rest) (open_gate ∷ e.rest) d.bodies e.bodies (sym d.is ∙ e.is))

pub place_once : (file : List ℕ) (at at' : ℕ) → IsDamagedHalf file at → IsDamagedHalf file at' → at ≡ at'
place_once file at at' d e =
    let same = settings_once file e.settings d.settings e.committed d.committed in
    fault_once d.settings.limit at at' file d.damage (subst (λ (c : Settings). IsFaulty c.limit file at') same e.damage)
