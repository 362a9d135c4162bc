-- What opening a file finds there.
use Rattle.std.proofs.Common.{◌≡◌, inl, inr, ⊎_elim, ℕ, ◌+◌, ◌<◌, ◌≤◌, ◌^◌, true, false, IsTrue, List, [], ◌∷◌, ◌++◌, length, refl, sym, ◌∙◌, ap, subst, arith, length-append}
use Rattle.std.specs.Prelude.{Ok}
use Rattle.std.proofs.lemmas.Bool.{cases_lt}
use Rattle.std.proofs.lemmas.List.{take_at}
use Rattle.ss_device.specs.declared.disk.Disk.{Ghosts}
use Rattle.ss_device.specs.Disk.{Files, Same}
use Rattle.ss_device.specs.Calls.{Goes}
use Rattle.ss_gatelog.specs.Log.{open_gate, longest_body, length_bytes, spelled, AreBodies, HasRecords, HasList, IsDamaged}
use Rattle.ss_gatelog.specs.GateLog.{Log, IsSure}
use Rattle.ss_gatelog.specs.Gate.{LeadTo, Reader, HasLent, ReadsSame}
use Rattle.ss_gatelog.proofs.Bytes.{length-length_bytes, length_bytes-injective}
use Rattle.ss_gatelog.proofs.Lists.{compared, closed_ends, unfit_ends}
use Rattle.ss_gatelog.proofs.Logs.{stands_sure}
use Rattle.ss_gatelog.proofs.Readers.{limit_set}
use Rattle.ss_gatelog.proofs.Steps.{spelled-push, length-spelled-at, length-spelled-push}
use Rattle.ss_records.specs.declared.record.Config.{Config as Settings}
use Rattle.ss_records.specs.declared.record.Record.{Record}
use Rattle.ss_records.specs.declared.record.Record.TheVariants.{Config}
use Rattle.ss_records.specs.Fields.{read_record}
use Rattle.ss_store.specs.Append.{bodies}
use Rattle.ss_store.proofs.Appended.{bodies-push}
use Rattle.ss_hot.specs.declared.store.opening.Opening.{Opening}
use Rattle.ss_hot.specs.declared.store.walk.Walk.{Walk}
use Rattle.ss_hot.specs.Half.{AreInPlace, hot_places}
use Rattle.ss_hot.specs.Half.{HasSettings, IsHalf, IsFaulty}
use Rattle.ss_hot.specs.Store.{Keeps}
use Rattle.ss_hot.specs.Opening.{Gathers, IsRead, IsMisfit, HasRead, OpensSame}
use Rattle.ss_hot.proofs.Passed.{gathers_on}
use Rattle.ss_hot.proofs.Readings.{long_file}
use Rattle.ss_hot.proofs.Settings.{tells_settings}

-- rows of one length at the start of a file are one
pub row_same : (rs bs : List (List ℕ)) (file x y : List ℕ) → AreBodies rs → AreBodies bs → file ≡ spelled rs ++ x → file ≡ spelled bs ++ y → length (spelled rs) ≡ length (spelled bs) → (rs ≡ bs) × (x ≡ y)
row_same rs bs file x y rs_are bs_are is is' same = ⊎_elim
    (λ both. both)
    (λ other. absurd (⊎_elim
    (λ longer. let size = ap (λ (l : List (List ℕ)). length (spelled l)) longer.is ∙ length-spelled-at rs longer.bodies longer.body in omega (arith, size, same))
    (λ longer. let size = ap (λ (l : List (List ℕ)). length (spelled l)) longer.is ∙ length-spelled-at bs longer.bodies longer.body in omega (arith, size, same))
    other))
    (compared rs bs x y rs_are bs_are (sym is ∙ is'))

-- ---- the first invalid record

-- a record after good ones that is not to stand there
pub faulty_misfit : (limit at next : ℕ) (file : List ℕ) (front : List Record) (body : List ℕ) → LeadTo limit file (bodies front ++ body ∷ []) next → next < length file → length body ≤ longest_body → AreBodies (bodies front) → AreInPlace 0 front → at ≡ length (spelled (bodies front)) → IsMisfit (length front) body
    → IsFaulty limit file at
faulty_misfit limit at next file front body leads inside short are in_place place misfit =
    let n = length body in
    let rest = length_bytes n ++ (body ++ leads.rest) in
    let is : file ≡ spelled (bodies front) ++ open_gate ∷ rest = leads.is ∙ spelled-push (bodies front) body leads.rest in
    let size : next ≡ at + 5 + n = omega (arith, leads.place, length-spelled-push (bodies front) body, place) in
    record {
      front = front;
      rest = rest;
      is = is;
      place = place;
      bodies = are;
      in_place = in_place;
      within = omega (arith, leads.within, size);
      fault = inr (record {
        body = body;
        more = leads.rest;
        is = refl;
        fits = record {
          spelled_so = take_at (length_bytes n) (body ++ leads.rest) 4 (length-length_bytes n);
          in_bounds = short;
          in_file = omega (arith, inside, size, place, ap (length {A = ℕ}) is, length-append (spelled (bodies front)) (open_gate ∷ rest));
          in_limit = omega (arith, leads.within, size);
        };
        bad = misfit;
      });
    }

-- a gate after good records, after which none fits
pub faulty_unfit : (limit at : ℕ) (file : List ℕ) (front : List Record) → LeadTo limit file (bodies front) at → AreInPlace 0 front → IsDamaged limit file at → IsFaulty limit file at
faulty_unfit limit at file front leads in_place damaged =
    let same = row_same (bodies front) damaged.front file leads.rest (open_gate ∷ damaged.rest) leads.bodies damaged.bodies leads.is damaged.is (sym leads.place ∙ damaged.place) in
    record {
      front = front;
      rest = damaged.rest;
      is = leads.is ∙ ap (λ (l : List ℕ). spelled (bodies front) ++ l) same.1;
      place = leads.place;
      bodies = leads.bodies;
      in_place = in_place;
      within = damaged.within;
      fault = inl damaged.unfit;
    }

-- the first record, whatever the limit
pub faulty_first : (limit : ℕ) (file body rest : List ℕ) → file ≡ spelled (body ∷ []) ++ rest → 0 < length rest → length body ≤ longest_body → 0 < limit → IsMisfit 0 body → IsFaulty limit file 0
faulty_first limit file body rest is some short more misfit = elim (cases_lt (5 + length body) limit) [
  | inl within ↦ faulty_misfit limit 0 (5 + length body) file [] body
      (record { rest = rest; is = is; place = sym (length-spelled-push [] body); bodies = (short, tt); within = within })
      (omega (arith, ap (length {A = ℕ}) is, length-append (spelled (body ∷ [])) rest, length-spelled-push [] body, some))
      short tt tt refl misfit
  | inr past ↦
      let n = length body in
      let four = take_at (length_bytes n) (body ++ rest) 4 (length-length_bytes n) in
      record {
        front = [];
        rest = length_bytes n ++ (body ++ rest);
        is = is ∙ spelled-push [] body rest;
        place = refl;
        bodies = tt;
        in_place = tt;
        within = more;
        fault = inl (λ m fits. let same : m ≡ n = length_bytes-injective m n (omega (arith, fits.in_bounds)) (omega (arith, short)) (sym fits.spelled_so ∙ four) in omega (arith, same, fits.in_limit, past));
      }
]

-- ---- the first two records

-- of which the second tells settings
pub has_settings : (file first second rest : List ℕ) (settings : Settings) → file ≡ spelled (first ∷ second ∷ []) ++ rest → 0 < length rest → AreBodies (first ∷ second ∷ []) → read_record second ≡ Ok (Config settings) → HasSettings file settings
has_settings file first second [] settings is some are reads = absurd (omega arith)
has_settings file first second (gate ∷ rest) settings is some are reads = record {
  first = first;
  second = second;
  gate = gate;
  rest = rest;
  is = is;
  bodies = are;
  reads = reads;
}

module _ (file : List ℕ) (settings : Settings) (has : HasSettings file settings) where
  abbrev row : List (List ℕ)
  row = has.first ∷ has.second ∷ []

  -- they are what a reader lends first
  pub two_lent : (first second rest : List ℕ) → file ≡ spelled (first ∷ second ∷ []) ++ rest → AreBodies (first ∷ second ∷ []) → second ≡ has.second
  two_lent first second rest is are = ⊎_elim
      (λ both. let same : second ≡ has.second = cc (both.0) in same)
      (λ other. absurd (⊎_elim
      (λ longer. omega (arith, ap (length {A = List ℕ}) longer.is))
      (λ longer. omega (arith, ap (length {A = List ℕ}) longer.is))
      other))
      (compared (first ∷ second ∷ []) row rest (has.gate ∷ has.rest) are has.bodies (sym is ∙ has.is))

  -- a shorter list ends neither at a closed gate
  pub not_ended : (limit : ℕ) (lent : List (List ℕ)) → length lent < 2 → HasList limit file lent → ⊥
  not_ended limit lent few (inl short) = omega (arith, short.0, long_file file settings has)
  not_ended limit lent few (inr records) =
      let s = records.spells in
      ⊎_elim
      (λ both. omega (arith, ap (length {A = List ℕ}) both.0, few))
      (λ other. ⊎_elim
      (closed_ends lent row s.gate s.rest (has.gate ∷ has.rest) s.closed)
      (λ longer. omega (arith, ap (length {A = List ℕ}) longer.is, length-append row (longer.body ∷ longer.bodies), few))
      other)
      (compared lent row (s.gate ∷ s.rest) (has.gate ∷ has.rest) records.bodies has.bodies (sym s.is ∙ has.is))

  -- nor at a gate after which no record fits
  pub not_unfit : (limit at : ℕ) (lent : List (List ℕ)) (rest : List ℕ) → limit ≡ 2 ^ 40 → length lent < 2 → file ≡ spelled lent ++ rest → AreBodies lent → at ≡ length (spelled lent) → IsDamaged limit file at → ⊥
  not_unfit limit at lent rest large few is are place damaged =
      let same = (row_same damaged.front lent file (open_gate ∷ damaged.rest) rest damaged.bodies are damaged.is is (sym damaged.place ∙ place)).0 in
      let count : length damaged.front < 2 = omega (arith, ap (length {A = List ℕ}) same, few) in
      let size = length-spelled-at [] (has.second ∷ []) has.first in
      let size' = length-spelled-at [] [] has.second in
      ⊎_elim
      (λ both. omega (arith, ap (length {A = List ℕ}) both.0, count))
      (λ other. ⊎_elim
      (unfit_ends limit at damaged.front row damaged.rest (has.gate ∷ has.rest) damaged.place damaged.unfit has.bodies (omega (arith, size, size', has.bodies.0, has.bodies.1.0, large)) (omega arith))
      (λ longer. omega (arith, ap (length {A = List ℕ}) longer.is, length-append row (longer.body ∷ longer.bodies), count))
      other)
      (compared damaged.front row (open_gate ∷ damaged.rest) (has.gate ∷ has.rest) damaged.bodies has.bodies (sym damaged.is ∙ has.is))

-- ---- an opening

module _ {D : Type 0} (disk : Ghosts D) where
  -- the file of a reader, after calls that change nothing
  pub same_file : (was now : D) (reader : Reader) (file : ℕ) → IsTrue disk.told → Goes disk Same was now → reader.file ≡ file → disk.files now reader.file ≡ disk.files was file
  same_file was now reader file told goes is = ap (λ (f : Files). f reader.file) (goes.files told) ∙ ap (disk.files was) is

  -- where fewer than two records were lent up to a closed gate, no settings are committed
  pub none_ended : (was now : D) (reader : Reader) (file : ℕ) (lent : List (List ℕ)) (settings : Settings) → IsTrue disk.told → Goes disk Same was now → reader.file ≡ file → HasLent disk now reader lent → reader.ended ≡ true → length lent < 2
      → HasSettings (disk.files was file) settings → ⊥
  none_ended was now reader file lent settings told goes is has ended few committed =
      not_ended (disk.files was file) settings committed reader.limit lent few (subst (λ (f : List ℕ). HasList reader.limit f lent) (same_file was now reader file told goes is) (has.all ended))

  -- nor where they lead up to a gate after which none fits
  pub none_unfit : (was now : D) (old new : Reader) (file at : ℕ) (lent : List (List ℕ)) (settings : Settings) → IsTrue disk.told → Goes disk Same was now → old.file ≡ file → ReadsSame old new → old.limit ≡ 2 ^ 40 → new.at ≡ old.at → at ≡ old.at → HasLent disk now new lent → IsDamaged old.limit (disk.files now old.file) at
      → length lent < 2 → HasSettings (disk.files was file) settings → ⊥
  none_unfit was now old new file at lent settings told goes is same large here there has damaged few committed =
      not_unfit (disk.files was file) settings committed old.limit at lent has.leads.rest large few (sym (same_file was now new file told goes (same.file ∙ is)) ∙ has.leads.is) has.leads.bodies (there ∙ sym here ∙ has.leads.place)
      (subst (λ (f : List ℕ). IsDamaged old.limit f at) (same_file was now old file told goes is) damaged)

  -- a record that is not to stand after those that were read
  pub misfit_next : (was now : D) (old : Opening) (new : Reader) (records : List Record) (at : ℕ) (body : List ℕ) → IsTrue disk.told → Goes disk Same was now → HasRead disk was old records → old.records.file ≡ old.file → ReadsSame old.records new → body ≡ new.body → at ≡ old.records.at
      → HasLent disk now new (bodies records ++ new.body ∷ []) → new.at < new.size → length new.body ≤ longest_body → IsMisfit old.walk.count body → IsFaulty old.records.limit (disk.files was old.file) at
  misfit_next was now old new records at body told goes had is same of_body here has inside short misfit =
      let file = disk.files was old.file in
      let equal = same_file was now new old.file told goes (same.file ∙ is) in
      let leads = subst (λ (f : List ℕ). LeadTo new.limit f (bodies records ++ new.body ∷ []) new.at) equal has.leads in
      let count : old.walk.count ≡ length records = had.gathers.count in
      faulty_misfit old.records.limit at new.at file records new.body
      (subst (λ (n : ℕ). LeadTo n file (bodies records ++ new.body ∷ []) new.at) same.limit leads)
      (omega (arith, inside, has.size, ap (length {A = ℕ}) equal)) short had.lent.leads.bodies had.gathers.in_place (here ∙ had.lent.leads.place)
      (subst (λ (n : ℕ). IsMisfit n new.body) count (subst (IsMisfit old.walk.count) of_body misfit))

  -- a gate after them, after which none fits
  pub unfit_next : (was now : D) (old : Opening) (records : List Record) (at : ℕ) → IsTrue disk.told → Goes disk Same was now → HasRead disk was old records → old.records.file ≡ old.file → at ≡ old.records.at → IsDamaged old.records.limit (disk.files now old.records.file) at
      → IsFaulty old.records.limit (disk.files was old.file) at
  unfit_next was now old records at told goes had is here damaged =
      let leads = had.lent.leads in
      faulty_unfit old.records.limit at (disk.files was old.file) records
      (record { rest = leads.rest; is = ap (disk.files was) (sym is) ∙ leads.is; place = here ∙ leads.place; bodies = leads.bodies; within = omega (arith, here, leads.within) })
      had.gathers.in_place (subst (λ (f : List ℕ). IsDamaged old.records.limit f at) (same_file was now old.records old.file told goes is) damaged)

  -- which the file had when its opening began
  pub faulty_before : (was now : D) (old new : Opening) (at : ℕ) → IsTrue disk.told → Goes disk Same was now → OpensSame old new → IsFaulty new.records.limit (disk.files now new.file) at → IsFaulty old.records.limit (disk.files was old.file) at
  faulty_before was now old new at told goes same faulty =
      subst (λ (n : ℕ). IsFaulty n (disk.files was old.file) at) same.records.limit
      (subst (λ (f : List ℕ). IsFaulty new.records.limit f at) (ap (λ (f : Files). f new.file) (goes.files told) ∙ ap (disk.files was) same.file) faulty)

  -- one record more
  pub read_on : (was now : D) (old new : Opening) (records : List Record) (at : ℕ) (body : List ℕ) → HasRead disk was old records → new.file ≡ old.file → body ≡ new.records.body → at ≡ old.records.at → HasLent disk now new.records (bodies records ++ new.records.body ∷ [])
      → (read : IsRead old.file at old.walk body new.walk) → new.walk.count ≡ old.walk.count + 1 → HasRead disk now new (records ++ read.is ∷ [])
  read_on was now old new records at body had same of_body here lent read count = record {
    lent = subst (HasLent disk now new.records) (ap (λ (b : List ℕ). bodies records ++ b ∷ []) (sym of_body ∙ read.spells) ∙ sym (bodies-push records read.is)) lent;
    gathers = subst (λ (f : ℕ). Gathers f new.walk (records ++ read.is ∷ [])) (sym same) (gathers_on old.file at old.walk new.walk records body had.gathers (here ∙ had.lent.leads.place) read count);
  }

  -- another limit, past what was read
  pub limited : (now : D) (opening : Opening) (records : List Record) (reader : Reader) (limit : ℕ) → HasRead disk now opening records → opening.records.at < limit → reader ≡ record opening.records { limit = limit } → HasRead disk now (record opening { records = reader }) records
  limited now opening records reader limit had within is = record {
    lent = subst (λ (r : Reader). HasLent disk now r (bodies records)) (sym is) (limit_set disk now opening.records (bodies records) had.lent limit within);
    gathers = had.gathers;
  }

  -- the store of all records
  module _ (file : List ℕ) (settings : Settings) (records : List Record) (number : ℕ) (walk : Walk) (committed : HasSettings file settings) (has : HasList settings.limit file (bodies records)) (gathers : Gathers number walk records) where
    of_records : HasRecords settings.limit file (bodies records)
    of_records = ⊎_elim (λ short. absurd (omega (arith, short.0, long_file file settings committed))) (λ records. records) has

    pub is_half : IsHalf file settings records
    is_half = record { committed = committed; list = has; in_place = gathers.in_place }

    pub keeps : (now : D) (log : Log) → log.file ≡ number → log.limit ≡ settings.limit → log.unsure ≡ false → IsSure disk now log (bodies records)
        → Keeps disk now (record { settings = settings; log = log; places = walk.index; head = walk.head; base = walk.base }) records []
    keeps now log file_is limit_is sure stands = record {
      tells = record {
        in_place = gathers.in_place;
        settings = tells_settings file records settings committed of_records.spells of_records.bodies gathers.in_place;
        places = gathers.places ∙ ap (λ (f : ℕ). hot_places f records) (sym file_is);
        head = gathers.head;
        base = gathers.base;
      };
      placed = (limit_is, omega (arith, stands.end, of_records.within));
      stands = stands_sure disk now log (bodies records) [] sure stands;
    }

-- two openings of one file
pub same_on : (old mid new : Opening) → OpensSame old mid → OpensSame mid new → OpensSame old new
same_on old mid new first second = record {
  file = second.file ∙ first.file;
  records = record {
    file = second.records.file ∙ first.records.file;
    size = second.records.size ∙ first.records.size;
    limit = second.records.limit ∙ first.records.limit;
  };
}
