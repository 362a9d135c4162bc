-- What making a store does to the files.
use Rattle.std.proofs.Common.{◌≡◌, inl, inr, ⊎_elim, ℕ, ◌+◌, ◌<◌, ◌≤◌, true, false, List, [], refl, sym, ap, ◌∙◌, subst, true≢false, arith}
use Rattle.std.specs.Prelude.{IsTrue, Result, Ok, Err, is_err, IfOk, IfErr, OnOk, OnErr}
use Rattle.std.proofs.lemmas.Bool.{cases_lt}
use Rattle.ss_device.specs.declared.disk.Disk.{Ghosts}
use Rattle.ss_device.specs.Disk.{Files, Torn, Same, Changes, Rose}
use Rattle.ss_device.specs.Calls.{Goes, Touches}
use Rattle.ss_device.proofs.Goes.{goes_on}
use Rattle.ss_device.proofs.Moments as moments
use Rattle.ss_gatelog.specs.Log.{Spells, HasList}
use Rattle.ss_gatelog.specs.GateLog.{Log, IsSure, CountsFault}
use Rattle.ss_records.specs.declared.record.Config.{Config as Settings}
use Rattle.ss_core.specs.LogFiles.{hot_file}
use Rattle.ss_open.specs.Opening.{HasNoStore, KeepsFirst, EmptiesFirst, AreEmptyBeside, IsInitFault, Inits}
use Rattle.ss_open.specs.declared.fault.OpenFault.{OpenFault}

-- what holds where a call succeeds
pub when_ok : {T E : Type 0} (r : Result T E) (P : Type 0) → is_err r ≡ false → OnOk r P → P
when_ok (Ok x) P is h = h
when_ok (Err e) P is h = absurd (true≢false is)

-- what holds where it fails
pub when_err : {T E : Type 0} (r : Result T E) (P : Type 0) → is_err r ≡ true → OnErr r P → P
when_err (Ok x) P is h = absurd (true≢false (sym is))
when_err (Err e) P is h = h

-- a log that was created is empty in each image
pub created : {D E : Type 0} (disk : Ghosts D) (now : D) (r : Result Log E) (file limit : ℕ) → is_err r ≡ false
    → IfOk r (λ log. log ≡ record { file = file; limit = limit; end = 0; unsure = false }) → IfOk r (λ log. IsSure disk now log [])
    → (left : Files) → disk.image now (disk.moment now) left → Spells [] (left file)
created disk now (Ok log) file limit ok is sure left image = subst (λ (f : ℕ). Spells [] (left f)) (ap (λ (l : Log). l.file) is) (sure.each left image)
created disk now (Err e) file limit ok is sure left image = absurd (true≢false ok)

module _ {D : Type 0} (disk : Ghosts D) where
  -- a file that is not the hot log's changes, after others
  pub first_stays : (file : ℕ) (was old new : D) → 1 ≤ file → Goes disk KeepsFirst was old → Goes disk (Changes file (Torn 0 1)) old new → Goes disk KeepsFirst was new
  first_stays file was old new some before goes =
      goes_on disk was old new KeepsFirst (Changes file (Torn 0 1)) KeepsFirst before goes (λ a b kept. kept) (λ a b c kept changes. changes.elsewhere hot_file (λ is. omega (arith, some, is)) ∙ kept)

  -- no file has changed yet
  pub none_yet : (now : D) → Goes disk KeepsFirst now now
  none_yet now = record { files = λ told. refl; images = λ told. moments.stays (disk.moment now) (disk.image now) KeepsFirst (λ files. refl); known = λ file. omega arith; faults = omega arith; place = refl }

  module _ (told : IsTrue disk.told) (limit : ℕ) where
    -- one file more is an empty log, and those in front of it stay so
    pub emptied_more : (file : ℕ) (old new : D) → 1 ≤ limit → Goes disk (Changes file (Torn 0 1)) old new → ((left : Files) → disk.image new (disk.moment new) left → Spells [] (left file))
        → ((left : Files) → disk.image old (disk.moment old) left → (g : ℕ) → 1 ≤ g → g < file → HasList limit (left g) [])
        → (left : Files) → disk.image new (disk.moment new) left → (g : ℕ) → 1 ≤ g → g < file + 1 → HasList limit (left g) []
    emptied_more file old new some goes spells before left now g low high = elim (cases_lt g file) [
      | inl below ↦
          let from = moments.now_from (disk.moment old) (disk.moment new) (disk.image old) (disk.image new) (Changes file (Torn 0 1)) (goes.images told) left now in
          subst (λ (bytes : List ℕ). HasList limit bytes []) (sym (from.2.elsewhere g (λ same. omega (arith, below, same)))) (before from.0 from.1 g low below)
      | inr above ↦
          let same : g ≡ file = omega (arith, above, high) in
          subst (λ (h : ℕ). HasList limit (left h) []) (sym same) (inr (record { spells = spells left now; bodies = tt; within = some }))
    ]

    -- files that were emptied stay so where the hot log alone changes
    still_empty : (a b : Files) → AreEmptyBeside limit a → Changes hot_file (λ _ _. Unit {0}) a b → AreEmptyBeside limit b
    still_empty a b empty changes file low high = subst (λ (bytes : List ℕ). HasList limit bytes []) (sym (changes.elsewhere file (λ is. omega (arith, low, is)))) (empty file low high)

    pub empty_still : (old new : D) → Touches disk hot_file old new → ((left : Files) → disk.image old (disk.moment old) left → AreEmptyBeside limit left) → (left : Files) → disk.image new (disk.moment new) left → AreEmptyBeside limit left
    empty_still old new touches before left now =
        let from = moments.now_from (disk.moment old) (disk.moment new) (disk.image old) (disk.image new) (Changes hot_file (λ _ _. Unit {0})) (touches.images told) left now in
        still_empty from.0 left (before from.0 from.1) from.2

    -- the other files alone changed
    pub emptying : (old new : D) → Goes disk KeepsFirst old new → EmptiesFirst disk limit old new
    emptying old new goes = moments.widens (disk.moment old) (disk.moment new) (disk.image old) (disk.image new) KeepsFirst _ (goes.images told) (λ a b left kept. inl kept)

    -- once they are empty logs the hot log changes
    pub writing : (old mid new : D) → Goes disk KeepsFirst old mid → ((left : Files) → disk.image mid (disk.moment mid) left → AreEmptyBeside limit left) → Touches disk hot_file mid new → EmptiesFirst disk limit old new
    writing old mid new first empty second =
        moments.goes_on (disk.moment old) (disk.moment mid) (disk.moment new) (disk.image old) (disk.image mid) (disk.image new) KeepsFirst (Changes hot_file (λ _ _. Unit {0})) _ (first.images told) (second.images told) (λ a b left kept. inl kept)
        (λ a b c left kept left' changes. inr (still_empty b c (empty b left') changes))

    -- before all that files are read
    pub after_reading : (old mid new : D) → Goes disk Same old mid → EmptiesFirst disk limit mid new → EmptiesFirst disk limit old new
    after_reading old mid new same empties =
        moments.goes_on (disk.moment old) (disk.moment mid) (disk.moment new) (disk.image old) (disk.image mid) (disk.image new) Same _ _ (same.images told) empties (λ a b left is. inl (ap (λ (f : Files). f hot_file) is))
        (λ a b c left is left' either. ⊎_elim (λ kept. inl (kept ∙ ap (λ (f : Files). f hot_file) is)) (λ empty. inr empty) either)

    pub only_read : (old new : D) → Goes disk Same old new → EmptiesFirst disk limit old new
    only_read old new same = moments.widens (disk.moment old) (disk.moment new) (disk.image old) (disk.image new) Same _ (same.images told) (λ a b left is. inl (ap (λ (f : Files). f hot_file) is))

-- ---- what making comes to

-- no fault was counted
pub count_none : {T : Type 0} (before now : ℕ) (r : Result T OpenFault) → now ≡ before → (r ≡ Err OpenFault.DiskFault → ⊥) → CountsFault OpenFault.DiskFault before now r
count_none before now r same other = record { later = omega (arith, same); rose = λ is. absurd (other is); kept = inr same }

-- the last call's
pub count_rise : {T : Type 0} (before mid now : ℕ) → mid ≡ before → mid ≤ now → Rose mid now → CountsFault {T = T} OpenFault.DiskFault before now (Err OpenFault.DiskFault)
count_rise before mid now same later rose = record { later = omega (arith, same, later); rose = λ _. subst (λ (n : ℕ). Rose n now) same rose; kept = inl refl }

module _ {D T : Type 0} (disk : Ghosts D) (was now : D) (settings : Settings) (r : Result T OpenFault) where
  -- no file changed
  pub inits_none : IfErr r IsInitFault → Goes disk Same was now → CountsFault OpenFault.DiskFault (disk.faults was) (disk.faults now) r → Inits disk was now settings r
  inits_none errors goes counts = record { errors = errors; counts = counts; kept = λ told. inr goes; memory = λ _. goes; stops = λ told. only_read disk told settings.limit was now goes }

  -- there was no store, and files were emptied
  pub inits_emptied : IfErr r IsInitFault → (IsTrue disk.told → HasNoStore (disk.files was)) → (r ≡ Err OpenFault.NoMemory → ⊥) → CountsFault OpenFault.DiskFault (disk.faults was) (disk.faults now) r → (IsTrue disk.told → EmptiesFirst disk settings.limit was now) → Inits disk was now settings r
  inits_emptied errors none other counts stops = record { errors = errors; counts = counts; kept = λ told. inl (none told); memory = λ is. absurd (other is); stops = stops }

  -- an answer other than the disk's fault: none was counted
  pub none_risen : Inits disk was now settings r → (r ≡ Err OpenFault.DiskFault → ⊥) → disk.faults now ≡ disk.faults was
  none_risen inits other = ⊎_elim (λ same. absurd (other same)) (λ kept. kept) inits.counts.kept
