use Rattle.std.proofs.Common.{◌≡◌, ◌⊎◌, inl, inr, ℕ, Bool, true, false, IsTrue, List, [], ◌∷◌, refl, sym, ◌∙◌, ap, subst, arith}
use Rattle.std.proofs.lemmas.Result.{err_from_is_err_and}
use Rattle.std.specs.Prelude.{Ok, Some, None, IfSome, MatchBool}
use Rattle.ss_device.specs.Disk.{Files}
use Rattle.ss_gatelog.specs.Gate.{HasLent}
use Rattle.ss_records.specs.declared.record.Config.{Config as Settings}
use Rattle.ss_records.specs.declared.record.Record.TheVariants.{Config}
use Rattle.ss_records.specs.Record.{SettingsFit}
use Rattle.ss_records.specs.Fields.{read_record}
use Rattle.ss_store.specs.Append.{bodies}
use Rattle.ss_hot.specs.Half.{HasSettings}
use Rattle.ss_hot.specs.Opening.{AreBefore, IsRead, IsMisfit, Passes}
use Rattle.ss_hot.proofs.Early.{first_size, second_size, second_reads, second_none, two_commit, two_read, first_misfit}
use Rattle.ss_hot.proofs.Faults.{if_some, IsQuiet, quiet_none, quiet, quiet_on, reads_ok, reads_err}
use Rattle.ss_hot.proofs.Opened.{read_on}
use Rattle.ss_hot.proofs.Passed.{before_read}
use Rattle.ss_hot.proofs.store.opening.Opening.read_settings.Goals as goal
use Rattle.ss_hot.proofs.store.opening.Opening.read_settings.Goals.{In-Some-2}
use Rattle.ss_hot.proofs.store.opening.Opening.read_settings.Given.{Over}

-- ---- two records were read

module _ (g : Over) (c : In-Some-2 g) where
  begins_some : (P : Bool → Type 0) → IfSome c.in_ok-begins.field-0 P → P c.in-Some.begins
  begins_some P said = if_some Bool P c.in_ok-begins.field-0 c.in-Some.begins c.in-Some.is said

  fits_some : (P : Bool → Type 0) → IfSome c.in_ok-fits.field-0 P → P c.in-Some-2.fits
  fits_some P said = if_some Bool P c.in_ok-fits.field-0 c.in-Some-2.fits c.in-Some-2.is said

  passes : Passes g.D.Disk c.read_early.new.disk c.args.self.now c.read_early.new.self
  passes = begins_some _ c.in_ok-begins.ensures.passes

  passes2 : Passes g.D.Disk c.read_early-2.new.disk c.read_early.new.self c.read_early-2.new.self
  passes2 = fits_some _ c.in_ok-fits.ensures.passes

  one : c.read_early.new.self.walk.count ≡ 1
  one = omega (arith, passes.count, c.requires.start.count)

  of_file : c.read_early-2.new.self.records.file ≡ c.args.self.now.file
  of_file = passes2.same.records.file ∙ passes.same.records.file ∙ c.requires.start.under_way.file

  still : IsQuiet g.D.Disk c.args.disk.now c.read_early-2.new.disk
  still = quiet_on g.D.Disk _ _ _ _ _ (quiet g.D.Disk _ _ _ _ c.in_ok-begins.ensures.reads) c.in_ok-fits.ensures.reads

  lends : IsTrue g.D.Disk.told → HasLent g.D.Disk c.read_early.new.disk c.read_early.new.self.records (c.read_early.new.self.records.body ∷ [])
  lends told = begins_some _ (c.in_ok-begins.ensures.lent [] told (c.requires.start.read told).lent)

  lends2 : IsTrue g.D.Disk.told → HasLent g.D.Disk c.read_early-2.new.disk c.read_early-2.new.self.records (c.read_early.new.self.records.body ∷ c.read_early-2.new.self.records.body ∷ [])
  lends2 told = fits_some _ (c.in_ok-fits.ensures.lent (c.read_early.new.self.records.body ∷ []) told (lends told))

  -- what each was found to be
  abbrev First : Bool → Type 0
  First b = MatchBool b (IsRead c.args.self.now.file c.args.self.now.records.at c.args.self.now.walk c.read_early.new.self.records.body c.read_early.new.self.walk) (IsMisfit c.args.self.now.walk.count c.read_early.new.self.records.body)

  abbrev Second : Bool → Type 0
  Second b =
      MatchBool b (IsRead c.read_early.new.self.file c.read_early.new.self.records.at c.read_early.new.self.walk c.read_early-2.new.self.records.body c.read_early-2.new.self.walk) (IsMisfit c.read_early.new.self.walk.count c.read_early-2.new.self.records.body)

  first : First c.in-Some.begins
  first = begins_some First c.in_ok-begins.ensures.read

  second : Second c.in-Some-2.fits
  second = fits_some Second c.in_ok-fits.ensures.read

  tells : (config : Settings) → c.in-Some-2.fits ≡ true → c.read_early-2.new.self.walk.config ≡ Some config → (read_record c.read_early-2.new.self.records.body ≡ Ok (Config config)) × SettingsFit config
  tells config fits found = second_reads c.read_early.new.self.file c.read_early.new.self.records.at c.read_early.new.self.walk c.read_early-2.new.self.walk c.read_early-2.new.self.records.body config one (subst Second fits second) found

  -- where the second tells no settings, none are committed
  tells_none : (c.in-Some-2.fits ≡ false) ⊎ (c.read_early-2.new.self.walk.config ≡ None) → IsTrue g.D.Disk.told → (settings : Settings) → HasSettings (g.D.Disk.files c.args.disk.now c.args.self.now.file) settings → ⊥
  tells_none why told settings has =
      second_none c.read_early.new.self.file c.read_early.new.self.records.at c.read_early.new.self.walk c.read_early-2.new.self.walk c.read_early-2.new.self.records.body c.in-Some-2.fits settings one second why
      (two_read g.D.Disk c.args.disk.now c.read_early-2.new.disk c.read_early-2.new.self.records c.args.self.now.file told still.goes of_file c.read_early.new.self.records.body c.read_early-2.new.self.records.body settings (lends2 told) has)

-- ---- the answers

pub returns-in_err-begins-clause-reads : goal.returns-in_err-begins-clause-reads
returns-in_err-begins-clause-reads g c =
    let fault = err_from_is_err_and c.from_residual.result c.from_residual.ensures.1 in
    reads_err g.D.Disk _ _ _ _ _ c.read_early.result c.from_residual.result fault.0 (cc (fault.1, fault.2, c.in_err-begins.was)) (cc (fault.1)) (λ may. may) (quiet_none g.D.Disk c.args.disk.now) c.read_early.ensures.reads

pub returns-in_err-fits-clause-reads : goal.returns-in_err-fits-clause-reads
returns-in_err-fits-clause-reads g c =
    let fault = err_from_is_err_and c.from_residual-in_err-fits.result c.from_residual-in_err-fits.ensures.1 in
    reads_err g.D.Disk _ _ _ _ _ c.read_early-2.result c.from_residual-in_err-fits.result fault.0 (cc (fault.1, fault.2, c.in_err-fits.was)) (cc (fault.1)) (λ may. may) (quiet g.D.Disk _ _ _ _ c.in_ok-begins.ensures.reads) c.read_early-2.ensures.reads

pub returns-in_default-clause-reads : goal.returns-in_default-clause-reads
returns-in_default-clause-reads g c = reads_ok g.D.Disk _ _ _ _ (quiet g.D.Disk _ _ _ _ c.in_ok-begins.ensures.reads)

pub returns-in_default-2-clause-none : goal.returns-in_default-2-clause-none
returns-in_default-2-clause-none g c told is settings has =
    let new = c.read_early.new.self in
    let passed = if_some _ _ c.in_ok-begins.field-0 c.in-Some.begins c.in-Some.is c.in_ok-begins.ensures.passes in
    let lent = if_some _ _ c.in_ok-begins.field-0 c.in-Some.begins c.in-Some.is (c.in_ok-begins.ensures.lent [] told (c.requires.start.read told).lent) in
    let file : g.D.Disk.files c.args.disk.now c.args.self.now.file ≡ g.D.Disk.files c.read_early.new.disk new.file =
    sym (ap (λ (f : Files). f new.file) (c.read_early.ensures.reads.goes.files told) ∙ ap (g.D.Disk.files c.args.disk.now) passed.same.file) in
    c.in_ok-fits.ensures.none (new.records.body ∷ []) told lent (omega arith) (ap Ok c.in_default-2.is) settings (subst (λ (f : List ℕ). HasSettings f settings) file has)

pub returns-in_default-2-clause-reads : goal.returns-in_default-2-clause-reads
returns-in_default-2-clause-reads g c = reads_ok g.D.Disk _ _ _ _ (quiet_on g.D.Disk _ _ _ _ _ (quiet g.D.Disk _ _ _ _ c.in_ok-begins.ensures.reads) c.in_ok-fits.ensures.reads)

pub returns-in-Some-config-clause-some : goal.returns-in-Some-config-clause-some
returns-in-Some-config-clause-some g c told =
    let both = (goal.at.returns-in-Some-config-clause-some g c).In-Some-2 in
    two_commit g.D.Disk c.args.disk.now c.read_early-2.new.disk c.read_early-2.new.self.records c.args.self.now.file told (still g both).goes (of_file g both) c.read_early.new.self.records.body c.read_early-2.new.self.records.body c.in-Some-config.config
    (lends2 g both told) (passes2 g both).inside (tells g both c.in-Some-config.config c.if-fits.true c.in-Some-config.is).0

pub returns-in-Some-config-clause-misfit : goal.returns-in-Some-config-clause-misfit
returns-in-Some-config-clause-misfit g c told not =
    let both = (goal.at.returns-in-Some-config-clause-misfit g c).In-Some-2 in
    let old = c.args.self.now in
    let new = c.read_early.new.self in
    let limit = (tells g both c.in-Some-config.config c.if-fits.true c.in-Some-config.is).1.limit.0 in
    first_misfit g.D.Disk c.args.disk.now c.read_early.new.disk new.records old.file told c.read_early.ensures.reads.goes ((passes g both).same.records.file ∙ c.requires.start.under_way.file) c.in-Some-config.config.limit new.records.body (lends g both told)
    (passes g both).inside (passes g both).short (omega (arith, limit)) (subst (λ (n : ℕ). IsMisfit n new.records.body) c.requires.start.count (subst (First g both) not (first g both)))

pub returns-in-Some-config-clause-begun : goal.returns-in-Some-config-clause-begun
returns-in-Some-config-clause-begun g c begins =
    let both = (goal.at.returns-in-Some-config-clause-begun g c).In-Some-2 in
    let old = c.args.self.now in
    let mid = c.read_early.new.self in
    let new = c.read_early-2.new.self in
    let passed = passes g both in
    let passed2 = passes2 g both in
    let read = subst (First g both) begins (first g both) in
    let read2 = subst (Second g both) c.if-fits.true (second g both) in
    let size = first_size old.file old.records.at old.walk mid.walk mid.records.body c.requires.start.count read in
    let size2 = second_size mid.file mid.records.at mid.walk new.walk new.records.body (one g both) read2 in
    let at : new.records.at ≡ 54 = omega (arith, passed.at, passed2.at, size, size2, c.requires.start.at) in
    let before = before_read old.file old.records.at mid.records.at old.walk mid.walk mid.records.body read passed.at (subst (AreBefore old.file old.walk.index) (sym c.requires.start.at) c.requires.start.before) in
    let before1 = subst (λ (f : ℕ). AreBefore f mid.walk.index mid.records.at) (sym passed.same.file) before in
    let before2 = before_read mid.file mid.records.at new.records.at mid.walk new.walk new.records.body read2 passed2.at before1 in
    record {
      file = passed2.same.file ∙ passed.same.file;
      at = at;
      inside = omega (arith, at, passed2.inside);
      under_way = passed2.under_way;
      before = subst (AreBefore new.file new.walk.index) at (subst (λ (f : ℕ). AreBefore f new.walk.index new.records.at) (sym passed2.same.file) before2);
      read = λ told.
          let one = read_on g.D.Disk c.args.disk.now c.read_early.new.disk old mid [] old.records.at mid.records.body (c.requires.start.read told) passed.same.file refl refl (lends g both told) read passed.count in
          let lent = fits_some g both _ (c.in_ok-fits.ensures.lent (bodies (read.is ∷ [])) told one.lent) in
          (_, read_on g.D.Disk c.read_early.new.disk c.read_early-2.new.disk mid new (read.is ∷ []) mid.records.at new.records.body one passed2.same.file refl refl lent read2 passed2.count);
    }

pub returns-in-Some-config-clause-reads : goal.returns-in-Some-config-clause-reads
returns-in-Some-config-clause-reads g c = reads_ok g.D.Disk _ _ _ _ (still g (goal.at.returns-in-Some-config-clause-reads g c).In-Some-2)

pub returns-in_default-config-clause-none : goal.returns-in_default-config-clause-none
returns-in_default-config-clause-none g c told is = tells_none g (goal.at.returns-in_default-config-clause-none g c).In-Some-2 (inl c.if-fits.false) told

pub returns-in_default-config-clause-reads : goal.returns-in_default-config-clause-reads
returns-in_default-config-clause-reads g c = reads_ok g.D.Disk _ _ _ _ (still g (goal.at.returns-in_default-config-clause-reads g c).In-Some-2)

pub returns-in_default-config-2-clause-none : goal.returns-in_default-config-2-clause-none
returns-in_default-config-2-clause-none g c told is = tells_none g (goal.at.returns-in_default-config-2-clause-none g c).In-Some-2 (inr c.in_default-config.is) told

pub returns-in_default-config-2-clause-reads : goal.returns-in_default-config-2-clause-reads
returns-in_default-config-2-clause-reads g c = reads_ok g.D.Disk _ _ _ _ (still g (goal.at.returns-in_default-config-2-clause-reads g c).In-Some-2)
