use Rattle.std.proofs.Common.{◌≡◌, inr, ℕ, Bool, List, refl, sym, ◌∙◌, ap, subst}
use Rattle.std.proofs.lemmas.Result.{err_from_is_err_and}
use Rattle.std.specs.Prelude.{Ok, Option, Some, None, MatchBool, IfSome, is_some}
use Rattle.ss_device.specs.Disk.{Files}
use Rattle.ss_records.specs.declared.record.Config.{Config as Settings}
use Rattle.ss_hot.specs.Half.{HasSettings}
use Rattle.ss_hot.proofs.Faults.{quiet_none, quiet, quiet_on, reads_ok, reads_err}
use Rattle.ss_hot.proofs.store.HotStore.is_committed.Goals as goal

-- whether settings were found
some_or_none : (file : List ℕ) (found : Option (Settings × Bool)) → IfSome found (λ (settings, _). HasSettings file settings) → (found ≡ None → (settings : Settings) → HasSettings file settings → ⊥)
    → MatchBool (is_some found) ((settings : Settings) × HasSettings file settings) ((settings : Settings) → HasSettings file settings → ⊥)
some_or_none file None some none = none refl
some_or_none file (Some found) some none = (found.0, some)

pub returns-in_err-opening-clause-reads : goal.returns-in_err-opening-clause-reads
returns-in_err-opening-clause-reads g c =
    let fault = err_from_is_err_and c.from_residual.result c.from_residual.ensures.1 in
    reads_err g.D.Disk _ _ _ _ _ c.new.result c.from_residual.result fault.0 (cc (fault.1, fault.2, c.in_err-opening.was)) (cc (fault.1)) inr (quiet_none g.D.Disk c.args.disk.now) c.new.ensures.reads

pub returns-in_err-found-clause-reads : goal.returns-in_err-found-clause-reads
returns-in_err-found-clause-reads g c =
    let fault = err_from_is_err_and c.from_residual-in_err-found.result c.from_residual-in_err-found.ensures.1 in
    reads_err g.D.Disk _ _ _ _ _ c.read_settings.result c.from_residual-in_err-found.result fault.0 (cc (fault.1, fault.2, c.in_err-found.was)) (cc (fault.1)) (λ may. may) (quiet g.D.Disk _ _ _ _ c.in_ok-opening.ensures.reads) c.read_settings.ensures.reads

pub returns-clause-committed : goal.returns-clause-committed
returns-clause-committed g c told =
    let said = c.in_ok-found.ensures in
    let file : g.D.Disk.files c.new.new.disk c.in_ok-opening.opening.file ≡ g.D.Disk.files c.args.disk.now 0 = ap (λ (f : Files). f c.in_ok-opening.opening.file) (c.new.ensures.reads.goes.files told) ∙ ap (g.D.Disk.files c.args.disk.now) c.in_ok-opening.ensures.start.file in
    subst (λ (f : List ℕ). MatchBool c.is_some.result ((settings : Settings) × HasSettings f settings) ((settings : Settings) → HasSettings f settings → ⊥)) file
    (subst (λ (b : Bool). MatchBool b ((settings : Settings) × HasSettings (g.D.Disk.files c.new.new.disk c.in_ok-opening.opening.file) settings) ((settings : Settings) → HasSettings (g.D.Disk.files c.new.new.disk c.in_ok-opening.opening.file) settings → ⊥)) (sym c.is_some.ensures)
    (some_or_none (g.D.Disk.files c.new.new.disk c.in_ok-opening.opening.file) c.in_ok-found.found (said.some told) (λ none. said.none told (ap Ok none))))

pub returns-clause-reads : goal.returns-clause-reads
returns-clause-reads g c = reads_ok g.D.Disk _ _ _ _ (quiet_on g.D.Disk _ _ _ _ _ (quiet g.D.Disk _ _ _ _ c.in_ok-opening.ensures.reads) c.in_ok-found.ensures.reads)
