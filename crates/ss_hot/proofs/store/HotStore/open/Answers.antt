use Rattle.std.proofs.Common.{◌≡◌, inr, ℕ, List, sym, ◌∙◌, ap, subst}
use Rattle.std.proofs.lemmas.Result.{err_from_is_err_and}
use Rattle.std.specs.Prelude.{Ok, Err}
use Rattle.ss_device.specs.Disk.{Files}
use Rattle.ss_store.specs.declared.fault.StoreFault.TheVariants.{Damaged}
use Rattle.ss_hot.specs.Half.{HasSettings, IsFaulty}
use Rattle.ss_hot.proofs.Faults.{if_some, IsQuiet, quiet_none, quiet, quiet_on, reads_ok, reads_damage, reads_err, opening_fault}
use Rattle.ss_hot.proofs.store.HotStore.open.Goals as goal
use Rattle.ss_hot.proofs.store.HotStore.open.Goals.{In-Some}
use Rattle.ss_hot.proofs.store.HotStore.open.Given.{Over}

-- settings were found
still : (g : Over) (c : In-Some g) → IsQuiet g.D.Disk c.args.disk.now c.read_settings.new.disk
still g c = quiet_on g.D.Disk _ _ _ _ _ (quiet g.D.Disk _ _ _ _ c.in_ok-opening.ensures.reads) c.in_ok-config.ensures.reads

pub returns-in_err-opening-clause-reads : goal.returns-in_err-opening-clause-reads
returns-in_err-opening-clause-reads g c =
    let fault = err_from_is_err_and c.from_residual.result c.from_residual.ensures.1 in
    reads_err g.D.Disk _ _ _ _ _ c.new.result c.from_residual.result fault.0 (cc (fault.1, fault.2, c.in_err-opening.was)) (cc (fault.1)) (λ is. opening_fault fault.0 (inr is)) (quiet_none g.D.Disk c.args.disk.now) c.new.ensures.reads

pub returns-in_err-config-clause-reads : goal.returns-in_err-config-clause-reads
returns-in_err-config-clause-reads g c =
    let fault = err_from_is_err_and c.from_residual-in_err-config.result c.from_residual-in_err-config.ensures.1 in
    reads_err g.D.Disk _ _ _ _ _ c.read_settings.result c.from_residual-in_err-config.result fault.0 (cc (fault.1, fault.2, c.in_err-config.was)) (cc (fault.1)) (opening_fault fault.0) (quiet g.D.Disk _ _ _ _ c.in_ok-opening.ensures.reads) c.read_settings.ensures.reads

pub returns-in_default-clause-none : goal.returns-in_default-clause-none
returns-in_default-clause-none g c told is settings has =
    let file : g.D.Disk.files c.args.disk.now 0 ≡ g.D.Disk.files c.new.new.disk c.in_ok-opening.opening.file = sym (ap (λ (f : Files). f c.in_ok-opening.opening.file) (c.new.ensures.reads.goes.files told) ∙ ap (g.D.Disk.files c.args.disk.now) c.in_ok-opening.ensures.start.file) in
    c.in_ok-config.ensures.none told (ap Ok c.in_default.is) settings (subst (λ (f : List ℕ). HasSettings f settings) file has)

pub returns-in_default-clause-reads : goal.returns-in_default-clause-reads
returns-in_default-clause-reads g c = reads_ok g.D.Disk _ _ _ _ (quiet_on g.D.Disk _ _ _ _ _ (quiet g.D.Disk _ _ _ _ c.in_ok-opening.ensures.reads) c.in_ok-config.ensures.reads)

pub returns-then-not-begins-clause-reads : goal.returns-then-not-begins-clause-reads
returns-then-not-begins-clause-reads g c = reads_damage g.D.Disk _ _ _ 0 0 (λ file need room is. let differ : ⊥ = cc (is) in differ) (still g (goal.at.returns-then-not-begins-clause-reads g c).In-Some)

pub returns-in_err-finish-clause-damaged : goal.returns-in_err-finish-clause-damaged
returns-in_err-finish-clause-damaged g c file at is =
    let fault = err_from_is_err_and c.from_residual-in_err-finish.result c.from_residual-in_err-finish.ensures.1 in
    let was : c.finish.result ≡ Err (Damaged file at) = cc (fault.1, fault.2, is, c.in_err-finish.was) in
    let found = c.finish.ensures.damaged file at was in
    let number : c.read_settings.new.self.file ≡ 0 = (if_some _ _ c.in_ok-config.field-0 (c.in-Some.config, c.in-Some.begins) c.in-Some.is c.in_ok-config.ensures.begun c.if-not-begins.false).file ∙ c.in_ok-opening.ensures.start.file in (
      found.0 ∙ number,
      λ told.
          let old : g.D.Disk.files c.new.new.disk c.in_ok-opening.opening.file ≡ g.D.Disk.files c.args.disk.now 0 = ap (λ (f : Files). f c.in_ok-opening.opening.file) (c.new.ensures.reads.goes.files told) ∙ ap (g.D.Disk.files c.args.disk.now) c.in_ok-opening.ensures.start.file in
          let new : g.D.Disk.files c.read_settings.new.disk c.read_settings.new.self.file ≡ g.D.Disk.files c.args.disk.now 0 =
          ap (λ (f : Files). f c.read_settings.new.self.file) (c.read_settings.ensures.reads.goes.files told ∙ c.new.ensures.reads.goes.files told) ∙ ap (g.D.Disk.files c.args.disk.now) number in
          record {
            settings = c.in-Some.config;
            committed = subst (λ (f : List ℕ). HasSettings f c.in-Some.config) old (if_some _ _ c.in_ok-config.field-0 (c.in-Some.config, c.in-Some.begins) c.in-Some.is (c.in_ok-config.ensures.some told));
            damage = subst (λ (f : List ℕ). IsFaulty c.in-Some.config.limit f at) new (found.1 told);
          },
    )

pub returns-in_err-finish-clause-reads : goal.returns-in_err-finish-clause-reads
returns-in_err-finish-clause-reads g c =
    let fault = err_from_is_err_and c.from_residual-in_err-finish.result c.from_residual-in_err-finish.ensures.1 in
    reads_err g.D.Disk _ _ _ _ _ c.finish.result c.from_residual-in_err-finish.result fault.0 (cc (fault.1, fault.2, c.in_err-finish.was)) (cc (fault.1)) (λ may. may) (still g (goal.at.returns-in_err-finish-clause-reads g c).In-Some) c.finish.ensures.reads

pub returns-clause-reads : goal.returns-clause-reads
returns-clause-reads g c = reads_ok g.D.Disk _ _ _ _ (quiet_on g.D.Disk _ _ _ _ _ (still g (goal.at.returns-clause-reads g c).In-Some) c.in_ok-finish.ensures.reads)
