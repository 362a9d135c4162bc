use Rattle.std.proofs.Common.{◌≡◌, ℕ, ◌+◌, ◌<◌, ◌≤◌, List, sym, ◌∙◌, ap, subst, arith}
use Rattle.std.proofs.lemmas.Result.{err_from_is_err_and}
use Rattle.std.specs.Prelude.{Err}
use Rattle.ss_gatelog.specs.Log.{HasList}
use Rattle.ss_gatelog.specs.Gate.{Reader}
use Rattle.ss_records.specs.declared.record.Config.{Config as Settings}
use Rattle.ss_records.specs.Record.{SettingsFit}
use Rattle.ss_store.specs.declared.fault.StoreFault.TheVariants.{Damaged}
use Rattle.ss_store.specs.Append.{bodies}
use Rattle.ss_hot.specs.Half.{IsFaulty}
use Rattle.ss_hot.proofs.Opened.{same_file, limited, is_half, keeps}
use Rattle.ss_hot.proofs.Faults.{quiet_none, reads_err}
use Rattle.ss_hot.proofs.store.opening.Opening.finish.Goals as goal

-- what was read lies within the limit of the settings
within : (at : ℕ) (settings : Settings) → at ≡ 54 → SettingsFit settings → at < settings.limit
within at settings is fit = omega (arith, is, fit.limit.0)

pub returns-in_err-read_all-clause-damaged : goal.returns-in_err-read_all-clause-damaged
returns-in_err-read_all-clause-damaged g c file at is =
    let fault = err_from_is_err_and c.from_residual.result c.from_residual.ensures.1 in
    let was : c.read_all.result ≡ Err (Damaged file at) = cc (fault.1, fault.2, is, c.in_err-read_all.was) in
    let found = c.read_all.ensures.damaged file at was in (
      found.0,
      λ told.
          let read = c.requires.begun.read told in
          subst (λ (n : ℕ). IsFaulty n (g.D.Disk.files c.args.disk.now c.args.self.file) at) (ap (λ (r : Reader). r.limit) c.set_limit.ensures)
          (found.1 read.0 told (limited g.D.Disk c.args.disk.now c.args.self read.0 c.set_limit.new.self c.args.config.limit read.1 (within _ c.args.config c.requires.begun.at c.requires.fits) c.set_limit.ensures)),
    )

pub returns-in_err-read_all-clause-reads : goal.returns-in_err-read_all-clause-reads
returns-in_err-read_all-clause-reads g c =
    let fault = err_from_is_err_and c.from_residual.result c.from_residual.ensures.1 in
    reads_err g.D.Disk _ _ _ _ _ c.read_all.result c.from_residual.result fault.0 (cc (fault.1, fault.2, c.in_err-read_all.was)) (cc (fault.1)) (λ may. may) (quiet_none g.D.Disk c.args.disk.now) c.read_all.ensures.reads

pub returns-in-Ok-clause-opened : goal.returns-in-Ok-clause-opened
returns-in-Ok-clause-opened g c =
    let self = c.read_all.new.self in
    let said = c.in_ok-read_all.ensures in
    let limit : self.records.limit ≡ c.args.config.limit = said.same.records.limit ∙ ap (λ (r : Reader). r.limit) c.set_limit.ensures in
    let log = c.in-Ok.ensures.log in
    let number : self.records.file ≡ c.args.self.file = said.under_way.file ∙ said.same.file in
    record {
      keeps = λ told.
          let read = c.requires.begun.read told in
          let file = g.D.Disk.files c.args.disk.now c.args.self.file in
          let all = said.read read.0 told (limited g.D.Disk c.args.disk.now c.args.self read.0 c.set_limit.new.self c.args.config.limit read.1 (within _ c.args.config c.requires.begun.at c.requires.fits) c.set_limit.ensures) in
          let has : HasList c.args.config.limit file (bodies all.0) =
          subst (λ (n : ℕ). HasList n file (bodies all.0)) limit
          (subst (λ (f : List ℕ). HasList self.records.limit f (bodies all.0)) (same_file g.D.Disk c.args.disk.now c.read_all.new.disk self.records c.args.self.file told said.reads.goes number) (all.1.lent.all said.ended)) in
          let committed = c.requires.committed told in (
            all.0,
            is_half g.D.Disk file c.args.config all.0 self.file self.walk committed has all.1.gathers,
            keeps g.D.Disk file c.args.config all.0 self.file self.walk committed has all.1.gathers c.finish.new.disk c.in-Ok.log (log.0 ∙ said.under_way.file) (log.1 ∙ limit) log.3 (c.in-Ok.ensures.sure (bodies all.0) told all.1.lent),
          );
      fits = c.requires.fits;
      settled = record { sure = log.3; log = (log.0 ∙ number, log.1 ∙ limit); known = subst (λ (f : ℕ). c.in-Ok.log.end + 1 ≤ g.D.Disk.known c.finish.new.disk f) (sym log.0) c.in-Ok.ensures.known };
    }
