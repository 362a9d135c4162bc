use Rattle.std.proofs.Common.{◌≡◌, ⊎_elim, ℕ, [], refl, sym, ◌∙◌, ap, subst}
use Rattle.std.specs.Prelude.{IsTrue, Err}
use Rattle.ss_device.specs.declared.disk.Disk.{Ghosts}
use Rattle.ss_records.specs.declared.record.Config.{Config as Settings}
use Rattle.ss_store.specs.declared.fault.StoreFault.{StoreFault}
use Rattle.ss_store.specs.declared.fault.StoreFault.TheVariants as store_fault
use Rattle.ss_hot.specs.Half.{IsHalf}
use Rattle.ss_hot.specs.Store.{first_records, IsStop, Reads}
use Rattle.ss_hot.proofs.Faults.{not_risen}
use Rattle.ss_hot.proofs.Reopened.{kept_half}
use Rattle.ss_open.specs.Opening.{HasNoStore, EmptiesFirst, Inits, open_fault}
use Rattle.ss_open.specs.declared.fault.OpenFault.{OpenFault}
use Rattle.ss_open.specs.declared.fault.OpenFault.TheVariants as opening
use Rattle.ss_open.proofs.Makings.{emptying, writing, after_reading, empty_still, count_none, count_rise, inits_none, inits_emptied}
use Rattle.ss_open.proofs.Openings.{made, counted_none}
use Rattle.ss_open.proofs.making.make.Goals as goal
use Rattle.ss_open.proofs.making.make.Goals.{In-Ok-false, After-write}
use Rattle.ss_open.proofs.making.make.Given.{Over}

-- it could not be told whether there is a store
not_told : {D S T : Type 0} (disk : Ghosts D) (was now : D) (settings : Settings) (f : StoreFault) (r : OpenFault) → r ≡ open_fault f → Reads {T = S} disk was now IsStop (Err f) → Inits {T = T} disk was now settings (Err r)
not_told {D = D} {S = S} {T = T} disk was now settings f r is reads = subst (λ (r : OpenFault). Inits {T = T} disk was now settings (Err r)) (sym is) (by f (reads.errors f refl) reads)
  where
    by : (f : StoreFault) → IsStop f → Reads {T = S} disk was now IsStop (Err f) → Inits {T = T} disk was now settings (Err (open_fault f))
    by store_fault.NoMemory may reads = inits_none disk was now settings (Err opening.NoMemory) tt reads.goes (count_none _ _ (Err opening.NoMemory) (counted_none _ _ store_fault.NoMemory (λ is. let differ : ⊥ = cc (is) in differ) reads.counts) (λ is. let differ : ⊥ = cc (is) in differ))
    by store_fault.DiskFault may reads = inits_none disk was now settings (Err opening.DiskFault) tt reads.goes (count_rise _ _ _ refl reads.counts.later (reads.counts.rose refl))
    by (store_fault.Damaged file at) may reads = absurd (⊎_elim (λ is. let differ : ⊥ = cc (is) in differ) (λ is. let differ : ⊥ = cc (is) in differ) may)
    by (store_fault.LogFull file need room) may reads = absurd (⊎_elim (λ is. let differ : ⊥ = cc (is) in differ) (λ is. let differ : ⊥ = cc (is) in differ) may)

pub returns-in-Ok-true-clause-inits : goal.returns-in-Ok-true-clause-inits
returns-in-Ok-true-clause-inits g c = inits_none g.D.Disk _ _ c.args.config _ tt c.is_committed.ensures.reads.goes (count_none _ _ _ (not_risen _ _ _ _ c.in-Ok-true.ensures.reads.counts) (λ is. let differ : ⊥ = cc (is) in differ))

pub returns-in-Err-clause-inits : goal.returns-in-Err-clause-inits
returns-in-Err-clause-inits g c = not_told g.D.Disk _ _ c.args.config c.in-Err.fault c.open_fault.result c.open_fault.ensures c.in-Err.ensures.reads

pub returns-in_default-clause-inits : goal.returns-in_default-clause-inits
returns-in_default-clause-inits g c = inits_none g.D.Disk _ _ c.args.config _ tt c.is_committed.ensures.reads.goes (count_none _ _ _ (not_risen _ _ _ _ c.in-Ok-false.ensures.reads.counts) (λ is. let differ : ⊥ = cc (is) in differ))

-- there is no store
none_there : (g : Over) (c : In-Ok-false g) → IsTrue g.D.Disk.told → HasNoStore (g.D.Disk.files c.args.disk.now)
none_there g c told = rw c.in-Ok-false.field-0-test at (c.in-Ok-false.ensures.committed told)

-- no failure of the disk was counted before it was emptied
still : (g : Over) (c : In-Ok-false g) → g.D.Disk.faults c.is_committed.new.disk ≡ g.D.Disk.faults c.args.disk.now
still g c = not_risen _ _ _ _ c.in-Ok-false.ensures.reads.counts

pub returns-in_default-empty_files-clause-inits : goal.returns-in_default-empty_files-clause-inits
returns-in_default-empty_files-clause-inits g c =
    let no = (goal.at.returns-in_default-empty_files-clause-inits g c).In-Ok-false in
    inits_emptied g.D.Disk _ _ c.args.config _ tt (none_there g no) (λ is. let differ : ⊥ = cc (is) in differ)
    (count_rise _ _ _ (still g no) c.empty_files.ensures.cause.later c.in_default-empty_files.ensures.cause.failed)
    (λ told. after_reading g.D.Disk told c.args.config.limit _ _ _ c.is_committed.ensures.reads.goes (emptying g.D.Disk told c.args.config.limit _ _ c.empty_files.ensures.goes))

-- the hot log was written behind the others
stops : (g : Over) (c : After-write g) → IsTrue g.D.Disk.told → EmptiesFirst g.D.Disk c.args.config.limit c.args.disk.now c.write.new.disk
stops g c told = after_reading g.D.Disk told c.args.config.limit _ _ _ c.is_committed.ensures.reads.goes (writing g.D.Disk told c.args.config.limit _ _ _ c.empty_files.ensures.goes (c.in-Ok-empty_files.ensures.emptied told) c.write.ensures.touches)

pub returns-in-Ok-write-clause-images : goal.returns-in-Ok-write-clause-images
returns-in-Ok-write-clause-images g c = λ told left image.
    let new = c.in-Ok-write.ensures.new in
    let half = kept_half g.D.Disk c.write.new.disk c.in-Ok-write.hot (first_records c.in-Ok.first) [] (new.keeps told) new.settled.sure left image in
    let half0 = subst (λ (n : ℕ). IsHalf (left n) c.in-Ok-write.hot.settings (first_records c.in-Ok.first)) new.settled.log.0 half in (
      made left c.args.config (rw c.in-Ok.ensures at (rw new.settings at half0)),
      λ file low high. empty_still g.D.Disk told c.args.config.limit c.empty_files.new.disk c.write.new.disk c.write.ensures.touches (c.in-Ok-empty_files.ensures.emptied told) left image file low high,
    )

pub returns-in-Ok-write-clause-not_there : goal.returns-in-Ok-write-clause-not_there
returns-in-Ok-write-clause-not_there g c = none_there g (goal.at.returns-in-Ok-write-clause-not_there g c).In-Ok-false

pub returns-in-Ok-write-clause-inits : goal.returns-in-Ok-write-clause-inits
returns-in-Ok-write-clause-inits g c =
    let before = goal.at.returns-in-Ok-write-clause-inits g c in
    inits_emptied g.D.Disk _ _ c.args.config _ tt (none_there g before.In-Ok-false) (λ is. let differ : ⊥ = cc (is) in differ)
    (count_none _ _ _ (not_risen _ _ _ _ c.in-Ok-write.ensures.counts ∙ c.in-Ok-empty_files.ensures.cause.kept ∙ still g before.In-Ok-false) (λ is. let differ : ⊥ = cc (is) in differ))
    (stops g before.After-write)

pub returns-in-Err-write-clause-inits : goal.returns-in-Err-write-clause-inits
returns-in-Err-write-clause-inits g c =
    let before = goal.at.returns-in-Err-write-clause-inits g c in
    let fault = c.in-Err-write.ensures.errors c.in-Err-write.fault refl in
    let answer : c.open_fault-in-Err-write.result ≡ opening.DiskFault = c.open_fault-in-Err-write.ensures ∙ ap open_fault fault in
    let rose = c.in-Err-write.ensures.counts.rose (ap Err fault) in
    rw answer (inits_emptied g.D.Disk _ _ c.args.config _ tt (none_there g before.In-Ok-false) (λ is. let differ : ⊥ = cc (is) in differ)
    (count_rise _ _ _ (c.in-Ok-empty_files.ensures.cause.kept ∙ still g before.In-Ok-false) c.in-Err-write.ensures.counts.later rose)
    (stops g before.After-write))
