use Rattle.std.proofs.Common.{◌≡◌, true, Some, Err, refl, sym, ap, subst, ◌∙◌, arith}
use Rattle.std.specs.Prelude.{is_some}
use Rattle.std.specs.FinMap as finite_map
use Rattle.ss_device.specs.Disk.{Same}
use Rattle.ss_device.specs.Calls.{Goes}
use Rattle.ss_device.proofs.Goes.{same_files, leaves_same}
use Rattle.ss_gatelog.specs.GateLog.{Log}
use Rattle.ss_hot.specs.Store.{Hot}
use Rattle.ss_core.specs.StandsFor.{no_doubt, HasEitherState}
use Rattle.ss_core.specs.LogFiles.{log_files}
use Rattle.ss_core.proofs.Gets.{refilled, not_settled, is_found, is_not_read}
use Rattle.ss_core.proofs.LogFiles.{touches_then}
use Rattle.ss_core.proofs.Made.{get_found, get_failed, counted_kept, rose_on, same_disk}
use Rattle.ss_core.proofs.PutSteps.{held_is}
use Rattle.ss_core.proofs.Settling.{stands_read}
use Rattle.ss_core.proofs.split_core.SplitCore.read_block.Goals as goal

pub returns-in-Err-clause-told : goal.returns-in-Err-clause-told
returns-in-Err-clause-told g c = λ told s doubt view cid stands opened at.
    let settled = c.in-Err.ensures.told told s doubt stands in
    let there : is_some (finite_map.get s.kept cid) ≡ true = sym (held_is g.D.Disk c.args.self.now s doubt stands cid) ∙ ap is_some at.1 in
    not_settled g.D.Disk s doubt view cid (sym at.0) c.args.self.now c.settle.new.self c.settle.ensures.settled.hot.same settled.stops opened there settled.after

pub returns-in-Err-clause-made : goal.returns-in-Err-clause-made
returns-in-Err-clause-made g c = λ view cid at.
    get_failed g.D.Disk c.args.self.now c.settle.new.self (ap (λ (h : Hot). h.settings) c.settle.ensures.settled.hot.same) c.settle.ensures.settled.touches (omega (arith, ap (λ (h : Hot). h.log.end) c.settle.ensures.settled.hot.same)) view cid (sym at.0)
    (c.in-Err.ensures.settled.hot.log.counts.rose (ap Err (c.in-Err.ensures.settled.hot.log.errors c.in-Err.field-0 refl)))

pub returns-in-Ok-clause-told : goal.returns-in-Ok-clause-told
returns-in-Ok-clause-told g c = λ told s doubt view cid stands opened at.
    let settled = c.in_default.ensures.told told s doubt stands in
    let placed : finite_map.get c.settle.new.self.hot.places cid ≡ Some c.args.place = ap (λ (h : Hot). finite_map.get h.places cid) c.settle.ensures.settled.hot.same ∙ at.1 in
    let filled : c.from.result ≡ c.read.new.block = refilled c.args.block.items c.read.new.block c.from.result c.args.block.len (c.read.ensures.len ∙ c.as_mut_slice.ensures.len) c.from.ensures in
    is_found g.D.Disk s doubt view cid (sym at.0) c.args.self.now _ c.settle.ensures.settled.hot.same
    (leaves_same g.D.Disk log_files (HasEitherState s doubt) c.args.self.now.disk c.settle.new.self.disk c.read.new.disk told settled.stops c.read.ensures.reads.goes) opened c.from.result
    (ap (λ kept. finite_map.get kept cid) settled.after.state.kept ∙ c.in-Ok.ensures.block cid settled.after.records settled.after.records told settled.after.keeps placed ∙ ap Some (sym filled))
    (stands_read g.D.Disk told c.settle.new.self _ s no_doubt c.read.ensures.reads.goes refl refl settled.after)

pub returns-in-Ok-clause-made : goal.returns-in-Ok-clause-made
returns-in-Ok-clause-made g c = λ view cid at.
    get_found g.D.Disk c.args.self.now _ (ap (λ (h : Hot). h.settings) c.settle.ensures.settled.hot.same)
    (touches_then g.D.Disk c.args.self.now.disk c.settle.new.self.disk c.read.new.disk c.settle.ensures.settled.touches (same_files g.D.Disk log_files c.settle.new.self.disk c.read.new.disk c.read.ensures.reads.goes)) (omega (arith, ap (λ (h : Hot). h.log.end) c.settle.ensures.settled.hot.same)) view cid (sym at.0) c.from.result
    (counted_kept _ _ _ c.in-Ok.ensures.reads.counts.kept ∙ counted_kept _ _ _ c.in_default.ensures.settled.hot.log.counts.kept) (ap (λ (l : Log). l.unsure) c.in_default.ensures.settled.hot.log.ok)

pub returns-in-Err-read-clause-told : goal.returns-in-Err-read-clause-told
returns-in-Err-read-clause-told g c = λ told s doubt view cid stands opened at.
    let settled = c.in_default.ensures.told told s doubt stands in
    let there : is_some (finite_map.get s.kept cid) ≡ true = sym (held_is g.D.Disk c.args.self.now s doubt stands cid) ∙ ap is_some at.1 in
    is_not_read g.D.Disk s doubt view cid (sym at.0) c.args.self.now _ c.settle.ensures.settled.hot.same
    (leaves_same g.D.Disk log_files (HasEitherState s doubt) c.args.self.now.disk c.settle.new.self.disk c.read.new.disk told settled.stops c.read.ensures.reads.goes) opened there
    (stands_read g.D.Disk told c.settle.new.self _ s no_doubt c.read.ensures.reads.goes refl refl settled.after)

pub returns-in-Err-read-clause-made : goal.returns-in-Err-read-clause-made
returns-in-Err-read-clause-made g c = λ view cid at.
    get_failed g.D.Disk c.args.self.now _ (ap (λ (h : Hot). h.settings) c.settle.ensures.settled.hot.same)
    (touches_then g.D.Disk c.args.self.now.disk c.settle.new.self.disk c.read.new.disk c.settle.ensures.settled.touches (same_files g.D.Disk log_files c.settle.new.self.disk c.read.new.disk c.read.ensures.reads.goes)) (omega (arith, ap (λ (h : Hot). h.log.end) c.settle.ensures.settled.hot.same)) view cid (sym at.0)
    (rose_on (g.D.Disk.faults c.args.self.now.disk) (g.D.Disk.faults c.settle.new.self.disk) _ (counted_kept _ _ _ c.in_default.ensures.settled.hot.log.counts.kept) (c.in-Err-read.ensures.reads.counts.rose (ap Err (c.in-Err-read.ensures.reads.errors c.in-Err-read.field-0 refl))))

pub returns-in-Err-clause-reads : goal.returns-in-Err-clause-reads
returns-in-Err-clause-reads g c = λ sure. same_disk g.D.Disk _ _ (c.settle.ensures.settled.hot.log.sure sure).2

pub returns-in-Ok-clause-reads : goal.returns-in-Ok-clause-reads
returns-in-Ok-clause-reads g c = λ sure. subst (λ d. Goes g.D.Disk Same d c.read.new.disk) (c.settle.ensures.settled.hot.log.sure sure).2 c.read.ensures.reads.goes

pub returns-in-Err-read-clause-reads : goal.returns-in-Err-read-clause-reads
returns-in-Err-read-clause-reads g c = λ sure. subst (λ d. Goes g.D.Disk Same d c.read.new.disk) (c.settle.ensures.settled.hot.log.sure sure).2 c.read.ensures.reads.goes
