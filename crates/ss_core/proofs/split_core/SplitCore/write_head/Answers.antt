use Rattle.std.proofs.Common.{◌≡◌, ◌+◌, ℕ, false, refl, ap, inr, Err, arith}
use Rattle.ss_gatelog.specs.GateLog.{Log}
use Rattle.ss_hot.specs.Store.{Hot}
use Rattle.ss_model.specs.declared.call.HeadReply.TheVariants as head
use Rattle.ss_model.proofs.Need.{head_takes}
use Rattle.ss_core.proofs.HeadSteps.{unchanged, judged_steps, makes, set_makes, failed_makes, full_steps, set_steps, doubted_steps}
use Rattle.ss_core.proofs.LogFiles.{touches_hot}
use Rattle.ss_core.proofs.Made.{never, counted_kept}
use Rattle.ss_core.proofs.Settling.{sure_leaves, sure_failed}
use Rattle.ss_core.proofs.Stops.{is_stop, head_steps, head_makes, unless_disk}
use Rattle.ss_core.proofs.split_core.SplitCore.write_head.Goals as goal

-- where a log ends that a record was appended to
ends : (old new : Log) (n : ℕ) → new ≡ record old { end = old.end + (5 + n); unsure = false } → new.end ≡ old.end + 5 + n
ends old new n is = omega (arith, ap (λ (l : Log). l.end) is)

pub returns-then-need-room-clause-told : goal.returns-then-need-room-clause-told
returns-then-need-room-clause-told g c = λ told s stands is_head.
    full_steps g.D.Disk s c.args.height c.args.cids.now is_head c.args.self.now stands _ _ _ refl c.head_need-need.ensures (omega (arith, c.if-need-room.true))

pub head_fault-requires : goal.head_fault-requires
head_fault-requires g c =
    let e = c.in-Err in
    is_stop e.fault
    (λ file need room is. let full = e.ensures.written.appends.full file need room (ap Err is) in
    absurd (omega (arith, head_takes c.args.height c.args.cids.now, c.head_need-need.ensures, c.if-need-room.false, c.room-room.ensures.room, full.1, full.2, full.3)))
    (λ file at is. e.ensures.written.appends.not_damaged file at (ap Err is))

pub returns-in-Ok-clause-told : goal.returns-in-Ok-clause-told
returns-in-Ok-clause-told g c = λ told s stands is_head.
    set_steps g.D.Disk s c.args.height c.args.cids.now is_head c.args.self.now _ stands c.requires.head c.len.ensures.cids c.set_head.ensures.written.settings refl
    (omega (arith, head_takes c.args.height c.args.cids.now, c.head_need-need.ensures, c.if-need-room.false, c.room-room.ensures.room)) (sure_leaves g.D.Disk _ _ _ _ c.requires.sure _ c.set_head.result (λ records others. c.set_head.ensures.told records others told))
    (ends c.args.self.now.hot.log c.set_head.new.self.log _ c.in-Ok.ensures.written.appends.ok) (ap (λ (l : Log). l.unsure) c.in-Ok.ensures.written.appends.ok) (λ records keeps. (c.in-Ok.ensures.told records records told keeps).kept)

pub returns-in-Ok-clause-made : goal.returns-in-Ok-clause-made
returns-in-Ok-clause-made g c = set_makes g.D.Disk c.args.cids.now c.args.self.now _ c.set_head.ensures.written.settings (touches_hot g.D.Disk _ _ _ c.args.self.now.file c.set_head.ensures.written.appends.touches) (omega (arith, ap (λ (l : Log). l.end) c.in-Ok.ensures.written.appends.ok, head_takes c.args.height c.args.cids.now, c.head_need-need.ensures, c.if-need-room.false, c.room-room.ensures.room)) c.args.height (counted_kept _ _ _ c.in-Ok.ensures.written.appends.counts.kept) (ap (λ (l : Log). l.unsure) c.in-Ok.ensures.written.appends.ok)

pub returns-in-Err-clause-told : goal.returns-in-Err-clause-told
returns-in-Err-clause-told g c = λ told s stands is_head.
    let e = c.in-Err in
    head_steps e.fault c.head_fault.ensures
    (is_stop e.fault
    (λ file need room is. let full = e.ensures.written.appends.full file need room (ap Err is) in
    absurd (omega (arith, head_takes c.args.height c.args.cids.now, c.head_need-need.ensures, c.if-need-room.false, c.room-room.ensures.room, full.1, full.2, full.3)))
    (λ file at is. e.ensures.written.appends.not_damaged file at (ap Err is)))
    (λ wanting. let same = unless_disk e.fault _ wanting (e.ensures.written.untouched e.fault refl) in
    judged_steps g.D.Disk told c.args.self.now _ (unchanged g.D.Disk c.args.self.now _ same.1 same.0 refl) s c.args.cids.now stands is_head.known head.NoMemory tt tt)
    (λ failed. doubted_steps g.D.Disk s c.args.height c.args.cids.now is_head c.args.self.now _ stands c.requires.head c.len.ensures.cids c.set_head.ensures.written.settings refl
    (omega (arith, head_takes c.args.height c.args.cids.now, c.head_need-need.ensures, c.if-need-room.false, c.room-room.ensures.room)) (sure_leaves g.D.Disk _ _ _ _ c.requires.sure _ c.set_head.result (λ records others. c.set_head.ensures.told records others told))
    e.ensures.written.err (sure_failed g.D.Disk _ _ _ _ c.requires.sure _ _ (λ records others. e.ensures.told records others told)))

pub returns-in-Err-clause-made : goal.returns-in-Err-clause-made
returns-in-Err-clause-made g c =
    let e = c.in-Err in
    head_makes e.fault c.head_fault.ensures
    (is_stop e.fault
    (λ file need room is. let full = e.ensures.written.appends.full file need room (ap Err is) in
    absurd (omega (arith, head_takes c.args.height c.args.cids.now, c.head_need-need.ensures, c.if-need-room.false, c.room-room.ensures.room, full.1, full.2, full.3)))
    (λ file at is. e.ensures.written.appends.not_damaged file at (ap Err is)))
    (λ wanting. let same = unless_disk e.fault _ wanting (e.ensures.written.untouched e.fault refl) in
    makes g.D.Disk c.args.self.now _ (unchanged g.D.Disk c.args.self.now _ same.1 same.0 refl) c.args.cids.now c.requires.sure head.NoMemory (λ wrong. never wrong) (inr (ap g.D.Disk.faults same.1)) tt refl)
    (λ failed. failed_makes g.D.Disk c.args.cids.now c.args.self.now _ c.set_head.ensures.written.settings (touches_hot g.D.Disk _ _ _ c.args.self.now.file c.set_head.ensures.written.appends.touches) (omega (arith, ap (λ (h : Hot). h.log.end) e.ensures.written.err)) (e.ensures.written.appends.counts.rose (ap Err failed)))
