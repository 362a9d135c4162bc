use Rattle.std.proofs.Common.{◌≡◌, ◌-◌, ◌≤◌, ◌∙◌, ⊎_elim, Err, length, ap, arith}
use Rattle.ss_gatelog.specs.GateLog.{Log, body_of}
use Rattle.ss_gatelog.specs.declared.fault.LogFault.{LogFault}
use Rattle.ss_gatelog.specs.declared.fault.LogFault.TheVariants as log_fault
use Rattle.ss_records.specs.Record.{spelling}
use Rattle.ss_store.specs.Append.{of_log}
use Rattle.ss_store.specs.declared.fault.StoreFault.TheVariants as fault
use Rattle.ss_store.proofs.Appended.{only_disk, body_of-frame, full_keeps, unsettled_keeps, failed_keeps, done_keeps, written_failed, written_done}
use Rattle.ss_store.proofs.append.append_record.Goals as goal
use Rattle.ss_store.proofs.append.append_record.Goals.{In-Err-append}
use Rattle.ss_store.proofs.append.append_record.Given.{Over}

pub returns-then-need-room-clause-told : goal.returns-then-need-room-clause-told
returns-then-need-room-clause-told g c r records others is told stands = full_keeps g.D.Disk c.args.log.now records others r c.args.disk.now _ c.room-room.ensures.within stands

pub returns-in-Err-clause-told : goal.returns-in-Err-clause-told
returns-in-Err-clause-told g c r records others is told stands = unsettled_keeps g.D.Disk c.args.log.now records others r c.args.disk.now _ _ c.in-Err.fault _ (c.in-Err.ensures.told _ _ told stands)

pub returns-in-Ok-clause-told : goal.returns-in-Ok-clause-told
returns-in-Ok-clause-told g c r records others is told stands =
    let body : body_of c.args.framed.now ≡ spelling r = ap body_of is ∙ body_of-frame (spelling r) in
    let settling = c.in_default.ensures.told _ _ told stands in
    done_keeps g.D.Disk c.args.log.now records others r c.args.disk.now c.settle.new.disk c.append.new.disk c.settle.new.self c.append.new.self c.in_default.ensures.settled.ok settling
    (rw body at (c.append.ensures.stops _ told settling.settled)) (rw body at (c.in-Ok.ensures.appended _ told settling.settled))

pub returns-in-Ok-clause-appended : goal.returns-in-Ok-clause-appended
returns-in-Ok-clause-appended g c =
    written_done g.D.Disk c.args.disk.now c.settle.new.disk c.append.new.disk c.args.log.now c.settle.new.self c.append.new.self (length c.args.framed.now) c.in_default.ensures.settled (omega (arith, c.if-need-room.false, c.room-room.ensures.room))
    c.append.ensures.known c.append.ensures.touches c.in-Ok.ensures.ok.1 (⊎_elim (λ is. absurd (let differ : ⊥ = cc in differ)) (λ same. same) c.in-Ok.ensures.counts.kept)

-- where there is room the log's fault is the disk's
of_disk : (g : Over) (c : In-Err-append g) → c.in-Err-append.fault ≡ log_fault.DiskFault
of_disk g c =
    let settled = c.in_default.ensures.settled.ok in
    let fits : length c.args.framed.now ≤ c.settle.new.self.limit - 1 - c.settle.new.self.end = omega (arith, c.if-need-room.false, c.room-room.ensures.room, ap (λ (l : Log). l.limit) settled, ap (λ (l : Log). l.end) settled) in
    only_disk c.in-Err-append.fault (length c.args.framed.now) (c.settle.new.self.limit - 1 - c.settle.new.self.end) c.in-Err-append.ensures.full fits (λ at is. c.in-Err-append.ensures.not_damaged at (ap (λ (e : LogFault). Err e) is))

pub returns-in-Err-append-clause-told : goal.returns-in-Err-append-clause-told
returns-in-Err-append-clause-told g c r records others is told stands =
    let body : body_of c.args.framed.now ≡ spelling r = ap body_of is ∙ body_of-frame (spelling r) in
    let settling = c.in_default.ensures.told _ _ told stands in
    failed_keeps g.D.Disk c.args.log.now records others r c.args.disk.now c.settle.new.disk c.append.new.disk c.settle.new.self c.append.new.self c.in_default.ensures.settled.ok settling
    (rw body at (c.append.ensures.stops _ told settling.settled)) _ (rw body at (c.in-Err-append.ensures.failed _ told settling.settled))

pub returns-in-Err-append-clause-appended : goal.returns-in-Err-append-clause-appended
returns-in-Err-append-clause-appended g c =
    let disk = of_disk g (goal.at.returns-in-Err-append-clause-appended g c).In-Err-append in
    let answer : c.of_log-in-Err-append.result ≡ fault.DiskFault = c.of_log-in-Err-append.ensures ∙ ap (of_log c.file-file.result) disk in
    rw answer (written_failed g.D.Disk c.args.disk.now c.settle.new.disk c.append.new.disk c.args.log.now c.settle.new.self c.append.new.self (length c.args.framed.now) c.in_default.ensures.settled (omega (arith, c.if-need-room.false, c.room-room.ensures.room))
    c.append.ensures.known c.append.ensures.touches c.in-Err-append.ensures.err (c.in-Err-append.ensures.counts.rose (ap (λ (e : LogFault). Err e) disk)))
