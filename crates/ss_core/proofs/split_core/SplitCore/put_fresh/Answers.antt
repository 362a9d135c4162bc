use Rattle.std.proofs.Common.{ℕ, List, length, refl, ap, ◌∙◌, Err, arith}
use Rattle.ss_records.specs.declared.record.Config.{Config as Settings}
use Rattle.ss_gatelog.specs.GateLog.{Log}
use Rattle.ss_hot.specs.Store.{Hot}
use Rattle.ss_model.specs.Lawful.{pairs_need}
use Rattle.ss_model.specs.declared.call.Call.TheVariants as call
use Rattle.ss_model.specs.declared.call.Answer.TheVariants as answer
use Rattle.ss_model.specs.declared.call.PutReply.TheVariants as put
use Rattle.ss_model.proofs.Need.{record_takes}
use Rattle.ss_core.proofs.LogFiles.{touches_hot}
use Rattle.ss_core.proofs.Made.{idle_makes, put_stored, put_failed, put_wanting, counted_kept}
use Rattle.ss_core.proofs.PutSteps.{new_are, table_is_full, log_is_full, no_memory, is_stored, is_doubted, spelled_short, has_room}
use Rattle.ss_core.proofs.Stops.{is_stop, puts_fault, unless_disk}
use Rattle.ss_core.proofs.split_core.SplitCore.put_fresh.Goals as goal

pub returns-then-rows-from : goal.returns-then-rows-from
returns-then-rows-from g c = λ view pairs new passes. record {
  told = λ _ s doubt stands. let is = new_are g.D.Disk c.args.self.now s doubt stands pairs ∙ new in
      table_is_full g.D.Disk s doubt view pairs c.args.fresh.now (passes s doubt stands) is c.args.self.now stands _ (omega (arith, c.kept_count.ensures.count, c.len.ensures.value))
      (omega (arith, c.if-rows-from.true, c.from.ensures, ap (λ (c : Settings). c.rows) c.config.ensures));
  made = idle_makes g.D.Disk c.args.self.now (call.Put view pairs) (answer.Put (put.TableFull _)) refl tt refl refl;
  due = (refl, omega (arith, c.kept_count.ensures.count, c.len.ensures.value, ap (λ (ps : List (List ℕ × List ℕ)). length ps) new), omega (arith, c.if-rows-from.true, c.from.ensures, ap (λ (c : Settings). c.rows) c.config.ensures));
  views = refl;
}

pub returns-then-need-room : goal.returns-then-need-room
returns-then-need-room g c = λ view pairs new passes. record {
  told = λ _ s doubt stands. let is = new_are g.D.Disk c.args.self.now s doubt stands pairs ∙ new in
      log_is_full g.D.Disk s doubt view pairs c.args.fresh.now (passes s doubt stands) is c.args.self.now stands _ _ _ c.requires.blocks.0.0
      (omega (arith, c.if-rows-from.false, c.from.ensures, ap (λ (c : Settings). c.rows) c.config.ensures, c.kept_count.ensures.count, c.len.ensures.value))
      refl (omega (arith, c.requires.body)) (omega (arith, c.if-need-room.true));
  made = idle_makes g.D.Disk c.args.self.now (call.Put view pairs) (answer.Put (put.LogFull _ _ _)) refl (refl, omega (arith, c.requires.body, ap pairs_need new), c.room-room.ensures.room, omega (arith, c.if-need-room.true)) refl refl;
  due = (refl, refl, omega (arith, c.requires.body, ap pairs_need new), c.room-room.ensures.room, omega (arith, c.if-need-room.true));
  views = refl;
}

pub put_batch-requires-clause-fits : goal.put_batch-requires-clause-fits
put_batch-requires-clause-fits g c = spelled_short c.args.fresh.now 15728640 c.requires.short

pub put_fault-requires : goal.put_fault-requires
put_fault-requires g c =
    let e = c.in-Err in
    is_stop e.fault
    (λ file need room is. let full = e.ensures.written.appends.full file need room (ap Err is) in
    has_room c.args.self.now.hot c.args.fresh.now room (omega (arith, c.if-need-room.false, c.requires.body, c.room-room.ensures.room)) full.2 full.3)
    (λ file at is. e.ensures.written.appends.not_damaged file at (ap Err is))

pub returns-in-Ok : goal.returns-in-Ok
returns-in-Ok g c = λ view pairs new passes. record {
  told = λ told s doubt stands.
      let is = new_are g.D.Disk c.args.self.now s doubt stands pairs ∙ new in
      is_stored g.D.Disk s doubt view pairs c.args.fresh.now (passes s doubt stands) is c.args.self.now _ stands c.requires.blocks c.len.ensures.cids
      (omega (arith, c.if-rows-from.false, c.from.ensures, ap (λ (c : Settings). c.rows) c.config.ensures, c.kept_count.ensures.count, c.len.ensures.value))
      (omega (arith, c.if-need-room.false, c.requires.body, c.room-room.ensures.room)) c.put_batch.ensures.written.settings refl
      _ c.len-in-Ok.ensures.value c.in-Ok.ensures.written.appends.ok (λ records others. c.in-Ok.ensures.told records others told);
  made = put_stored g.D.Disk c.args.self.now _ c.put_batch.ensures.written.settings (touches_hot g.D.Disk _ _ _ c.args.self.now.file c.put_batch.ensures.written.appends.touches)
      (omega (arith, ap (λ (l : Log). l.end) c.in-Ok.ensures.written.appends.ok, record_takes c.args.fresh.now, c.if-need-room.false, c.requires.body, c.room-room.ensures.room)) view _ pairs
      (counted_kept _ _ _ c.in-Ok.ensures.written.appends.counts.kept) (ap (λ (l : Log). l.unsure) c.in-Ok.ensures.written.appends.ok);
  due = tt;
  views = refl;
}

pub returns-in-Err : goal.returns-in-Err
returns-in-Err g c = λ view pairs new passes.
    let e = c.in-Err in
    let settings = c.put_batch.ensures.written.settings in
    let touches = touches_hot g.D.Disk _ _ _ c.args.self.now.file c.put_batch.ensures.written.appends.touches in
    puts_fault e.fault c.put_fault.ensures
    (is_stop e.fault
    (λ file' need room is. let full = e.ensures.written.appends.full file' need room (ap Err is) in
    has_room c.args.self.now.hot c.args.fresh.now room (omega (arith, c.if-need-room.false, c.requires.body, c.room-room.ensures.room)) full.2 full.3)
    (λ file' at is. e.ensures.written.appends.not_damaged file' at (ap Err is)))
    (λ wanting. let same = unless_disk e.fault _ wanting (e.ensures.written.untouched e.fault refl) in record {
      told = λ told s doubt stands. no_memory g.D.Disk s doubt view pairs c.args.fresh.now (passes s doubt stands) (new_are g.D.Disk c.args.self.now s doubt stands pairs ∙ new) c.args.self.now _ stands same.1 same.0 refl;
      made = put_wanting g.D.Disk c.args.self.now _ settings touches (omega (arith, ap (λ (h : Hot). h.log.end) e.ensures.written.err)) view pairs same.1;
      due = tt;
      views = refl;
    })
    (λ failed. record {
      told = λ told s doubt stands.
          is_doubted g.D.Disk s doubt view pairs c.args.fresh.now (passes s doubt stands) (new_are g.D.Disk c.args.self.now s doubt stands pairs ∙ new) c.args.self.now _ stands c.requires.blocks c.len.ensures.cids
          (omega (arith, c.if-rows-from.false, c.from.ensures, ap (λ (c : Settings). c.rows) c.config.ensures, c.kept_count.ensures.count, c.len.ensures.value))
          (omega (arith, c.if-need-room.false, c.requires.body, c.room-room.ensures.room)) settings refl e.fault e.ensures.written.err (λ records others. e.ensures.told records others told);
      made = put_failed g.D.Disk c.args.self.now _ settings touches (omega (arith, ap (λ (h : Hot). h.log.end) e.ensures.written.err)) view pairs (e.ensures.written.appends.counts.rose (ap Err failed));
      due = tt;
      views = refl;
    })
