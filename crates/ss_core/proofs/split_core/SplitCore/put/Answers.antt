use Rattle.std.proofs.Common.{◌≡◌, [], refl, sym, ap, ◌∙◌, subst, Err, arith}
use Rattle.ss_gatelog.specs.GateLog.{Log}
use Rattle.ss_hot.specs.Store.{Hot}
use Rattle.ss_model.specs.declared.call.Call.TheVariants as call
use Rattle.ss_model.specs.declared.call.Answer.TheVariants as answer
use Rattle.ss_model.specs.declared.call.PutReply.{PutReply}
use Rattle.ss_model.specs.declared.call.PutReply.TheVariants as put
use Rattle.ss_core.specs.Replies.{Puts, cids_of, put_fault}
use Rattle.ss_core.proofs.Made.{idle_makes, put_stored, put_failed, counted_kept}
use Rattle.ss_core.proofs.PutSteps.{new_are, new_fits, new_short, new_absent, own_body, no_memory, not_settled, none_stored, none_few}
use Rattle.ss_core.proofs.Refusals.{refused_puts}
use Rattle.ss_core.proofs.split_core.SplitCore.put.Goals as goal

pub returns-in-Err : goal.returns-in-Err
returns-in-Err g c = refused_puts g.D.Disk c.args.self.now c.args.view c.args.parcel.now c.in-Err.refusal c.in-Err.ensures.decides c.in-Err.ensures.ready

pub put_fresh-requires-clause-blocks : goal.put_fresh-requires-clause-blocks
put_fresh-requires-clause-blocks g c = let e = rw c.in-Ok-All.field-0-is at (c.in-Ok-All.ensures (cids_of c.args.self.now.hot.places) c.in-Ok.ensures.looked.each) in new_fits c.args.self.now.hot.places c.args.parcel.now c.args.parcel.now c.in-Ok.ensures.ready e.0 e.1

pub put_fresh-requires-clause-new : goal.put_fresh-requires-clause-new
put_fresh-requires-clause-new g c = new_absent c.args.self.now.hot c.args.parcel.now c.args.parcel.now (rw c.in-Ok-All.field-0-is at (c.in-Ok-All.ensures (cids_of c.args.self.now.hot.places) c.in-Ok.ensures.looked.each)).0

pub put_fresh-requires-clause-body : goal.put_fresh-requires-clause-body
put_fresh-requires-clause-body g c = own_body c.args.self.now.hot c.args.parcel.now c.in-Ok.bytes _ c.in-Ok.ensures.ready c.in-Ok.ensures.looked (rw c.in-Ok-All.field-0-is at (c.in-Ok-All.ensures (cids_of c.args.self.now.hot.places) c.in-Ok.ensures.looked.each)).0

pub body_bytes-requires : goal.body_bytes-requires
body_bytes-requires g c = omega (arith, new_short c.args.self.now.hot.places c.args.parcel.now c.in-Ok-Part.fresh 15728640 c.in-Ok.ensures.ready.short (rw c.in-Ok-Part.field-0-is at (c.in-Ok-Part.ensures (cids_of c.args.self.now.hot.places) c.in-Ok.ensures.looked.each)).0)

pub put_fresh-requires-in-Ok-Part-clause-blocks : goal.put_fresh-requires-in-Ok-Part-clause-blocks
put_fresh-requires-in-Ok-Part-clause-blocks g c = let e = rw c.in-Ok-Part.field-0-is at (c.in-Ok-Part.ensures (cids_of c.args.self.now.hot.places) c.in-Ok.ensures.looked.each) in new_fits c.args.self.now.hot.places c.args.parcel.now c.in-Ok-Part.fresh c.in-Ok.ensures.ready e.0 e.1

pub put_fresh-requires-in-Ok-Part-clause-short : goal.put_fresh-requires-in-Ok-Part-clause-short
put_fresh-requires-in-Ok-Part-clause-short g c = new_short c.args.self.now.hot.places c.args.parcel.now c.in-Ok-Part.fresh 15728640 c.in-Ok.ensures.ready.short (rw c.in-Ok-Part.field-0-is at (c.in-Ok-Part.ensures (cids_of c.args.self.now.hot.places) c.in-Ok.ensures.looked.each)).0

pub put_fresh-requires-in-Ok-Part-clause-new : goal.put_fresh-requires-in-Ok-Part-clause-new
put_fresh-requires-in-Ok-Part-clause-new g c = new_absent c.args.self.now.hot c.args.parcel.now c.in-Ok-Part.fresh (rw c.in-Ok-Part.field-0-is at (c.in-Ok-Part.ensures (cids_of c.args.self.now.hot.places) c.in-Ok.ensures.looked.each)).0

pub returns-in-Ok-settle : goal.returns-in-Ok-settle
returns-in-Ok-settle g c =
    let none = rw c.in-Ok-Nothing.field-0-is at (c.in-Ok-Nothing.ensures (cids_of c.args.self.now.hot.places) c.in-Ok.ensures.looked.each) in
    record {
      told = λ told s doubt stands.
          let settled = c.in-Ok-settle.ensures.told told s doubt stands in
          none_stored g.D.Disk s doubt c.args.view c.args.parcel.now [] (c.in-Ok.ensures.decides s doubt stands) (new_are g.D.Disk c.args.self.now s doubt stands c.args.parcel.now ∙ none) c.args.self.now c.settle.new.self stands c.settle.ensures.settled.hot.same settled.stops refl settled.after;
      made = put_stored g.D.Disk c.args.self.now c.settle.new.self (ap (λ (h : Hot). h.settings) c.settle.ensures.settled.hot.same) c.settle.ensures.settled.touches (omega (arith, ap (λ (h : Hot). h.log.end) c.settle.ensures.settled.hot.same)) c.args.view 0 c.args.parcel.now
          (counted_kept _ _ _ c.in-Ok-settle.ensures.settled.hot.log.counts.kept) (ap (λ (l : Log). l.unsure) c.in-Ok-settle.ensures.settled.hot.log.ok);
      due = tt;
      views = c.settle.ensures.settled.views;
    }

pub returns-in-Err-settle : goal.returns-in-Err-settle
returns-in-Err-settle g c =
    let none = rw c.in-Ok-Nothing.field-0-is at (c.in-Ok-Nothing.ensures (cids_of c.args.self.now.hot.places) c.in-Ok.ensures.looked.each) in
    let fault : c.in-Err-settle.fault ≡ _ = c.in-Err-settle.ensures.settled.hot.log.errors c.in-Err-settle.fault refl in
    let reply : c.put_fault.result ≡ put.DiskFault = c.put_fault.ensures ∙ ap put_fault fault in
    subst (λ (r : PutReply). Puts c.args.self.now c.settle.new.self c.args.view c.args.parcel.now r) (sym reply) (record {
      told = λ told s doubt stands.
          let settled = c.in-Err-settle.ensures.told told s doubt stands in
          not_settled g.D.Disk s doubt c.args.view c.args.parcel.now [] (c.in-Ok.ensures.decides s doubt stands) (new_are g.D.Disk c.args.self.now s doubt stands c.args.parcel.now ∙ none) c.args.self.now c.settle.new.self stands c.settle.ensures.settled.hot.same settled.stops
          (none_few g.D.Disk s doubt c.args.self.now stands) (omega arith) settled.after;
      made = put_failed g.D.Disk c.args.self.now c.settle.new.self (ap (λ (h : Hot). h.settings) c.settle.ensures.settled.hot.same) c.settle.ensures.settled.touches (omega (arith, ap (λ (h : Hot). h.log.end) c.settle.ensures.settled.hot.same)) c.args.view c.args.parcel.now (c.in-Err-settle.ensures.settled.hot.log.counts.rose (ap Err fault));
      due = tt;
      views = c.settle.ensures.settled.views;
    })

pub returns-in-Ok-All : goal.returns-in-Ok-All
returns-in-Ok-All g c = c.put_fresh.ensures c.args.view c.args.parcel.now (rw c.in-Ok-All.field-0-is at (c.in-Ok-All.ensures (cids_of c.args.self.now.hot.places) c.in-Ok.ensures.looked.each)).0 c.in-Ok.ensures.decides

pub returns-in-Ok-Part : goal.returns-in-Ok-Part
returns-in-Ok-Part g c = c.put_fresh-in-Ok-Part.ensures c.args.view c.args.parcel.now (rw c.in-Ok-Part.field-0-is at (c.in-Ok-Part.ensures (cids_of c.args.self.now.hot.places) c.in-Ok.ensures.looked.each)).0 c.in-Ok.ensures.decides

pub returns-in-Err-fresh_blocks : goal.returns-in-Err-fresh_blocks
returns-in-Err-fresh_blocks g c = record {
  told = λ _ s doubt stands. no_memory g.D.Disk s doubt c.args.view c.args.parcel.now _ (c.in-Ok.ensures.decides s doubt stands) refl c.args.self.now c.args.self.now stands refl refl refl;
  made = idle_makes g.D.Disk c.args.self.now (call.Put c.args.view c.args.parcel.now) (answer.Put put.NoMemory) refl tt refl refl;
  due = tt;
  views = refl;
}
