use Rattle.std.proofs.Common.{ℕ, List, ap, ◌∙◌, arith}
use Rattle.std.proofs.lemmas.List.{length-set}
use Rattle.std.proofs.lemmas.Option.{slice_get_within}
use Rattle.ss_core.specs.declared.fresh.Seen.{Seen}
use Rattle.ss_core.specs.Seen.{held_in, seen_in, with_hash_code}
use Rattle.ss_model.specs.Lawful.{IsSound}
use Rattle.ss_core.proofs.PutBytes.{each_more, noted_more, noted_at, at_other}
use Rattle.ss_core.proofs.NewPairs.{seen_is}
use Rattle.ss_core.proofs.blocks.check_blocks.Goals as goal

pub loop-i-init : goal.loop-i-init
loop-i-init c = record {
  sound = λ k pair before at. absurd (omega (arith, before));
  room = c.told-seen;
  before = λ hot held k pair before at. absurd (omega (arith, before));
  after = λ hot held k pair after at. held k pair at;
}

pub loop-i-preserved : goal.loop-i-preserved
loop-i-preserved c =
    let pair : List ℕ × List ℕ = (c.at-cid.result.0, c.at-cid.result.1.now) in record {
      sound = each_more IsSound c.args.parcel.now c.loop-i.i pair c.at-cid.ensures c.in-Ok.ensures.sound c.loop-i.invariant.sound;
      room = length-set c.loop-i.seen c.loop-i.i c.with_hash_code.result ∙ c.loop-i.invariant.room;
      before = λ hot held.
          let was = noted_at (held_in hot) c.loop-i.seen c.loop-i.i pair.0 Seen.Absent (c.loop-i.invariant.after hot held c.loop-i.i pair (omega arith) c.at-cid.ensures) in
          noted_more (seen_in hot) c.args.parcel.now c.loop-i.seen c.loop-i.i pair c.with_hash_code.result c.at-cid.ensures (omega (arith, c.requires, c.loop-i.invariant.room, c.loop-i-test.true, c.len-i-end.ensures.value))
          (c.with_hash_code.ensures ∙ ap (with_hash_code c.in-Ok.hash_code) was ∙ seen_is hot pair.0 c.in-Ok.hash_code c.in-Ok.ensures.hash_code) (c.loop-i.invariant.before hot held);
      after = λ hot held k q after at. at_other c.loop-i.seen c.loop-i.i k c.with_hash_code.result (held_in hot q.0) (λ e. omega (arith, e, after)) (c.loop-i.invariant.after hot held k q (omega (arith, after)) at);
    }

pub returns-clause-judged : goal.returns-clause-judged
returns-clause-judged c = λ k q within at. c.loop-i.invariant.sound k q (omega (arith, within, c.loop-i-test.false, c.len-i-end.ensures.value)) at

pub returns-clause-seen : goal.returns-clause-seen
returns-clause-seen c = λ hot held k p at. c.loop-i.invariant.before hot held k p (omega (arith, slice_get_within c.args.parcel.now k p at, c.loop-i-test.false, c.len-i-end.ensures.value)) at
