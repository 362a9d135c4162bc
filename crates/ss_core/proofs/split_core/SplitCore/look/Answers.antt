use Rattle.std.proofs.Common.{◌≡◌, ℕ, ◌-◌, ◌^◌, List, take, ap, ◌∙◌, arith}
use Rattle.std.specs.Option.{unwrap_or}
use Rattle.std.proofs.lemmas.List.{take_all, length-set}
use Rattle.std.proofs.lemmas.Option.{slice_get_within}
use Rattle.ss_core.specs.Seen.{held_in}
use Rattle.ss_core.specs.Replies.{cids_of}
use Rattle.ss_core.proofs.PutBytes.{bytes_more, held_more, least_more, own_more, kept_is, none_is, seen_is, noted_more}
use Rattle.ss_core.proofs.split_core.SplitCore.look.Goals as goal

pub loop-i-init : goal.loop-i-init
loop-i-init g c = record {
  least = omega arith;
  held = omega arith;
  all = λ s doubt stands. omega arith;
  own = λ none. omega arith;
  room = c.told-seen;
  noted = λ k p before at. absurd (omega (arith, before));
}

pub loop-i-preserved : goal.loop-i-preserved
loop-i-preserved g c =
    let pair : List ℕ × List ℕ = (c.at-cid.result.0, c.at-cid.result.1.now) in record {
      least = least_more c.args.parcel.now c.loop-i.i pair c.loop-i.bytes c.pair_bytes.result c.saturating_add-bytes.result (2 ^ 64 - 1) c.at-cid.ensures c.loop-i.invariant.least (omega (arith, c.pair_bytes.ensures)) c.saturating_add-bytes.ensures;
      held = held_more c.args.self.now c.args.parcel.now c.loop-i.i pair c.loop-i.bytes c.pair_bytes.result c.saturating_add-bytes.result (2 ^ 64 - 1) c.at-cid.ensures c.loop-i.invariant.held
          (omega (arith, c.pair_bytes.ensures, c.unwrap_or.ensures, ap (λ o. unwrap_or o 0) c.kept_len-kept.ensures.place)) c.saturating_add-bytes.ensures;
      all = λ s doubt stands. bytes_more s.kept c.args.parcel.now c.loop-i.i pair c.loop-i.bytes c.pair_bytes.result c.saturating_add-bytes.result (2 ^ 64 - 1) c.at-cid.ensures (c.loop-i.invariant.all s doubt stands)
          (omega (arith, c.pair_bytes.ensures, kept_is _ _ c.unwrap_or.result (c.kept_len-kept.ensures.block s doubt stands) c.unwrap_or.ensures)) c.saturating_add-bytes.ensures;
      own = λ none. own_more c.args.parcel.now c.loop-i.i pair c.loop-i.bytes c.pair_bytes.result c.saturating_add-bytes.result (2 ^ 64 - 1) c.at-cid.ensures (c.loop-i.invariant.own none)
          (omega (arith, c.pair_bytes.ensures, none_is c.args.self.now.hot c.args.parcel.now c.loop-i.i pair _ c.unwrap_or.result none c.at-cid.ensures c.kept_len-kept.ensures.place c.unwrap_or.ensures)) c.saturating_add-bytes.ensures;
      room = length-set c.loop-i.seen c.loop-i.i c.by_len.result ∙ c.loop-i.invariant.room;
      noted = noted_more (held_in (cids_of c.args.self.now.hot.places)) c.args.parcel.now c.loop-i.seen c.loop-i.i pair c.by_len.result c.at-cid.ensures (omega (arith, c.requires, c.loop-i.invariant.room, c.loop-i-test.true, c.len-i-end.ensures.value)) (c.by_len.ensures ∙ seen_is c.args.self.now.hot.places pair.0 _ c.kept_len-kept.ensures.place) c.loop-i.invariant.noted;
    }

pub returns-clause-least : goal.returns-clause-least
returns-clause-least g c =
    let whole : take c.loop-i.i c.args.parcel.now ≡ c.args.parcel.now = take_all c.loop-i.i c.args.parcel.now (omega arith) in
    rw whole at c.loop-i.invariant.least

pub returns-clause-held : goal.returns-clause-held
returns-clause-held g c =
    let whole : take c.loop-i.i c.args.parcel.now ≡ c.args.parcel.now = take_all c.loop-i.i c.args.parcel.now (omega arith) in
    rw whole at c.loop-i.invariant.held

pub returns-clause-all : goal.returns-clause-all
returns-clause-all g c = λ s doubt stands.
    let whole : take c.loop-i.i c.args.parcel.now ≡ c.args.parcel.now = take_all c.loop-i.i c.args.parcel.now (omega arith) in
    rw whole at (c.loop-i.invariant.all s doubt stands)

pub returns-clause-own : goal.returns-clause-own
returns-clause-own g c =
    let whole : take c.loop-i.i c.args.parcel.now ≡ c.args.parcel.now = take_all c.loop-i.i c.args.parcel.now (omega arith) in
    λ none. rw whole at (c.loop-i.invariant.own none)

pub returns-clause-seen : goal.returns-clause-seen
returns-clause-seen g c = λ k p at. c.loop-i.invariant.noted k p (omega (arith, slice_get_within c.args.parcel.now k p at, c.loop-i-test.false, c.len-i-end.ensures.value)) at
