use Rattle.std.proofs.Common.{◌+◌, ℕ, length, take, map, ap, ◌∙◌, arith}
use Rattle.std.specs.FinMap as finite_map
use Rattle.ss_store.specs.declared.place.Place.{Place}
use Rattle.ss_store.specs.Places.{CidMap, without_cids}
use Rattle.ss_store.proofs.Placing.{length-Put, front-fits, front-next, insert-next, undone}
use Rattle.ss_store.proofs.index.Index.insert_blocks.Goals as goal

pub overflow_add-at-in-loop-i-2 : goal.overflow_add-at-in-loop-i-2
overflow_add-at-in-loop-i-2 c =
    omega (arith, front-fits c.args.blocks.now c.loop-i.i (c.at-cid.result.0, c.at-cid.result.1.now) c.at-cid.ensures, length-Put c.args.blocks.now, ap (length {A = ℕ}) c.as_bytes.ensures.value)

pub overflow_add-at-in-loop-i-3 : goal.overflow_add-at-in-loop-i-3
overflow_add-at-in-loop-i-3 c =
    omega (arith, front-fits c.args.blocks.now c.loop-i.i (c.at-cid.result.0, c.at-cid.result.1.now) c.at-cid.ensures, length-Put c.args.blocks.now, ap (length {A = ℕ}) c.as_bytes.ensures.value)

pub returns-in-Err-clause-err : goal.returns-in-Err-clause-err
returns-in-Err-clause-err c =
    c.remove_blocks.ensures
    ∙ ap (λ (m : CidMap Place). without_cids m (map (λ p. p.0) (take c.loop-i.i c.args.blocks.now))) (c.in-Err.ensures.err ∙ c.loop-i.invariant.places)
    ∙ undone c.args.self.now c.args.file c.args.body c.loop-i.i c.args.blocks.now c.requires.new

pub loop-i-preserved : goal.loop-i-preserved
loop-i-preserved c = record {
  places = c.in_default.ensures.ok
      ∙ ap (λ (m : CidMap Place). finite_map.insert m c.at-cid.result.0 (record { file = c.args.file; at = c.loop-i.at + (length c.as_bytes.result.now + 4); len = length c.at-cid.result.1.now })) c.loop-i.invariant.places
      ∙ insert-next c.args.self.now c.args.file c.args.body c.loop-i.i _ c.args.blocks.now (c.at-cid.result.0, c.at-cid.result.1.now) c.at-cid.ensures (omega (arith, ap (length {A = ℕ}) c.as_bytes.ensures.value));
  at = omega (arith, front-next c.args.blocks.now c.loop-i.i (c.at-cid.result.0, c.at-cid.result.1.now) c.at-cid.ensures, ap (length {A = ℕ}) c.as_bytes.ensures.value);
}
