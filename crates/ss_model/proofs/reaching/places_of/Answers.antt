use Rattle.std.proofs.Common.{◌-◌, ap, ◌∙◌, arith}
use Rattle.std.specs.Prelude.{not}
use Rattle.ss_model.proofs.Placing.{placed_none, placed_skip, placed_more, identity-lent}
use Rattle.ss_model.proofs.reaching.places_of.Goals as goal

pub loop-left-init : goal.loop-left-init
loop-left-init c = record {
  within = omega (arith, c.len-left.ensures.value);
  placed = placed_none c.args.kept.now c.len-left.result c.new-places.result (omega (arith, c.len-left.ensures.value)) c.new-places.ensures.empty;
}

pub loop-left-preserved-in_ok-insert : goal.loop-left-preserved-in_ok-insert
loop-left-preserved-in_ok-insert c = record {
  within = omega (arith, c.loop-left.invariant.within);
  placed = placed_more c.args.kept.now (c.loop-left.left - 1) c.loop-left.left (c.at-cid.result.0, c.at-cid.result.1.now) (omega (arith, c.loop-left-test.true)) c.at-cid.ensures
      c.loop-left.places c.insert.new.self
      (identity-lent c.at-cid.result.0 c.identity.result c.is_none.result c.identity.ensures c.is_none.ensures ∙ ap not c.if-is_none.true)
      c.in_ok-insert.ensures.updates.0 c.loop-left.invariant.placed;
}

pub loop-left-preserved : goal.loop-left-preserved
loop-left-preserved c = record {
  within = omega (arith, c.loop-left.invariant.within);
  placed = placed_skip c.args.kept.now (c.loop-left.left - 1) c.loop-left.left (c.at-cid.result.0, c.at-cid.result.1.now) (omega (arith, c.loop-left-test.true)) c.at-cid.ensures
      c.loop-left.places
      (identity-lent c.at-cid.result.0 c.identity.result c.is_none.result c.identity.ensures c.is_none.ensures ∙ ap not c.if-is_none.false)
      c.loop-left.invariant.placed;
}
