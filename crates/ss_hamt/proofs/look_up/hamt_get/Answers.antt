use Rattle.std.proofs.Common.{Ok, ap, arith}
use Rattle.ss_node.proofs.Visiting.{stays-start, stays-ok, stays-held}
use Rattle.ss_hamt.proofs.Looking.{entry-at, reached-root, reached-value, reached-deep, reached-child}
use Rattle.ss_hamt.proofs.look_up.hamt_get.Goals as goal

pub loop-level-init : goal.loop-level-init
loop-level-init g c = record { low = omega arith; stays = stays-start _ _; reached = reached-root _ _ _ }

pub returns-in-Value-clause-answer : goal.returns-in-Value-clause-answer
returns-in-Value-clause-answer g c =
    let held = stays-held _ _ _ c.loop-level.invariant.stays in
    let finds = entry-at _ _ c.args.key.now _ _ _ c.loop-level.level _ _ held c.digest-hash.ensures c.slot_of.ensures.value (ap Ok c.in-Value.is) c.in_ok-value.ensures.finds in
    reached-value _ _ _ _ _ c.loop-level.invariant.reached c.in-Value.value finds

pub loop-level-preserved : goal.loop-level-preserved
loop-level-preserved g c =
    let held = stays-held _ _ _ c.loop-level.invariant.stays in
    let finds = entry-at _ _ c.args.key.now _ _ _ c.loop-level.level _ _ held c.digest-hash.ensures c.slot_of.ensures.value (ap Ok c.in-Child.is) c.in_ok-value.ensures.finds in
    record {
      low = omega arith;
      stays = stays-ok _ _ _ _ _ c.loop-level.invariant.stays c.in_ok-value.ensures.visits;
      reached = reached-child _ _ _ _ _ c.loop-level.invariant.reached c.in-Child.child c.loop-level-test.true finds;
    }

pub returns-in-Value-2-clause-answer : goal.returns-in-Value-2-clause-answer
returns-in-Value-2-clause-answer g c =
    let held = stays-held _ _ _ c.loop-level.invariant.stays in
    let finds = entry-at _ _ c.args.key.now _ _ _ c.loop-level.level _ _ held c.digest-hash.ensures c.slot_of-2.ensures.value (ap Ok c.in-Value-2.is) c.in_ok-value-2.ensures.finds in
    reached-value _ _ _ _ _ c.loop-level.invariant.reached c.in-Value-2.value finds

pub returns-in-Child-2-clause-answer : goal.returns-in-Child-2-clause-answer
returns-in-Child-2-clause-answer g c =
    let held = stays-held _ _ _ c.loop-level.invariant.stays in
    let finds = entry-at _ _ c.args.key.now _ _ _ c.loop-level.level _ _ held c.digest-hash.ensures c.slot_of-2.ensures.value (ap Ok c.in-Child-2.is) c.in_ok-value-2.ensures.finds in
    reached-deep _ _ _ _ _ c.loop-level.invariant.reached c.in-Child-2.field-0 c.loop-level-test.false finds
