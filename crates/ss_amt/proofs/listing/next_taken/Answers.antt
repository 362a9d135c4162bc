use Rattle.std.proofs.Common.{◌+◌, ◌++◌, ◌∷◌, [], sym, ◌∙◌, ap, arith}
use Rattle.ss_amt.proofs.Taken.{ones-clear, ones-set, taken-clear, taken-set, before-end}
use Rattle.ss_amt.proofs.listing.next_taken.Goals as goal

pub overflow_add-next : goal.overflow_add-next
overflow_add-next c =
    let lt = before-end c.args.bits.now c.loop-next.next c.args.end (omega (arith, c.loop-next.invariant.ones, c.requires.some)) in
    omega (arith, lt)

pub loop-next-smaller : goal.loop-next-smaller
loop-next-smaller c =
    let lt = before-end c.args.bits.now c.loop-next.next c.args.end (omega (arith, c.loop-next.invariant.ones, c.requires.some)) in
    omega (arith, lt)

pub loop-next-preserved : goal.loop-next-preserved
loop-next-preserved c =
    let clear = sym c.is_set.ensures ∙ c.loop-next-test.true in
    record {
      low = omega arith;
      ones = ones-clear c.args.bits.now c.loop-next.next clear ∙ c.loop-next.invariant.ones;
      taken = taken-clear c.args.bits.now c.loop-next.next clear ∙ c.loop-next.invariant.taken;
    }

pub returns-clause-within : goal.returns-clause-within
returns-clause-within c =
    (c.loop-next.invariant.low, before-end c.args.bits.now c.loop-next.next c.args.end (omega (arith, c.loop-next.invariant.ones, c.requires.some)))

pub returns-clause-one : goal.returns-clause-one
returns-clause-one c = ones-set c.args.bits.now c.loop-next.next (sym c.is_set.ensures ∙ c.loop-next-test.false) ∙ ap (λ n. n + 1) c.loop-next.invariant.ones

pub returns-clause-taken : goal.returns-clause-taken
returns-clause-taken c = taken-set c.args.bits.now c.loop-next.next (sym c.is_set.ensures ∙ c.loop-next-test.false) ∙ ap (λ l. l ++ c.loop-next.next ∷ []) c.loop-next.invariant.taken
