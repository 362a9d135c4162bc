use Rattle.std.proofs.Common.{◌≡◌, ◌+◌, ◌*◌, ◌^◌, ◌<◌, sym, arith, below_more}
use Rattle.std.proofs.lemmas.Bool.Decides.{nat_tests}
use Rattle.ss_cid.proofs.Varints.{varint_at-short, varint_at-long, varint_at-ends, groups_value_more, groups_value_front-lt, weight_more, weight-le, number_fits}
use Rattle.ss_cid.proofs.varint.varint_at.Goals as goal
use Rattle.ss_cid.proofs.varint.varint_at.Goals.{After-from}

-- what is added fits
sum : (c : After-from) → c.loop-k.number + c.from.result * c.loop-k.weight < 2 ^ 63
sum c =
    let bytes = c.args.bytes.now in
    let at = c.args.at in
    let i = c.loop-k.invariant in
    let below : c.loop-k.number < 128 ^ c.loop-k.k = rw (i.number) (groups_value_front-lt bytes at c.loop-k.k i.within) in
    number_fits c.loop-k.number c.from.result c.loop-k.weight (rw i.weight below) (omega arith) (rw i.weight (weight-le c.loop-k.k (omega arith)))

pub returns-then-at-k-clause-value : goal.returns-then-at-k-clause-value
returns-then-at-k-clause-value c =
    let i = c.loop-k.invariant in
    sym (varint_at-short c.args.bytes.now c.args.at c.loop-k.k (omega arith) (omega arith) i.high)

pub returns-clause-value : goal.returns-clause-value
returns-clause-value c =
    let nine : c.loop-k.k ≡ 9 = omega arith in
    let i = c.loop-k.invariant in
    sym (varint_at-long c.args.bytes.now c.args.at (omega arith) (λ j less. i.high j (omega arith)))

pub overflow_mul-number : goal.overflow_mul-number
overflow_mul-number c = let fits = sum c in omega arith

pub overflow_add-number : goal.overflow_add-number
overflow_add-number c = let fits = sum c in omega arith

pub overflow_mul-weight : goal.overflow_mul-weight
overflow_mul-weight c =
    let fits = weight-le c.loop-k.k (omega arith) in
    omega (arith, c.loop-k.invariant.weight)

pub returns-then-k-gt0-clause-value : goal.returns-then-k-gt0-clause-value
returns-then-k-gt0-clause-value c =
    let is = varint_at-ends c.args.bytes.now c.args.at c.loop-k.k (omega arith) (omega arith) c.loop-k.invariant.high (omega arith) in
    grind (arith, nat_tests)

pub returns-then-byte-lt128-clause-value : goal.returns-then-byte-lt128-clause-value
returns-then-byte-lt128-clause-value c =
    let is = varint_at-ends c.args.bytes.now c.args.at c.loop-k.k (omega arith) (omega arith) c.loop-k.invariant.high (omega arith) in
    let more = groups_value_more c.args.bytes.now c.args.at c.loop-k.k (omega arith) in
    grind (arith, nat_tests)

pub returns-then-byte-lt128-clause-bounds : goal.returns-then-byte-lt128-clause-bounds
returns-then-byte-lt128-clause-bounds c = (sum (goal.at.returns-then-byte-lt128-clause-bounds c).After-from, omega arith, omega arith)

pub loop-k-preserved : goal.loop-k-preserved
loop-k-preserved c = record {
  within = omega arith;
  weight = let more = weight_more c.loop-k.k in cc;
  number = let more = groups_value_more c.args.bytes.now c.args.at c.loop-k.k (omega arith) in grind arith;
  high = below_more _ _ c.loop-k.invariant.high (omega arith);
}
