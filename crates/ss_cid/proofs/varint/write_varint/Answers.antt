use Rattle.std.proofs.Common.{arith}
use Rattle.ss_cid.proofs.Varints.{Writes-start, Writes-next, Writes-last, Writes-length, Writes-end}
use Rattle.ss_cid.proofs.varint.write_varint.Goals as goal

pub loop-k-init : goal.loop-k-init
loop-k-init c = Writes-start c.args.out.now c.args.n c.told-out c.requires

pub loop-k-preserved : goal.loop-k-preserved
loop-k-preserved c = Writes-next c.loop-k.out c.args.out.now c.loop-k.k c.loop-k.left c.args.n (omega arith) (omega arith) c.loop-k.invariant

pub returns-then-left-lt128-clause-value : goal.returns-then-left-lt128-clause-value
returns-then-left-lt128-clause-value c =
    Writes-last c.loop-k.out c.args.out.now c.loop-k.k c.loop-k.left c.args.n (omega arith) (omega arith) c.loop-k.invariant

pub returns-then-left-lt128-clause-len : goal.returns-then-left-lt128-clause-len
returns-then-left-lt128-clause-len c =
    Writes-length c.loop-k.out c.args.out.now c.loop-k.k c.loop-k.left c.args.n (omega arith) (omega arith) c.loop-k.invariant

pub returns-clause-value : goal.returns-clause-value
returns-clause-value c =
    (Writes-end c.loop-k.out c.args.out.now c.loop-k.k c.loop-k.left c.args.n (omega arith) c.loop-k.invariant).1

pub returns-clause-len : goal.returns-clause-len
returns-clause-len c =
    (Writes-end c.loop-k.out c.args.out.now c.loop-k.k c.loop-k.left c.args.n (omega arith) c.loop-k.invariant).2
