use Rattle.std.proofs.Common.{◌≡◌, rules, arith}
use Rattle.ss_chain.specs.Follows.{followed}
use Rattle.ss_chain.proofs.Few.{followed-few}
use Rattle.ss_chain.proofs.Shorter.{followed-shorter, only-shorter}
use Rattle.ss_chain.proofs.following.follows.Goals as goal

pub returns-in-Some-clause-few : goal.returns-in-Some-clause-few
unfolding followed
returns-in-Some-clause-few c =
    let exact : c.of_header.result ≡ followed c.args.edge c.args.cid.now c.args.block.now = search rules in
    rw exact (followed-few c.args.edge c.args.cid.now c.args.block.now (λ i. omega (arith, c.type_inv.block i)) (omega arith))

pub returns-in-None-clause-few : goal.returns-in-None-clause-few
unfolding followed
returns-in-None-clause-few c =
    let exact : c.of_links.result ≡ followed c.args.edge c.args.cid.now c.args.block.now = search rules in
    rw exact (followed-few c.args.edge c.args.cid.now c.args.block.now (λ i. omega (arith, c.type_inv.block i)) (omega arith))

pub returns-in-Some-clause-shorter : goal.returns-in-Some-clause-shorter
unfolding followed
returns-in-Some-clause-shorter c =
    let exact : c.of_header.result ≡ followed c.args.edge c.args.cid.now c.args.block.now = search rules in
    rw exact (only-shorter _ _ (followed-shorter c.args.edge c.args.cid.now c.args.block.now (λ i. omega (arith, c.type_inv.block i)) (omega arith)))

pub returns-in-None-clause-shorter : goal.returns-in-None-clause-shorter
unfolding followed
returns-in-None-clause-shorter c =
    let exact : c.of_links.result ≡ followed c.args.edge c.args.cid.now c.args.block.now = search rules in
    rw exact (only-shorter _ _ (followed-shorter c.args.edge c.args.cid.now c.args.block.now (λ i. omega (arith, c.type_inv.block i)) (omega arith)))
