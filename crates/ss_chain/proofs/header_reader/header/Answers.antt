use Rattle.std.proofs.Common.{◌≡◌, rules, option_map, arith}
use Rattle.ss_chain.specs.Header.{fields}
use Rattle.ss_chain.specs.HeaderReading.{header_of}
use Rattle.ss_chain.proofs.Headers.{header-exact}
use Rattle.ss_chain.proofs.header_reader.header.Goals as goal

pub returns-then-eq-clause-is : goal.returns-then-eq-clause-is
unfolding header_of
returns-then-eq-clause-is c =
    let exact : option_map fields c.header_in.result ≡ header_of c.args.cid.now c.args.block.now = search rules in
    header-exact c.args.cid.now c.args.block.now (λ i. omega (arith, c.type_inv.block i)) (omega arith) _ exact
