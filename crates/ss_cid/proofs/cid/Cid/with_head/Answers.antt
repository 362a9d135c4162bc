use Rattle.std.proofs.Common.{◌≡◌, ℕ, List, arith, rules, subst}
use Rattle.ss_cid.specs.Cid.{IsCid, hash_of}
use Rattle.ss_cid.proofs.Grammar.{IsCid-take, hash_of-take}
use Rattle.ss_cid.proofs.cid.Cid.with_head.Goals as goal
use Rattle.ss_cid.proofs.cid.Cid.with_head.Goals.{After-extend}

is_cid : (c : After-extend) → IsCid c.extend.new.self
is_cid c =
    let is = IsCid-take c.args.bytes.now c.args.head (λ j. omega (arith, c.type_inv.bytes j)) c.requires.parts in
    subst IsCid (search rules) is

pub invariant_of-result : goal.invariant_of-result
invariant_of-result c = is_cid (goal.at.invariant_of-result c).After-extend

pub returns-clause-cid : goal.returns-clause-cid
returns-clause-cid c = is_cid (goal.at.returns-clause-cid c).After-extend

pub returns-clause-hash : goal.returns-clause-hash
returns-clause-hash c = subst (λ (cid : List ℕ). hash_of cid ≡ c.args.head.hash) (search rules) (hash_of-take c.args.bytes.now c.args.head c.requires.parts)
