use Rattle.std.proofs.Common.{◌≡◌, ◌<◌, ◌≤◌, length, arith, rules, subst}
use Rattle.std.proofs.lemmas.List.Elements.{All-from_get_or}
use Rattle.std.proofs.lemmas.List.{append_assoc, length-append}
use Rattle.ss_cid.specs.Cid.{IsCid, cid_bytes}
use Rattle.ss_cid.proofs.Grammar.{IsCid-cid_bytes}
use Rattle.ss_cid.proofs.cid.Cid.make.Goals as goal
use Rattle.ss_cid.proofs.cid.Cid.make.Goals.{After-extend}

is_cid : (c : After-extend) → IsCid c.extend.new.self
unfolding cid_bytes
is_cid c =
    let digest = c.args.digest.now in
    let is : cid_bytes c.args.codec c.args.hash digest ≡ c.extend.new.self = search (rules, append_assoc) in
    let short : length (cid_bytes c.args.codec c.args.hash digest) ≤ 72 = rw (is, c.extend.ensures, length-append) (omega arith) in
    subst IsCid is (IsCid-cid_bytes c.args.codec c.args.hash digest c.requires.codec_fits c.requires.hash_fits short
    (All-from_get_or (λ b. b < 256) digest 0 (λ i _. omega (arith, c.type_inv.digest i))))

pub invariant_of-result : goal.invariant_of-result
invariant_of-result c = is_cid (goal.at.invariant_of-result c).After-extend

pub returns-clause-cid : goal.returns-clause-cid
returns-clause-cid c = is_cid (goal.at.returns-clause-cid c).After-extend
