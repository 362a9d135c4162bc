use Rattle.std.proofs.Common.{◌≡◌, None, is_some, sym, ap, ◌∙◌, rules}
use Rattle.ss_chain.proofs.Kept.{identity-none}
use Rattle.ss_txn.proofs.Paths.{digest-of-identity}
use Rattle.ss_marking_suite.proofs.Known.{known_identity, known_stored}
use Rattle.ss_marking_suite.proofs.tests.stored.Stored.block_of.Goals as goal

pub returns-in-Some-clause-known : goal.returns-in-Some-clause-known
returns-in-Some-clause-known c = sym (known_identity c.args.self.now.blocks c.args.cid.now c.in-Some.digest.now c.in-Some.ensures)

pub returns-in-Some-clause-digest : goal.returns-in-Some-clause-digest
returns-in-Some-clause-digest c _ = (digest-of-identity c.args.cid.now c.in-Some.digest.now c.in-Some.ensures).1

pub returns-in_err-block-clause-known : goal.returns-in_err-block-clause-known
returns-in_err-block-clause-known c =
    let none : c.from_residual.result ≡ None = search rules in
    ap is_some none ∙ sym (known_stored c.args.self.now.blocks c.args.cid.now None c.in_default.ensures c.in_err-block.ensures.value)

pub returns-clause-known : goal.returns-clause-known
returns-clause-known c = sym (known_stored c.args.self.now.blocks c.args.cid.now _ c.in_default.ensures c.in_ok-block.ensures.value)

pub returns-clause-digest : goal.returns-clause-digest
returns-clause-digest c is = let no = identity-none c.args.cid.now c.in_default.ensures in absurd (cc)
