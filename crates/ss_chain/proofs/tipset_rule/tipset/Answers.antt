use Rattle.std.proofs.Common.{◌≡◌, rules}
use Rattle.ss_chain.specs.Tipset.{tipset_of}
use Rattle.ss_chain.proofs.TipsetLaws.{tipset-exact}
use Rattle.ss_chain.proofs.tipset_rule.tipset.Goals as goal

pub returns-in_err-check_cids-clause-is : goal.returns-in_err-check_cids-clause-is
unfolding tipset_of
returns-in_err-check_cids-clause-is c =
    let exact : c.from_residual.result ≡ tipset_of c.args.headers.now = search rules in
    tipset-exact c.args.headers.now _ exact

pub returns-clause-is : goal.returns-clause-is
unfolding tipset_of
returns-clause-is c =
    let exact : c.common_height.result ≡ tipset_of c.args.headers.now = search rules in
    tipset-exact c.args.headers.now _ exact
