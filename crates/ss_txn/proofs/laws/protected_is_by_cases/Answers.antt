use Rattle.ss_txn.proofs.Cases.{cases_protected, protected_cases}
use Rattle.ss_txn.proofs.laws.protected_is_by_cases.Goals as goal

pub returns : goal.returns
returns c edge marks cid proper is = (protected_cases edge marks proper cid is, cases_protected edge marks proper)
