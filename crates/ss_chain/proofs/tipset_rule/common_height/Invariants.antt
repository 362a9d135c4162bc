use Rattle.std.proofs.Common.{◌≡◌, None}
use Rattle.ss_chain.specs.Header.{fields}
use Rattle.ss_chain.specs.Steps.{first_of}
use Rattle.ss_chain.specs.Tipset.{fault_beside, header_at}
use Rattle.ss_chain.proofs.tipset_rule.common_height.Given as goal

abbrev pub invariant-loop-i : goal.invariant-loop-i
invariant-loop-i l = first_of (λ i. fault_beside (fields l.first) i (header_at l.headers i)) l.i ≡ None
