use Rattle.std.proofs.Common.{◌≡◌, None, map}
use Rattle.ss_chain.specs.Steps.{first_of}
use Rattle.ss_chain.specs.Tipset.{repeat_at}
use Rattle.ss_chain.proofs.tipset_rule.check_cids.Given as goal

abbrev pub invariant-loop-i : goal.invariant-loop-i
invariant-loop-i l = first_of (repeat_at (map (λ b. b.0) l.headers)) l.i ≡ None
