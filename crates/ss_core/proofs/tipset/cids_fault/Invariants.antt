use Rattle.std.proofs.Common.{◌≡◌, None}
use Rattle.ss_chain.specs.Steps.{first_of}
use Rattle.ss_chain.specs.Tipset.{repeat_at}
use Rattle.ss_core.proofs.tipset.cids_fault.Given as goal

abbrev pub invariant-loop-i : goal.invariant-loop-i
invariant-loop-i l = first_of (repeat_at l.cids) l.i ≡ None
