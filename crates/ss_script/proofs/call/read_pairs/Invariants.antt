use Rattle.std.proofs.Common.{◌≡◌}
use Rattle.ss_script.specs.Script.{pairs_of}
use Rattle.ss_script.proofs.Onward.{onto}
use Rattle.ss_script.proofs.call.read_pairs.Given as goal

abbrev pub invariant-loop-name : goal.invariant-loop-name
invariant-loop-name l =
    (goal.iterator-loop-name).can_next l.fields
    × (goal.iterator-loop-name).is_finite l.fields
    × (pairs_of l.initial.fields ≡ onto l.parcel (pairs_of l.fields))
