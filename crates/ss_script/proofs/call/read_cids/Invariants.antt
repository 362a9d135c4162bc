use Rattle.std.proofs.Common.{◌≡◌}
use Rattle.ss_script.specs.Script.{cids_of}
use Rattle.ss_script.proofs.Onward.{onto}
use Rattle.ss_script.proofs.call.read_cids.Given as goal

abbrev pub invariant-loop-field : goal.invariant-loop-field
invariant-loop-field l =
    (goal.iterator-loop-field).can_next l.fields
    × (goal.iterator-loop-field).is_finite l.fields
    × (cids_of l.initial.fields ≡ onto l.cids (cids_of l.fields))
