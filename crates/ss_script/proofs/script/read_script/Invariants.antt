use Rattle.std.proofs.Common.{◌≡◌, ◌+◌, length}
use Rattle.ss_script.specs.Script.{lines_of, script_of, script_from}
use Rattle.ss_script.proofs.Onward.{onto}
use Rattle.ss_script.proofs.script.read_script.Given as goal

abbrev pub invariant-loop-text : goal.invariant-loop-text
invariant-loop-text l =
    (goal.iterator-loop-text).can_next l.rest
    × (goal.iterator-loop-text).is_finite l.rest
    × (l.number + length l.rest ≡ length (lines_of l.fn.text))
    × (script_of l.clients l.fn.text ≡ onto l.lines.items (script_from l.clients (l.number + 1) l.rest))
