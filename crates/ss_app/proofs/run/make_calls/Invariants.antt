use Rattle.std.proofs.Common.{◌≡◌, ◌+◌, List, [], ◌++◌, length}
use Rattle.std.specs.Vec.Iter.{into_iter_items}
use Rattle.ss_script.specs.declared.line.Line.{Line}
use Rattle.ss_app.specs.Progress.{Progress}
use Rattle.ss_history.specs.Story.{Story}
use Rattle.ss_app.specs.World.{output}
use Rattle.ss_app.proofs.run.make_calls.Given as goal

abbrev pub invariant-loop-line : goal.invariant-loop-line
invariant-loop-line g l =
    (l.session.place + length (into_iter_items l.line-iterator) ≡ length l.fn.lines)
    × (made : List Line)
    × (l.fn.lines ≡ made ++ into_iter_items l.line-iterator)
    × ((was : _) → Story {disk = g.D.Disk} was l.fn.core [] → Progress {disk = g.D.Disk} was l.session.core l.session.views l.session.place l.session.refused made (output g.K.Sink l.fn.sink) (output g.K.Sink l.sink))
