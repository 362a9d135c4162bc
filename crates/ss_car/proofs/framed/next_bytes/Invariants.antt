use Rattle.std.proofs.Common.{◌≡◌, ◌≤◌, ◌-◌, length}
use Rattle.std.specs.Io.KnownBytes.{Consumes}
use Rattle.ss_car.specs.Bodies.{left_of, faults_of, place_of}
use Rattle.ss_car.proofs.framed.next_bytes.Given as goal

abbrev pub invariant-bytes : goal.invariant-bytes
invariant-bytes g l =
    Consumes (left_of g.S.Source l.initial.source) (left_of g.S.Source l.source) l.bytes.items
    × (length l.bytes.items ≤ l.len)
    × (faults_of g.S.Source l.source ≡ faults_of g.S.Source l.initial.source)
    × (place_of g.S.Source l.source ≡ place_of g.S.Source l.initial.source)

abbrev pub decreases-bytes : goal.decreases-bytes
decreases-bytes g l = l.len - length l.bytes.items
