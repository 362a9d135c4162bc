use Rattle.std.proofs.Common.{◌≡◌}
use Rattle.ss_car.specs.Bodies.{left_of, faults_of, place_of}
use Rattle.ss_car.proofs.Lengths.{LengthSoFar}
use Rattle.ss_car.proofs.framed.next_length.Given as goal

abbrev pub invariant-loop-i : goal.invariant-loop-i
invariant-loop-i g l =
    LengthSoFar (left_of g.S.Source l.initial.source) (left_of g.S.Source l.source) l.bytes l.i
    × (faults_of g.S.Source l.source ≡ faults_of g.S.Source l.initial.source)
    × (place_of g.S.Source l.source ≡ place_of g.S.Source l.initial.source)
