use Rattle.std.proofs.Common.{◌≡◌, ℕ, ◌-◌, ◌^◌, List, Option}
use Rattle.ss_car.specs.Bodies.{taken_of, input_faults, input_place}
use Rattle.ss_import.specs.Steps.{IsBetween, Reading}
use Rattle.ss_import.proofs.importer.Importer.read_sections.Given as goal

abbrev pub invariant-loop : goal.invariant-loop
invariant-loop g l = record {
  between : IsBetween l.self l.reader;
  reading : (input : Option (List ℕ)) (was : g.row.D.Denot) → Reading g.S.Source input was l.fn.self l.fn.reader → Reading g.S.Source input was l.self l.reader;
  faults : input_faults g.S.Source l.reader ≡ input_faults g.S.Source l.fn.reader;
  place : input_place g.S.Source l.reader ≡ input_place g.S.Source l.fn.reader;
}

abbrev pub decreases-loop : goal.decreases-loop
decreases-loop g l = 2 ^ 40 - taken_of l.reader
