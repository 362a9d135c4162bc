use Rattle.std.proofs.Common.{◌≡◌, ◌+◌, ◌-◌, ◌<◌, ℕ, List, length}
use Rattle.std.specs.Prelude.{slice_range}
use Rattle.ss_gatelog.specs.Gate.{Walked}
use Rattle.ss_gatelog.proofs.skim.skim_piece.Given as goal

abbrev pub invariant-loop-offset : goal.invariant-loop-offset
invariant-loop-offset l = record {
  in_file : l.at + l.offset < l.size;
  in_limit : l.at + l.offset < l.limit;
  walked : (file : List ℕ) → length file ≡ l.size → l.piece ≡ slice_range file l.at (l.at + length l.piece) → Walked l.limit file l.at → Walked l.limit file (l.at + l.offset);
}

abbrev pub decreases-loop-offset : goal.decreases-loop-offset
decreases-loop-offset l = length l.piece - l.offset
