use Rattle.std.proofs.Common.{◌≡◌, ◌-◌, ◌<◌, IsTrue}
use Rattle.ss_device.specs.Disk.{Same}
use Rattle.ss_device.specs.Calls.{Goes}
use Rattle.ss_gatelog.specs.Gate.{Walked}
use Rattle.ss_gatelog.proofs.skim.skim.Given as goal

abbrev pub invariant-loop-piece : goal.invariant-loop-piece
invariant-loop-piece g l = record {
  in_file : l.at < l.size;
  in_limit : l.at < l.limit;
  reads : Goes g.D.Disk Same l.initial.disk l.disk;
  no_fault : g.D.Disk.faults l.disk ≡ g.D.Disk.faults l.initial.disk;
  walked : IsTrue g.D.Disk.told → Walked l.limit (g.D.Disk.files l.initial.disk l.file) l.at;
}

abbrev pub decreases-loop-piece : goal.decreases-loop-piece
decreases-loop-piece g l = l.size - l.at
