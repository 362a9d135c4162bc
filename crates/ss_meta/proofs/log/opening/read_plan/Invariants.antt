use Rattle.std.proofs.Common.{◌-◌, ◌<◌, ◌≤◌, IsTrue, List}
use Rattle.ss_gatelog.specs.Gate.{ReadsSame}
use Rattle.ss_records.specs.declared.record.Record.{Record}
use Rattle.ss_meta.specs.Opening.{IsSound, HasRead}
use Rattle.ss_meta.proofs.Faults.{IsQuiet}
use Rattle.ss_meta.proofs.log.opening.read_plan.Given as goal

abbrev pub invariant-loop-at : goal.invariant-loop-at
invariant-loop-at g l = record {
  same : ReadsSame l.fn.records l.records;
  known : l.records.size ≤ g.D.Disk.known l.disk 4;
  within : l.records.at < l.records.limit;
  sound : IsSound l.walk;
  read : (all : List Record) × (IsTrue g.D.Disk.told → HasRead g.D.Disk l.disk l.records l.walk.plan all);
  quiet : IsQuiet g.D.Disk l.fn.disk l.disk;
}

abbrev pub decreases-loop-at : goal.decreases-loop-at
decreases-loop-at g l = l.records.limit - l.records.at
