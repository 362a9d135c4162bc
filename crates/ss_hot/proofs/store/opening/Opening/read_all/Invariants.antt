use Rattle.std.proofs.Common.{◌-◌, IsTrue, List}
use Rattle.ss_records.specs.declared.record.Record.{Record}
use Rattle.ss_hot.specs.Opening.{AreBefore, IsUnderWay, HasRead, OpensSame}
use Rattle.ss_hot.proofs.Faults.{IsQuiet}
use Rattle.ss_hot.proofs.store.opening.Opening.read_all.Given as goal

abbrev pub invariant-loop-at : goal.invariant-loop-at
invariant-loop-at g l = record {
  under_way : IsUnderWay g.D.Disk l.disk l.self;
  before : AreBefore l.self.file l.self.walk.index l.self.records.at;
  same : OpensSame l.fn.self l.self;
  read : (records : List Record) → IsTrue g.D.Disk.told → HasRead g.D.Disk l.fn.disk l.fn.self records → (all : List Record) × HasRead g.D.Disk l.disk l.self all;
  quiet : IsQuiet g.D.Disk l.fn.disk l.disk;
}

abbrev pub decreases-loop-at : goal.decreases-loop-at
decreases-loop-at g l = l.self.records.limit - l.self.records.at
