use Rattle.std.proofs.Common.{◌≡◌, ◌<◌, ◌≤◌, ℕ, []}
use Rattle.std.specs.Prelude.{IsTrue}
use Rattle.ss_device.specs.Disk.{Files}
use Rattle.ss_device.specs.Calls.{Goes}
use Rattle.ss_gatelog.specs.Log.{HasList}
use Rattle.ss_open.specs.Opening.{KeepsFirst}
use Rattle.ss_open.proofs.making.empty_files.Given as goal

abbrev pub invariant-loop-file : goal.invariant-loop-file
invariant-loop-file g l = record {
  some : 1 ≤ l.file;
  faults : g.D.Disk.faults l.disk ≡ g.D.Disk.faults l.fn.disk;
  goes : Goes g.D.Disk KeepsFirst l.fn.disk l.disk;
  emptied : IsTrue g.D.Disk.told → (left : Files) → g.D.Disk.image l.disk (g.D.Disk.moment l.disk) left → (file : ℕ) → 1 ≤ file → file < l.file → HasList l.limit (left file) [];
}
