use Rattle.std.proofs.Common.{ap, arith, length}
use Rattle.ss_device.specs.Disk.{Changes, Torn, Same}
use Rattle.ss_device.specs.Calls.{Goes}
use Rattle.ss_device.proofs.Goes.{raises_up, then_same}
use Rattle.ss_gatelog.proofs.device.write_synced.Goals as goal

pub returns-clause-goes : goal.returns-clause-goes
returns-clause-goes g c =
    let write = c.write.ensures in
    let sync = c.sync.ensures in
    let wrote : Goes g.D.Disk (Changes c.args.file (Torn c.args.at (length c.args.bytes.now))) c.args.disk.now c.write.new.self = record {
      files = write.torn;
      images = write.images;
      known = raises_up _ _ _ _ c.in_ok-write.ensures.known;
      faults = write.cause.later;
      place = write.place;
    } in
    let synced : Goes g.D.Disk Same c.write.new.self c.sync.new.self = record {
      files = sync.reads;
      images = sync.images;
      known = λ file. omega (arith, ap (λ known. known file) sync.known);
      faults = sync.cause.later;
      place = sync.place;
    } in
    then_same g.D.Disk _ _ _ _ wrote synced
