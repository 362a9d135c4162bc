use Rattle.std.proofs.Common.{◌≡◌, ◌++◌, take}
use Rattle.std.specs.List.{flat_map}
use Rattle.ss_car.specs.Writing.{link_bytes}
use Rattle.ss_car.proofs.writer.write_links.Given as goal

abbrev pub invariant-loop-cid : goal.invariant-loop-cid
invariant-loop-cid l = l.header ≡ l.fn.header ++ flat_map link_bytes (take l.cid-index l.cids)
