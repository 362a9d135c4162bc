use Rattle.std.proofs.Common.{◌≡◌, ◌++◌, take}
use Rattle.ss_records.specs.Record.{row}
use Rattle.ss_records.proofs.writing.push_cids.Given as goal

abbrev pub invariant-loop-cid : goal.invariant-loop-cid
invariant-loop-cid l = l.out.items ≡ l.fn.out.items ++ row (take l.cid-index l.cids)
