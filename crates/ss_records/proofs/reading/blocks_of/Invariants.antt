use Rattle.std.proofs.Common.{◌-◌}
use Rattle.ss_records.specs.Fields.{block_at, items_of}
use Rattle.ss_records.proofs.Items.{Reads}
use Rattle.ss_records.proofs.reading.blocks_of.Given as goal

abbrev pub invariant-loop : goal.invariant-loop
invariant-loop l =
    Reads block_at (items_of block_at l.count l.fields) l.blocks (l.count - l.counter) l.rest
