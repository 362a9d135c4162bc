use Rattle.std.proofs.Common.{◌-◌}
use Rattle.ss_records.specs.Fields.{allowed_cid_at, items_of}
use Rattle.ss_records.proofs.Items.{Reads}
use Rattle.ss_records.proofs.reading.cids_of.Given as goal

abbrev pub invariant-loop : goal.invariant-loop
invariant-loop l =
    Reads (allowed_cid_at l.allowed) (items_of (allowed_cid_at l.allowed) l.count l.fields) l.cids (l.count - l.counter) l.rest
