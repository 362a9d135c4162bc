use Rattle.std.proofs.Common.{sym, ◌∙◌}
use Rattle.ss_records.proofs.Cids.{cid_at-Ok, cid_at-Err}
use Rattle.ss_records.proofs.fields.hashed_cid_at.Goals as goal

pub returns-in-Ok-clause-value : goal.returns-in-Ok-clause-value
returns-in-Ok-clause-value c = (cid_at-Ok c.args.bytes.now _ _ c.in-Ok.ensures.value).0

pub returns-in-Err-clause-value : goal.returns-in-Err-clause-value
returns-in-Err-clause-value c = rw (cid_at-Err c.args.bytes.now c.in-Err.fault c.in-Err.ensures.value) c.cid_fault.ensures
