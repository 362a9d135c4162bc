use Rattle.ss_records.proofs.Blocks.{block_at-Ok}
use Rattle.ss_records.proofs.fields.block_at.Goals as goal

pub returns-clause-value : goal.returns-clause-value
returns-clause-value c =
    (block_at-Ok c.args.bytes.now c.in_ok-cid.cid c.in_ok-len.len c.in_ok-len.rest.now _ _ c.in_ok-cid.ensures.value c.in_ok-cid.ensures.within (rw (c.as_bytes.ensures.value, c.behind.ensures.value) at c.in_ok-len.ensures) c.in_ok-bytes_at.ensures).0

pub returns-clause-within : goal.returns-clause-within
returns-clause-within c =
    (block_at-Ok c.args.bytes.now c.in_ok-cid.cid c.in_ok-len.len c.in_ok-len.rest.now _ _ c.in_ok-cid.ensures.value c.in_ok-cid.ensures.within (rw (c.as_bytes.ensures.value, c.behind.ensures.value) at c.in_ok-len.ensures) c.in_ok-bytes_at.ensures).1
