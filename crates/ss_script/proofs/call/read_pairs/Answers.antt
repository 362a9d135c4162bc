use Rattle.std.proofs.Common.{sym}
use Rattle.ss_script.specs.Fields.{cid_of, data_of}
use Rattle.ss_script.proofs.Fields.{field_read, first_read}
use Rattle.ss_script.proofs.Pairs.{pair_read}
use Rattle.ss_script.proofs.call.read_pairs.Goals as goal

pub loop-name-preserved : goal.loop-name-preserved
loop-name-preserved c = (
  tt,
  tt,
  pair_read _ _ _ c.loop-name.invariant.2 _ _ _ _ _ _ _ c.in-Some.ensures.steps c.in_ok-next_field.ensures.taken
      (field_read cid_of _ _ _ c.in_ok-not_empty.ensures c.in_ok-cid.ensures)
      (first_read data_of _ _ _ _ c.in_ok-next_field.ensures.field c.in_ok-next_field.ensures.taken (sym c.in_ok-block.ensures))
      (rw c.as_slice.ensures.value at c.in_ok-add.ensures.ok),
)
