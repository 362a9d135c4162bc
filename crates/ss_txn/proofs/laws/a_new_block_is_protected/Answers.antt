use Rattle.ss_txn.proofs.Storing.{added_marked}
use Rattle.ss_txn.proofs.laws.a_new_block_is_protected.Goals as goal

pub returns : goal.returns
returns c edge kept roots old added new cid block row m absent is p = added_marked edge kept roots old added new cid block row absent is p m
