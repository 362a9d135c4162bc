use Rattle.std.proofs.Common.{[]}
use Rattle.std.specs.FinMap as map
use Rattle.ss_txn.proofs.Storing.{gone_marked, gone_quiet}
use Rattle.ss_txn.proofs.laws.a_white_block_may_go.Goals as goal

pub returns-clause-marked : goal.returns-clause-marked
returns-clause-marked c edge kept roots old new cid m quiet white is = gone_marked edge kept roots old new cid is m quiet white

pub returns-clause-quiet : goal.returns-clause-quiet
returns-clause-quiet c old new cid quiet is = gone_quiet 0 map.empty [] old new cid is quiet
