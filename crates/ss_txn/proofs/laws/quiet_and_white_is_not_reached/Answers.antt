use Rattle.ss_txn.proofs.Quiet.{white_unreached}
use Rattle.ss_txn.proofs.laws.quiet_and_white_is_not_reached.Goals as goal

pub returns : goal.returns
returns c edge kept roots marks cid m quiet = white_unreached edge kept roots marks m quiet cid
