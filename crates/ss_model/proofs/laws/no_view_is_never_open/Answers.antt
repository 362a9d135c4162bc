use Rattle.std.proofs.Common.{arith}
use Rattle.ss_model.proofs.Proper.{past_the_views}
use Rattle.ss_model.proofs.laws.no_view_is_never_open.Goals as goal

pub returns : goal.returns
returns c s proper = past_the_views s 4294967295 proper (omega arith)
