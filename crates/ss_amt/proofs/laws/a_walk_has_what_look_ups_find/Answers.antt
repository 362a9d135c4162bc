use Rattle.std.proofs.Common.{Ok, refl}
use Rattle.ss_amt.proofs.Agreeing.{values-agree}
use Rattle.ss_amt.proofs.laws.a_walk_has_what_look_ups_find.Goals as goal

pub returns : goal.returns
returns c held kept exposed root values walk index value = values-agree held kept exposed root (Ok values) walk values refl index value
