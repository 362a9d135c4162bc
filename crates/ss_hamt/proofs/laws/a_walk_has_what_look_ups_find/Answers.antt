use Rattle.ss_hamt.proofs.Agreeing.{found-is-listed}
use Rattle.ss_hamt.proofs.laws.a_walk_has_what_look_ups_find.Goals as goal

pub returns : goal.returns
returns c held kept exposed root pairs walk key value get = found-is-listed held kept exposed key value root pairs walk get
