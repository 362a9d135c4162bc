use Rattle.std.proofs.Common.{sym}
use Rattle.std.proofs.lemmas.List.{take_rest}
use Rattle.ss_script.proofs.Splits.{split_at_place, split_at_none}
use Rattle.ss_script.proofs.pieces.split_first.Goals as goal

pub returns-in-Some : goal.returns-in-Some
returns-in-Some c = rw take_rest (split_at_place _ _ _ (sym c.in-Some.ensures.first))

pub returns-in-None : goal.returns-in-None
returns-in-None c = split_at_none _ _ (sym c.in-None.ensures.first)
