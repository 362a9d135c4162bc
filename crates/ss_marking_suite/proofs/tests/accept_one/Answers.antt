use Rattle.ss_marks.specs.declared.colour.Colour.TheVariants.{Grey, Out}
use Rattle.ss_marks.proofs.Using.{recolours_now}
use Rattle.ss_marking_suite.proofs.tests.accept_one.Goals as goal

pub accept-requires : goal.accept-requires
accept-requires c = record { out = recolours_now _ c.pop_grey.new.self c.in-Some.row Grey Out c.in-Some.ensures }
