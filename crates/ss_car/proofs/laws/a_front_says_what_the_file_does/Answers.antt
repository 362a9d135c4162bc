use Rattle.ss_car.proofs.Sections.{car-split}
use Rattle.ss_car.proofs.laws.a_front_says_what_the_file_does.Goals as goal

pub returns : goal.returns
returns c = car-split
