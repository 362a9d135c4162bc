use Rattle.ss_car.proofs.Sections.{car-one}
use Rattle.ss_car.proofs.laws.a_car_says_one_thing.Goals as goal

pub returns : goal.returns
returns c = car-one
