use Rattle.ss_hot.proofs.EachReading as each
use Rattle.ss_hot.proofs.laws.each_reading.Goals as goal

pub returns : goal.returns
returns c = each.each_reading
