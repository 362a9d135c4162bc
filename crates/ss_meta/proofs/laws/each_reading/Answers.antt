use Rattle.ss_meta.proofs.EachReading as each
use Rattle.ss_meta.proofs.laws.each_reading.Goals as goal

pub returns : goal.returns
returns c limit file small some = each.each_reading limit file small (c.each_file.ensures limit file some)
