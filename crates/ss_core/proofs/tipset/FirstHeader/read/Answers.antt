use Rattle.std.proofs.Common.{refl}
use Rattle.ss_chain.specs.Header.{fields}
use Rattle.ss_core.proofs.tipset.FirstHeader.read.Goals as goal

pub returns-clause-height : goal.returns-clause-height
returns-clause-height c = ((c.in-Some.ensures.is (fields c.in-Some.first)).0 refl).height_fits
