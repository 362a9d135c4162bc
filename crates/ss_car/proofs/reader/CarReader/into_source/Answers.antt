use Rattle.std.proofs.Common.{subst}
use Rattle.std.specs.Io.KnownBytes.{IsAtEnd}
use Rattle.ss_io.proofs.Buffers.{IsAtEnd-after}
use Rattle.ss_car.proofs.reader.CarReader.into_source.Goals as goal

pub returns-clause-left : goal.returns-clause-left
returns-clause-left g c ended = IsAtEnd-after _ _ (subst IsAtEnd c.into_inner.ensures.left ended)
