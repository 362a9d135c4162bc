use Rattle.ss_hash.specs.declared.fault.HashFault.TheVariants.{UnknownHash, NotIdentity}
use Rattle.ss_hash.proofs.Digests.{carried}
use Rattle.ss_hash.proofs.block.check.Goals as goal

pub returns-in-Err-clause-unknown : goal.returns-in-Err-clause-unknown
returns-in-Err-clause-unknown c = λ code. carried c.in-Err.fault (UnknownHash code) (c.in-Err.ensures.unknown code)

pub returns-in-Err-clause-not_identity : goal.returns-in-Err-clause-not_identity
returns-in-Err-clause-not_identity c = λ at. carried c.in-Err.fault (NotIdentity at) (c.in-Err.ensures.not_identity at)
