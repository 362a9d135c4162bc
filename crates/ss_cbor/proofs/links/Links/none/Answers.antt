use Rattle.ss_cbor.proofs.LinkRows.{links_nothing}
use Rattle.ss_cbor.proofs.links.Links.none.Goals as goal

pub returns : goal.returns
returns c = links_nothing
