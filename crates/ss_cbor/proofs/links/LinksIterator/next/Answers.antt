use Rattle.std.proofs.Common.{◌∙◌, sym}
use Rattle.ss_cbor.proofs.LinkRows.{links_nothing}
use Rattle.ss_cbor.proofs.links.LinksIterator.next.Goals as goal

pub returns-in-None-clause-steps : goal.returns-in-None-clause-steps
returns-in-None-clause-steps c = (sym c.self.view_is ∙ c.in-None.ensures.none, links_nothing)
