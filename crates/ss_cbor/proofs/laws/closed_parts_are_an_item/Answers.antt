use Rattle.ss_cbor.proofs.Readings.{closed_items}
use Rattle.ss_cbor.proofs.laws.closed_parts_are_an_item.Goals as goal

pub returns : goal.returns
returns c = closed_items 1
