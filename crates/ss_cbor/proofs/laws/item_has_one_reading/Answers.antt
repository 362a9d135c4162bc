use Rattle.ss_cbor.proofs.Readings.{one_reading}
use Rattle.ss_cbor.proofs.laws.item_has_one_reading.Goals as goal

pub returns : goal.returns
returns c = one_reading
