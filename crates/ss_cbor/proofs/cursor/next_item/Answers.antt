use Rattle.std.proofs.Common.{arith}
use Rattle.ss_cbor.proofs.Fronts.{part_CIDs, part_spelled}
use Rattle.ss_cbor.proofs.cursor.next_item.Goals as goal

pub item_of-item-requires : goal.item_of-item-requires
item_of-item-requires c = part_CIDs c.args.end c.args.bytes.now (λ i. omega (arith, c.type_inv.bytes i)) _ _ c.in-Ok.ensures.value

pub returns-in-Ok-clause-spelled : goal.returns-in-Ok-clause-spelled
returns-in-Ok-clause-spelled c =
    rw c.item_of-item.ensures (part_spelled c.args.end c.args.bytes.now (λ i. omega (arith, c.type_inv.bytes i)) _ _ c.in-Ok.ensures.value)
