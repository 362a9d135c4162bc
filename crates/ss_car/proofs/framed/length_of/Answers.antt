use Rattle.std.proofs.Common.{◌≡◌, ◌<◌, All, length, refl, sym, arith}
use Rattle.std.proofs.lemmas.List.Elements.{All-from_get_or}
use Rattle.ss_cid.specs.Varint.{varint}
use Rattle.ss_car.proofs.Lengths.{length-spelled, length-refused}
use Rattle.ss_car.proofs.framed.length_of.Goals as goal
use Rattle.ss_car.proofs.framed.length_of.Goals.{In-Ok}

spelled : (c : In-Ok) → (c.args.bytes.now ≡ varint c.in-Ok.len) × (c.in-Ok.count ≡ length c.args.bytes.now)
spelled c =
    let fits : All (λ b. b < 256) c.args.bytes.now = All-from_get_or (λ b. b < 256) c.args.bytes.now 0 (λ i _. omega (arith, c.type_inv.bytes i)) in
    length-spelled c.args.bytes.now c.requires c.in-Ok.len c.in-Ok.count fits (sym c.in-Ok.ensures.value)

pub returns-in-Ok-clause-spelled : goal.returns-in-Ok-clause-spelled
returns-in-Ok-clause-spelled c = (spelled c).0

pub returns-in-Ok-clause-count : goal.returns-in-Ok-clause-count
returns-in-Ok-clause-count c = (c.in-Ok.ensures.bounds.0, (spelled c).1)

pub returns-in-Err-clause-refused : goal.returns-in-Err-clause-refused
returns-in-Err-clause-refused c = (refl, length-refused c.args.bytes.now c.requires _ (sym c.in-Err.ensures.value))
