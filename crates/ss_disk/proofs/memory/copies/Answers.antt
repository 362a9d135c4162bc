use Rattle.std.proofs.Common.{refl, ◌∷◌, []}
use Rattle.ss_disk.proofs.Images.{each_of_six, copies_of_six}
use Rattle.ss_disk.proofs.memory.copies.Goals as goal

pub returns : goal.returns
returns c =
    let files = c.in_ok-copy.field-0 ∷ c.in_ok-copy-2.field-0 ∷ c.in_ok-copy-3.field-0 ∷ c.in_ok-copy-4.field-0 ∷ c.in_ok-copy-5.field-0 ∷ c.in_ok-copy-6.field-0 ∷ [] in
    copies_of_six files c.args.files.now refl c.requires (each_of_six _ c.in_ok-copy.ensures c.in_ok-copy-2.ensures c.in_ok-copy-3.ensures c.in_ok-copy-4.ensures c.in_ok-copy-5.ensures c.in_ok-copy-6.ensures)
