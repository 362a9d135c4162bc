use Rattle.std.proofs.Common.{◌≡◌, ◌∷◌, refl}
use Rattle.ss_records.specs.Record.{spelling}
use Rattle.ss_records.specs.declared.record.Record.TheVariants.{Put}
use Rattle.ss_records.proofs.writing.encode_put.Goals as goal

pub returns : goal.returns
unfolding spelling
returns c =
    let body : c.push_blocks.new.out.items ≡ 0 ∷ 0 ∷ 0 ∷ 0 ∷ spelling (Put c.args.blocks.now) =
    rw (c.in_ok-push_blocks.ensures, c.in_ok-push_u16.ensures, c.in_ok-out.ensures, c.len.ensures.value) refl in
    rw body at c.finish.ensures
