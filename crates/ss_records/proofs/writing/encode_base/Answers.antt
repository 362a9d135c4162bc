use Rattle.std.proofs.Common.{◌≡◌, ◌∷◌, refl}
use Rattle.ss_records.specs.Record.{spelling}
use Rattle.ss_records.specs.declared.record.Record.TheVariants.{Base}
use Rattle.ss_records.proofs.writing.encode_base.Goals as goal

pub returns : goal.returns
unfolding spelling
returns c =
    let body : c.push_u64-2.new.out.items ≡ 0 ∷ 0 ∷ 0 ∷ 0 ∷ spelling (Base c.args.base c.args.ended) =
    rw (c.in_ok-push_u64-2.ensures, c.in_ok-push_u64.ensures, c.in_ok-out.ensures) refl in
    rw body at c.finish.ensures
