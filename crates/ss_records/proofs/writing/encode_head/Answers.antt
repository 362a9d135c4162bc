use Rattle.std.proofs.Common.{◌≡◌, [], ◌∷◌, length}
use Rattle.std.specs.Int.{w8, w64}
use Rattle.ss_records.specs.Record.{number, row, spelling}
use Rattle.ss_records.specs.declared.record.Record.TheVariants.{Head}
use Rattle.ss_records.proofs.Frames.{three}
use Rattle.ss_records.proofs.writing.encode_head.Goals as goal

pub returns : goal.returns
unfolding spelling
returns c =
    let cids = c.args.cids.now in
    let body : c.push_cids.new.out.items ≡ 0 ∷ 0 ∷ 0 ∷ 0 ∷ spelling (Head c.args.height cids) =
    rw (c.in_ok-push_cids.ensures, c.in_ok-push_u64.ensures, c.in_ok-push_u8.ensures, c.in_ok-out.ensures, c.len.ensures.value)
    (three (0 ∷ 0 ∷ 0 ∷ 0 ∷ 5 ∷ []) (number w8 (length cids)) (number w64 c.args.height) (row cids)) in
    rw body at c.finish.ensures
