use Rattle.std.proofs.Common.{◌≡◌, [], ◌∷◌, sym, ap, ◌∙◌}
use Rattle.std.specs.Int.{w8, w32, w64}
use Rattle.ss_records.specs.Record.{number, spelling, mode_number}
use Rattle.ss_records.specs.declared.record.Record.TheVariants.{Config}
use Rattle.ss_records.proofs.Frames.{seven}
use Rattle.ss_records.proofs.writing.encode_config.Goals as goal
use Rattle.ss_records.proofs.writing.encode_config.Goals.{in-Discard, in-Universal}

pub returns : goal.returns
unfolding spelling
returns c =
    let mode : c.match-config.mode ≡ mode_number c.args.config.now.mode =
    elim c.match-config.branch [
      | in-Discard w ↦ w.mode-is ∙ sym (ap mode_number w.in-Discard.is)
      | in-Universal w ↦ w.mode-is ∙ sym (ap mode_number w.in-Universal.is)
    ] in
    let s = c.args.config.now in
    let body : c.push_u64-3.new.out.items ≡ 0 ∷ 0 ∷ 0 ∷ 0 ∷ spelling (Config s) =
    rw (
      c.in_ok-push_u64-3.ensures,
      c.in_ok-push_u32-2.ensures,
      c.in_ok-push_u32.ensures,
      c.in_ok-push_u64-2.ensures,
      c.in_ok-push_u64.ensures,
      c.in_ok-push_u8-2.ensures,
      c.in_ok-push_u8.ensures,
      c.in_ok-out.ensures,
      mode,
    )
    (seven (0 ∷ 0 ∷ 0 ∷ 0 ∷ 1 ∷ []) (number w8 1) (number w8 (mode_number s.mode)) (number w64 s.depth) (number w64 s.threshold)
    (number w32 s.batch) (number w32 s.rows) (number w64 s.limit)) in
    rw body at c.finish.ensures
