use Rattle.std.proofs.Common.{◌≡◌, [], ◌++◌, refl, sym, ap, ◌∙◌, append_assoc, rules}
use Rattle.std.proofs.lemmas.List.{take-append-drop}
use Rattle.hex.specs.Hex.{encode_with}
use Rattle.ss_io.proofs.Told.{Appends-none, Keeps-same}
use Rattle.ss_script.proofs.Parts.{cut, after, digits_of_parts, digits_at}
use Rattle.ss_script.proofs.text.put_digits.Goals as goal

pub loop-rest-init : goal.loop-rest-init
unfolding encode_with
loop-rest-init g c = ([], refl, record { bytes = Appends-none _ _ (Keeps-same _); cause = search rules })

pub returns-in_err-put_piece : goal.returns-in_err-put_piece
returns-in_err-put_piece g c =
    let i = c.loop-rest.invariant in
    let parts : c.loop-rest.rest.now ≡ c.split_at.result.0.now ++ c.split_at.result.1.now = rw (c.split_at.ensures.front, c.split_at.ensures.back, take-append-drop) refl in
    rw (digits_at c.args.bytes.now i.0 c.loop-rest.rest.now c.split_at.result.0.now c.split_at.result.1.now i.1 parts)
    (after _ _ i.2 (cut _ _ _ c.from_residual.ensures.0 c.in_err-put_piece.ensures))

pub loop-rest-preserved : goal.loop-rest-preserved
loop-rest-preserved g c =
    let i = c.loop-rest.invariant in
    let parts : c.loop-rest.rest.now ≡ c.split_at.result.0.now ++ c.split_at.result.1.now = rw (c.split_at.ensures.front, c.split_at.ensures.back, take-append-drop) refl in (
      i.0 ++ c.split_at.result.0.now,
      i.1 ∙ ap (λ l. i.0 ++ l) parts ∙ sym (append_assoc i.0 c.split_at.result.0.now c.split_at.result.1.now),
      rw (digits_of_parts i.0 c.split_at.result.0.now) (after _ _ i.2 c.in_ok-put_piece.ensures),
    )
