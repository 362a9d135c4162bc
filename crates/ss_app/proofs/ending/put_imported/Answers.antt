use Rattle.std.proofs.Common.{[], ◌∷◌, ◌++◌}
use Rattle.std.specs.Prelude.{codes}
use Rattle.ss_script.specs.Text.{numbers_text, height_text}
use Rattle.ss_script.proofs.Parts.{cut, after}
use Rattle.ss_app.proofs.ending.put_imported.Goals as goal

pub returns-in_err-put_numbers : goal.returns-in_err-put_numbers
returns-in_err-put_numbers g c =
    let i = c.args.imported in
    (cut _ (codes "imported" ++ numbers_text (i.sections ∷ [])) ((codes " new" ++ numbers_text (i.new ∷ [])) ++ ((codes " height" ++ height_text i.height) ++ codes "\n")) c.from_residual.ensures.0 c.in_err-put_numbers.ensures)

pub returns-in_err-put_numbers-2 : goal.returns-in_err-put_numbers-2
returns-in_err-put_numbers-2 g c =
    let i = c.args.imported in
    (after (codes "imported" ++ numbers_text (i.sections ∷ [])) _ c.in_ok-put_numbers.ensures
    (cut _ (codes " new" ++ numbers_text (i.new ∷ [])) ((codes " height" ++ height_text i.height) ++ codes "\n") c.from_residual-in_err-put_numbers-2.ensures.0 c.in_err-put_numbers-2.ensures))

pub returns-in_err-put_height : goal.returns-in_err-put_height
returns-in_err-put_height g c =
    let i = c.args.imported in
    (after (codes "imported" ++ numbers_text (i.sections ∷ [])) _ c.in_ok-put_numbers.ensures
    (after (codes " new" ++ numbers_text (i.new ∷ [])) _ c.in_ok-put_numbers-2.ensures
    (cut _ (codes " height" ++ height_text i.height) (codes "\n") c.from_residual-in_err-put_height.ensures.0 c.in_err-put_height.ensures)))

pub returns : goal.returns
returns g c =
    let i = c.args.imported in
    (after (codes "imported" ++ numbers_text (i.sections ∷ [])) _ c.in_ok-put_numbers.ensures
    (after (codes " new" ++ numbers_text (i.new ∷ [])) _ c.in_ok-put_numbers-2.ensures
    (after (codes " height" ++ height_text i.height) (codes "\n") c.in_ok-put_height.ensures (record { bytes = c.put.ensures.bytes; cause = c.put.ensures.cause }))))
