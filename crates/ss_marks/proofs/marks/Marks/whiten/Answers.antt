use Rattle.std.proofs.Common.{refl, ap, ◌∙◌}
use Rattle.std.specs.Prelude.{option_map}
use Rattle.std.specs.FinMap as finite_map
use Rattle.ss_marks.specs.Marks.{MarkTable, mark_of, whitened}
use Rattle.ss_marks.specs.Rows.{marks_of}
use Rattle.ss_marks.proofs.Whitened.{whitened_items, whitened_sound, white_marks}
use Rattle.ss_marks.proofs.marks.Marks.whiten.Goals as goal

pub invariant_of-self : goal.invariant_of-self
invariant_of-self c =
    let m = c.self.inside in
    let items = whitened_items m.rows c.whiten.new.rows c.as_mut_slice.result.now c.as_mut_slice.ensures.value c.whiten.ensures in
    whitened_sound m _ c.self.invariant items refl refl refl refl c.new-self-inside.ensures refl refl refl

pub returns-clause-white : goal.returns-clause-white
returns-clause-white c = λ cid.
    let m = c.self.inside in
    let items = whitened_items m.rows c.whiten.new.rows c.as_mut_slice.result.now c.as_mut_slice.ensures.value c.whiten.ensures in
    ap (λ xs. finite_map.get (marks_of xs) cid) items
    ∙ white_marks m.rows.items c.self.invariant.distinct cid
    ∙ ap (λ (t : MarkTable). option_map whitened (mark_of t cid)) c.self.view_is
