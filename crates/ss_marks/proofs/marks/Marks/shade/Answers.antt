use Rattle.std.proofs.Common.{◌<◌, Some, length, get_or, refl, sym, ap, subst, ◌∙◌, arith, length-set}
use Rattle.std.specs.Prelude.{option_map}
use Rattle.std.specs.Vec.{with_items}
use Rattle.std.proofs.lemmas.List.{get_or-set_other}
use Rattle.std.proofs.lemmas.Option.{same_Some}
use Rattle.ss_marks.specs.declared.colour.Colour.TheVariants.{White, Grey}
use Rattle.ss_marks.specs.Marks.{Mark, MarkTable, coloured, IsColoured}
use Rattle.ss_marks.specs.Rows.{IsStack}
use Rattle.ss_marks.specs.Sound.{IsGrey}
use Rattle.ss_marks.proofs.Changes.{recoloured_items, recoloured_sound, recoloured_table}
use Rattle.ss_marks.proofs.Calls.{row_here, change_at, cid_here, colour_here, linked_items, grey_pushed, one_more_fits, coloured_of}
use Rattle.ss_marks.proofs.marks.Marks.shade.Goals as goal

pub returns-in_default-clause-white : goal.returns-in_default-clause-white
returns-in_default-clause-white c = λ cid is.
    absurd (c.in_default.not-White (sym (same_Some White c.colour.result (sym (ap (option_map (λ (mark : Mark). mark.colour)) is) ∙ c.colour.ensures cid (ap (option_map (λ (mark : Mark). mark.row)) is)))))

pub recolour-requires : goal.recolour-requires
recolour-requires c =
    subst (λ xs. c.args.row < length xs) (sym c.as_mut_slice.ensures.value)
    (row_here c.self.inside c.args.self.now c.self.view_is c.args.row c.requires)

pub push-requires-clause-within : goal.push-requires-clause-within
push-requires-clause-within c =
    let m = c.self.inside in
    let here = row_here m c.args.self.now c.self.view_is c.args.row c.requires in
    let long = ap length c.as_mut_slice-2.ensures.value in
    omega (arith, c.self.invariant.rows, c.self.invariant.links)

pub push-requires-clause-fits : goal.push-requires-clause-fits
push-requires-clause-fits c =
    let m = c.self.inside in
    let t = c.args.self.now in
    let row = c.args.row in
    let white : IsColoured t row White = coloured_of t row c.requires.cid White c.requires.is (c.in-White.ensures c.requires.cid c.requires.is) in
    let items = recoloured_items m.rows c.recolour.new.rows c.as_mut_slice.result.now row (Some Grey) c.as_mut_slice.ensures.value c.recolour.ensures in
    let re = change_at m t c.self.view_is row _ White Grey c.requires.cid c.requires.is (colour_here m t c.self.view_is row White white) items in
    omega (arith, one_more_fits m c.self.invariant _ row c.requires.cid White Grey re Grey refl refl, c.self.invariant.grey)

pub invariant_of-self : goal.invariant_of-self
invariant_of-self c =
    let m = c.self.inside in
    let t = c.args.self.now in
    let row = c.args.row in
    let white : IsColoured t row White = coloured_of t row c.requires.cid White c.requires.is (c.in-White.ensures c.requires.cid c.requires.is) in
    let items = recoloured_items m.rows c.recolour.new.rows c.as_mut_slice.result.now row (Some Grey) c.as_mut_slice.ensures.value c.recolour.ensures in
    let re = change_at m t c.self.view_is row _ White Grey c.requires.cid c.requires.is (colour_here m t c.self.view_is row White white) items in
    let here = row_here m t c.self.view_is row c.requires in
    let in' : row < length m.links.items = omega (arith, c.self.invariant.rows, c.self.invariant.links) in
    let links = linked_items m.links c.push.new.links c.as_mut_slice-2.result.now row m.greys.top c.as_mut_slice-2.ensures.value c.push.ensures.link in
    recoloured_sound m _ c.self.invariant row c.requires.cid White Grey re refl (ap length links ∙ length-set m.links.items row m.greys.top)
    (λ k other. ap (λ xs. get_or xs k 0) links ∙ get_or-set_other m.links.items row k m.greys.top 0 other) refl refl refl refl
    (subst (λ x. IsStack (IsGrey (with_items m.rows c.recolour.new.rows).items) (with_items m.links c.push.new.links).items c.push.new.self.len x) (sym c.push.ensures.top)
    (grey_pushed m.rows.items _ row c.requires.cid White re refl m.links.items _ m.greys.len c.push.new.self.len m.greys.top in' links c.push.ensures.len c.self.invariant.greys))
    (omega (arith, c.push.ensures.len)) refl

pub returns-clause-white : goal.returns-clause-white
returns-clause-white c = λ cid is.
    let m = c.self.inside in
    let t = c.args.self.now in
    let row = c.args.row in
    let white : IsColoured t row White = record { cid = cid; is = is } in
    let items = recoloured_items m.rows c.recolour.new.rows c.as_mut_slice.result.now row (Some Grey) c.as_mut_slice.ensures.value c.recolour.ensures in
    let re = change_at m t c.self.view_is row _ White Grey cid (cid_here m t c.self.view_is row White white) (colour_here m t c.self.view_is row White white) items in
    recoloured_table m _ row cid White Grey c.self.invariant re
    ∙ ap (λ (x : MarkTable). coloured x cid row Grey) c.self.view_is

pub returns-clause-other : goal.returns-clause-other
returns-clause-other c = λ cid other is differs.
    absurd (differs (same_Some other White (sym (ap (option_map (λ (mark : Mark). mark.colour)) is) ∙ c.in-White.ensures cid (ap (option_map (λ (mark : Mark). mark.row)) is))))
