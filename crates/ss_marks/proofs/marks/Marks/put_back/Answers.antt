use Rattle.std.proofs.Common.{◌<◌, Some, length, get_or, refl, sym, ap, subst, ◌∙◌, arith, length-set}
use Rattle.std.specs.Vec.{with_items}
use Rattle.std.proofs.lemmas.List.{get_or-set_other}
use Rattle.ss_marks.specs.declared.colour.Colour.TheVariants.{Grey, Out}
use Rattle.ss_marks.specs.Marks.{MarkTable, coloured}
use Rattle.ss_marks.specs.Rows.{IsStack}
use Rattle.ss_marks.specs.Sound.{IsGrey}
use Rattle.ss_marks.proofs.Changes.{recoloured_items, recoloured_sound, recoloured_table}
use Rattle.ss_marks.proofs.Calls.{row_here, live_of_colour, out_here, change_at, cid_here, colour_here, linked_items, grey_pushed, one_more_fits}
use Rattle.ss_marks.proofs.marks.Marks.put_back.Goals as goal

pub recolour-requires : goal.recolour-requires
recolour-requires c =
    subst (λ xs. c.args.row < length xs) (sym c.as_mut_slice.ensures.value)
    (row_here c.self.inside c.args.self.now c.self.view_is c.args.row (live_of_colour c.self.inside c.args.self.now c.self.view_is c.args.row Out c.requires))

pub push-requires-clause-within : goal.push-requires-clause-within
push-requires-clause-within c =
    let m = c.self.inside in
    let here = row_here m c.args.self.now c.self.view_is c.args.row (live_of_colour m c.args.self.now c.self.view_is c.args.row Out c.requires) in
    let long = ap length c.as_mut_slice-2.ensures.value in
    omega (arith, c.self.invariant.rows, c.self.invariant.links)

pub push-requires-clause-fits : goal.push-requires-clause-fits
push-requires-clause-fits c =
    let m = c.self.inside in
    let t = c.args.self.now in
    let row = c.args.row in
    let items = recoloured_items m.rows c.recolour.new.rows c.as_mut_slice.result.now row (Some Grey) c.as_mut_slice.ensures.value c.recolour.ensures in
    let re = change_at m t c.self.view_is row _ Out Grey c.requires.cid (cid_here m t c.self.view_is row Out c.requires) (colour_here m t c.self.view_is row Out c.requires) items in
    omega (arith, one_more_fits m c.self.invariant _ row c.requires.cid Out Grey re Grey refl refl, c.self.invariant.grey)

pub overflow_sub-self : goal.overflow_sub-self
overflow_sub-self c = out_here c.self.inside c.args.self.now c.self.view_is c.args.row c.self.invariant c.requires

pub invariant_of-self : goal.invariant_of-self
invariant_of-self c =
    let m = c.self.inside in
    let t = c.args.self.now in
    let row = c.args.row in
    let items = recoloured_items m.rows c.recolour.new.rows c.as_mut_slice.result.now row (Some Grey) c.as_mut_slice.ensures.value c.recolour.ensures in
    let re = change_at m t c.self.view_is row _ Out Grey c.requires.cid (cid_here m t c.self.view_is row Out c.requires) (colour_here m t c.self.view_is row Out c.requires) items in
    let out = out_here m t c.self.view_is row c.self.invariant c.requires in
    let here = row_here m t c.self.view_is row (live_of_colour m t c.self.view_is row Out c.requires) in
    let in' : row < length m.links.items = omega (arith, c.self.invariant.rows, c.self.invariant.links) in
    let links = linked_items m.links c.push.new.links c.as_mut_slice-2.result.now row m.greys.top c.as_mut_slice-2.ensures.value c.push.ensures.link in
    recoloured_sound m _ c.self.invariant row c.requires.cid Out Grey re refl (ap length links ∙ length-set m.links.items row m.greys.top)
    (λ k other. ap (λ xs. get_or xs k 0) links ∙ get_or-set_other m.links.items row k m.greys.top 0 other) refl refl refl refl
    (subst (λ x. IsStack (IsGrey (with_items m.rows c.recolour.new.rows).items) (with_items m.links c.push.new.links).items c.push.new.self.len x) (sym c.push.ensures.top)
    (grey_pushed m.rows.items _ row c.requires.cid Out re refl m.links.items _ m.greys.len c.push.new.self.len m.greys.top in' links c.push.ensures.len c.self.invariant.greys))
    (omega (arith, c.push.ensures.len)) (omega arith)

pub returns : goal.returns
returns c = λ cid is.
    let m = c.self.inside in
    let t = c.args.self.now in
    let row = c.args.row in
    let items = recoloured_items m.rows c.recolour.new.rows c.as_mut_slice.result.now row (Some Grey) c.as_mut_slice.ensures.value c.recolour.ensures in
    let re = change_at m t c.self.view_is row _ Out Grey cid is (colour_here m t c.self.view_is row Out c.requires) items in
    recoloured_table m _ row cid Out Grey c.self.invariant re
    ∙ ap (λ (x : MarkTable). coloured x cid row Grey) c.self.view_is
