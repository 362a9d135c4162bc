use Rattle.std.proofs.Common.{◌<◌, Some, length, refl, sym, ap, subst, ◌∙◌, arith}
use Rattle.ss_marks.specs.declared.colour.Colour.TheVariants.{Out, Black}
use Rattle.ss_marks.specs.Marks.{MarkTable, coloured}
use Rattle.ss_marks.proofs.Changes.{recoloured_items, recoloured_sound, recoloured_table}
use Rattle.ss_marks.proofs.Calls.{row_here, live_of_colour, out_here, change_at, cid_here, colour_here, greys_stay}
use Rattle.ss_marks.proofs.marks.Marks.blacken.Goals as goal

pub recolour-requires : goal.recolour-requires
recolour-requires c =
    subst (λ xs. c.args.row < length xs) (sym c.as_mut_slice.ensures.value)
    (row_here c.self.inside c.args.self.now c.self.view_is c.args.row (live_of_colour c.self.inside c.args.self.now c.self.view_is c.args.row Out c.requires))

pub overflow_sub-self : goal.overflow_sub-self
overflow_sub-self c = out_here c.self.inside c.args.self.now c.self.view_is c.args.row c.self.invariant c.requires

pub invariant_of-self : goal.invariant_of-self
invariant_of-self c =
    let m = c.self.inside in
    let t = c.args.self.now in
    let row = c.args.row in
    let out = out_here m t c.self.view_is row c.self.invariant c.requires in
    let items = recoloured_items m.rows c.recolour.new.rows c.as_mut_slice.result.now row (Some Black) c.as_mut_slice.ensures.value c.recolour.ensures in
    let re = change_at m t c.self.view_is row _ Out Black c.requires.cid (cid_here m t c.self.view_is row Out c.requires) (colour_here m t c.self.view_is row Out c.requires) items in
    recoloured_sound m _ c.self.invariant row c.requires.cid Out Black re refl refl (λ k other. refl) refl refl refl refl
    (greys_stay m.rows.items _ row c.requires.cid Out Black re refl m.links.items m.greys.len m.greys.top c.self.invariant.greys) refl (omega arith)

pub returns : goal.returns
returns c = λ cid is.
    let m = c.self.inside in
    let t = c.args.self.now in
    let row = c.args.row in
    let items = recoloured_items m.rows c.recolour.new.rows c.as_mut_slice.result.now row (Some Black) c.as_mut_slice.ensures.value c.recolour.ensures in
    let re = change_at m t c.self.view_is row _ Out Black cid is (colour_here m t c.self.view_is row Out c.requires) items in
    recoloured_table m _ row cid Out Black c.self.invariant re
    ∙ ap (λ (x : MarkTable). coloured x cid row Black) c.self.view_is
