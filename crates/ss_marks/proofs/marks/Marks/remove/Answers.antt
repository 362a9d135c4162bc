use Rattle.std.proofs.Common.{◌≡◌, ◌+◌, ◌-◌, ◌<◌, None, length, refl, sym, ap, subst, ◌∙◌, arith}
use Rattle.std.specs.Prelude.{IsSome}
use Rattle.std.specs.FinMap as finite_map
use Rattle.ss_marks.specs.declared.colour.Colour.TheVariants.{White}
use Rattle.ss_marks.specs.Marks.{MarkTable}
use Rattle.ss_marks.specs.Rows.{row_at}
use Rattle.ss_marks.specs.Index.{IndexesOthers}
use Rattle.ss_marks.proofs.Changes.{recoloured_items}
use Rattle.ss_marks.proofs.Membership.{vacated_from, removed_sound, removed_marks}
use Rattle.ss_marks.proofs.Calls.{row_here, has_here, cid_here, colour_here, live_of_colour, some_live, linked_items}
use Rattle.ss_marks.proofs.marks.Marks.remove.Goals as goal

pub remove-requires-clause-live : goal.remove-requires-clause-live
remove-requires-clause-live c =
    subst (λ xs. IsSome (row_at xs c.args.row).colour) (sym c.as_slice.ensures.value)
    (has_here c.self.inside c.args.self.now c.self.view_is c.args.row c.requires.cid (cid_here c.self.inside c.args.self.now c.self.view_is c.args.row White c.requires)).live

pub remove-requires-clause-fits : goal.remove-requires-clause-fits
remove-requires-clause-fits c =
    let here = row_here c.self.inside c.args.self.now c.self.view_is c.args.row (live_of_colour c.self.inside c.args.self.now c.self.view_is c.args.row White c.requires) in
    omega (arith, c.self.invariant.rows, c.self.invariant.limit, c.self.invariant.small)

pub recolour-requires : goal.recolour-requires
recolour-requires c =
    subst (λ xs. c.args.row < length xs) (sym c.as_mut_slice.ensures.value)
    (row_here c.self.inside c.args.self.now c.self.view_is c.args.row (live_of_colour c.self.inside c.args.self.now c.self.view_is c.args.row White c.requires))

pub push-requires-clause-within : goal.push-requires-clause-within
push-requires-clause-within c =
    let here = row_here c.self.inside c.args.self.now c.self.view_is c.args.row (live_of_colour c.self.inside c.args.self.now c.self.view_is c.args.row White c.requires) in
    omega (arith, c.self.invariant.rows, c.self.invariant.links, ap length c.as_mut_slice-2.ensures.value)

pub push-requires-clause-fits : goal.push-requires-clause-fits
push-requires-clause-fits c =
    let some = some_live c.self.inside c.args.self.now c.self.view_is c.self.invariant c.args.row White c.requires in
    omega (arith, c.self.invariant.used, c.self.invariant.rows, c.self.invariant.limit, c.self.invariant.small)

pub overflow_sub-self : goal.overflow_sub-self
overflow_sub-self c = some_live c.self.inside c.args.self.now c.self.view_is c.self.invariant c.args.row White c.requires

pub invariant_of-self : goal.invariant_of-self
invariant_of-self c =
    let m = c.self.inside in
    let t = c.args.self.now in
    let row = c.args.row in
    let some = some_live m t c.self.view_is c.self.invariant row White c.requires in
    let here = row_here m t c.self.view_is row (live_of_colour m t c.self.view_is row White c.requires) in
    let items = recoloured_items m.rows c.recolour.new.rows c.as_mut_slice.result.now row None c.as_mut_slice.ensures.value c.recolour.ensures in
    let links = linked_items m.links c.push.new.links c.as_mut_slice-2.result.now row m.vacant.top c.as_mut_slice-2.ensures.value c.push.ensures.link in
    let vacated = vacated_from m.rows.items _ row here items in
    removed_sound m _ c.self.invariant row c.requires.cid vacated.others (has_here m t c.self.view_is row c.requires.cid (cid_here m t c.self.view_is row White c.requires))
    (colour_here m t c.self.view_is row White c.requires) vacated.gone vacated.long links refl (omega arith) refl refl
    (subst (λ xs. IndexesOthers xs row c.remove.new.self) c.as_slice.ensures.value c.remove.ensures.index) c.remove.ensures.slots c.remove.ensures.below
    c.push.ensures.len c.push.ensures.top refl

pub returns : goal.returns
returns c = λ cid is.
    let m = c.self.inside in
    let t = c.args.self.now in
    let row = c.args.row in
    let view = c.self.view_is in
    let sound = c.self.invariant in
    let some = some_live m t view sound row White c.requires in
    let here = row_here m t view row (live_of_colour m t view row White c.requires) in
    let items = recoloured_items m.rows c.recolour.new.rows c.as_mut_slice.result.now row None c.as_mut_slice.ensures.value c.recolour.ensures in
    let vacated = vacated_from m.rows.items _ row here items in
    let marks = removed_marks m.rows.items _ row cid vacated.others (has_here m t view row cid is) (colour_here m t view row White c.requires) vacated.gone vacated.long sound.distinct
    ∙ ap (λ (t : MarkTable). finite_map.remove t.marks cid) view in
    let spare_is = ap (λ (t : MarkTable). t.spare) view in
    let spare : length c.remove.new.self.heads.items - (m.live - 1) ≡ t.spare + 1 = omega (arith, c.remove.ensures.slots, sound.used, sound.rows) in
    λ i. record { marks = marks i; spare = spare i; limit = ap (λ (t : MarkTable). t.limit) view i }
