use Rattle.std.proofs.Common.{◌≡◌, ◌<◌, Some, length, get_or, refl, sym, ap, subst, ◌∙◌, arith}
use Rattle.std.specs.Vec.{with_items}
use Rattle.ss_marks.specs.declared.colour.Colour.TheVariants.{Grey, Out}
use Rattle.ss_marks.specs.Marks.{MarkTable, NoneIs, coloured, mark_of}
use Rattle.ss_marks.specs.Rows.{row_at, marks_of, IsStack}
use Rattle.ss_marks.specs.Sound.{IsGrey}
use Rattle.ss_marks.proofs.Rows.{coloured_within}
use Rattle.ss_marks.proofs.Colours.{none_of_count}
use Rattle.ss_marks.proofs.Marked.{mark_of_row}
use Rattle.ss_marks.proofs.Stacks.{popped}
use Rattle.ss_marks.proofs.Changes.{recoloured_items, recoloured_from, recoloured_sound, recoloured_table, still_grey, live_of}
use Rattle.ss_marks.proofs.Calls.{one_more_fits, grey_top}
use Rattle.ss_marks.proofs.marks.Marks.pop_grey.Goals as goal

pub pop-requires : goal.pop-requires
pop-requires c = λ some.
    let m = c.self.inside in
    let here = grey_top m c.self.invariant some in
    let in' = coloured_within m.rows.items m.greys.top (live_of _ Grey here) in
    let long = ap length c.as_slice.ensures.value in
    omega (arith, c.self.invariant.rows, c.self.invariant.links)

pub returns-in_err-row : goal.returns-in_err-row
returns-in_err-row c =
    rw c.from_residual.ensures
    (subst (λ (t : MarkTable). NoneIs Grey t) c.self.view_is (none_of_count Grey (marks_of c.self.inside.rows.items) (sym c.self.invariant.grey ∙ c.in_err-row.ensures.0)), c.self.view_is)

pub recolour-requires : goal.recolour-requires
recolour-requires c =
    let m = c.self.inside in
    let pop = c.in_ok-row.ensures in
    let some : 0 < m.greys.len = omega (arith, pop.1) in
    let here : IsGrey m.rows.items c.in_ok-row.row = subst (λ r. IsGrey m.rows.items r) (sym pop.0) (grey_top m c.self.invariant some) in
    subst (λ xs. c.in_ok-row.row < length xs) (sym c.as_mut_slice.ensures.value) (coloured_within m.rows.items c.in_ok-row.row (live_of _ Grey here))

pub overflow_add-self : goal.overflow_add-self
overflow_add-self c =
    let m = c.self.inside in
    let row = c.in_ok-row.row in
    let pop = c.in_ok-row.ensures in
    let some : 0 < m.greys.len = omega (arith, pop.1) in
    let here : IsGrey m.rows.items row = subst (λ r. IsGrey m.rows.items r) (sym pop.0) (grey_top m c.self.invariant some) in
    let items = recoloured_items m.rows c.recolour.new.rows c.as_mut_slice.result.now row (Some Out) c.as_mut_slice.ensures.value c.recolour.ensures in
    let re = recoloured_from m.rows.items _ row (row_at m.rows.items row).cid Grey Out refl here items in
    omega (arith, one_more_fits m c.self.invariant _ row _ Grey Out re Out refl refl, c.self.invariant.out)

pub invariant_of-self-2 : goal.invariant_of-self-2
invariant_of-self-2 c =
    let m = c.self.inside in
    let row = c.in_ok-row.row in
    let pop = c.in_ok-row.ensures in
    let some : 0 < m.greys.len = omega (arith, pop.1) in
    let here : IsGrey m.rows.items row = subst (λ r. IsGrey m.rows.items r) (sym pop.0) (grey_top m c.self.invariant some) in
    let items = recoloured_items m.rows c.recolour.new.rows c.as_mut_slice.result.now row (Some Out) c.as_mut_slice.ensures.value c.recolour.ensures in
    let cid = (row_at m.rows.items row).cid in
    let re = recoloured_from m.rows.items _ row cid Grey Out refl here items in
    let top : c.pop.new.self.top ≡ get_or m.links.items m.greys.top 0 = pop.2 ∙ ap (λ xs. get_or xs row 0) c.as_slice.ensures.value ∙ ap (λ r. get_or m.links.items r 0) pop.0 in
    recoloured_sound m _ c.self.invariant row cid Grey Out re refl refl (λ k other. refl) refl refl refl refl
    (subst (λ x. IsStack (IsGrey (with_items m.rows c.recolour.new.rows).items) m.links.items c.pop.new.self.len x) (sym top)
    (popped (IsGrey m.rows.items) (IsGrey (with_items m.rows c.recolour.new.rows).items) m.links.items m.greys.len c.pop.new.self.len m.greys.top pop.1
    (λ k grey other. still_grey m.rows.items _ row cid Grey Out re k (λ e. other (e ∙ pop.0)) grey) c.self.invariant.greys))
    (omega (arith, pop.1)) (omega arith)

pub returns : goal.returns
returns c =
    let m = c.self.inside in
    let row = c.in_ok-row.row in
    let pop = c.in_ok-row.ensures in
    let some : 0 < m.greys.len = omega (arith, pop.1) in
    let here : IsGrey m.rows.items row = subst (λ r. IsGrey m.rows.items r) (sym pop.0) (grey_top m c.self.invariant some) in
    let items = recoloured_items m.rows c.recolour.new.rows c.as_mut_slice.result.now row (Some Out) c.as_mut_slice.ensures.value c.recolour.ensures in
    let cid = (row_at m.rows.items row).cid in
    let re = recoloured_from m.rows.items _ row cid Grey Out refl here items in
    record {
      cid = cid;
      was = subst (λ (t : MarkTable). mark_of t cid ≡ Some (record { row = row; colour = Grey })) c.self.view_is (mark_of_row m.rows.items c.self.invariant.distinct row cid Grey refl here);
      now = recoloured_table m _ row cid Grey Out c.self.invariant re ∙ ap (λ (x : MarkTable). coloured x cid row Out) c.self.view_is;
    }
