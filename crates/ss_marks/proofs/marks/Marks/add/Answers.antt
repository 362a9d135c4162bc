use Rattle.std.proofs.Common.{◌≡◌, ◌+◌, ◌-◌, ◌≤◌, length, refl, sym, ap, subst, ◌∙◌, arith}
use Rattle.std.specs.FinMap as finite_map
use Rattle.ss_marks.specs.declared.colour.Colour.TheVariants.{White}
use Rattle.ss_marks.specs.declared.row.Row.{Row}
use Rattle.ss_marks.specs.Marks.{MarkTable}
use Rattle.ss_marks.specs.Index.{IsChained, Indexes, slot_at, without_row}
use Rattle.ss_marks.specs.Rows.{IsStack, IsVacant}
use Rattle.ss_marks.proofs.Membership.{slots_without, added_sound, added_marks, not_live}
use Rattle.ss_marks.proofs.Calls.{absent_here, has_here}
use Rattle.ss_marks.proofs.marks.Marks.add.Goals as goal

pub insert-requires-clause-index : goal.insert-requires-clause-index
insert-requires-clause-index c =
    let m = c.self.inside in
    let n = length m.index.heads.items in
    let row = c.place_row-row.result in
    subst (λ xs. IsChained (without_row row (slot_at xs n)) m.index.heads.items m.index.below.items) (sym c.as_slice-2.ensures.value)
    (subst (λ f. IsChained f m.index.heads.items m.index.below.items)
    (slots_without m.rows.items c.place_row-row.new.rows.items row n c.place_row-row.ensures.was c.place_row-row.ensures.others) c.self.invariant.index)

pub invariant_of-self : goal.invariant_of-self
invariant_of-self c =
    let m = c.self.inside in
    let sound = c.self.invariant in
    let placed = c.place_row-row.ensures in
    let new = c.place_row-row.new.rows.items in
    let spare = ap (λ (t : MarkTable). t.spare) c.self.view_is in
    let fits : length new ≤ length m.index.heads.items = omega (arith, placed.count, placed.taken, sound.used, sound.rows, c.requires.room) in
    added_sound m _ sound c.place_row-row.result c.args.cid placed.others placed.was (ap (λ (x : Row). x.cid) placed.at) (ap (λ (x : Row). x.colour) placed.at)
    (absent_here m c.args.self.now c.self.view_is sound c.args.cid c.requires.absent) refl refl refl refl refl
    (subst (λ xs. Indexes xs c.insert.new.self) c.as_slice-2.ensures.value c.insert.ensures.index) c.insert.ensures.slots c.insert.ensures.below
    (subst (λ xs. IsStack (IsVacant new) xs c.place_row-row.new.vacant.len c.place_row-row.new.vacant.top) c.as_slice.ensures.value placed.vacant)
    placed.count fits placed.capacity

pub returns-clause-added : goal.returns-clause-added
returns-clause-added c =
    let m = c.self.inside in
    let placed = c.place_row-row.ensures in
    let view = c.self.view_is in
    let marks = added_marks m.rows.items c.place_row-row.new.rows.items c.place_row-row.result c.args.cid placed.others placed.was (ap (λ (x : Row). x.cid) placed.at) (ap (λ (x : Row). x.colour) placed.at)
    c.self.invariant.distinct (absent_here m c.args.self.now c.self.view_is c.self.invariant c.args.cid c.requires.absent)
    ∙ ap (λ (t : MarkTable). finite_map.insert t.marks c.args.cid (record { row = c.place_row-row.result; colour = White })) view in
    let spare_is = ap (λ (t : MarkTable). t.spare) view in
    let spare : length c.insert.new.self.heads.items - (m.live + 1) ≡ c.args.self.now.spare - 1 = omega (arith, c.insert.ensures.slots) in
    λ i. record { marks = marks i; spare = spare i; limit = ap (λ (t : MarkTable). t.limit) view i }

pub returns-clause-fresh : goal.returns-clause-fresh
returns-clause-fresh c = λ other is.
    not_live _ c.place_row-row.ensures.was (has_here c.self.inside c.args.self.now c.self.view_is c.place_row-row.result other is).live
