use Rattle.std.proofs.Common.{◌≡◌, Some, length, get_or, sym, ap, subst, ◌∙◌, arith}
use Rattle.std.proofs.lemmas.List.{get_or_read, get_or_default}
use Rattle.ss_marks.specs.Rows.{no_row, slot_of}
use Rattle.ss_marks.specs.Index.{IsChained, slot_at, without_row}
use Rattle.ss_marks.proofs.Rows.{coloured_within, slot_at-live}
use Rattle.ss_marks.proofs.Joins.{removed, length_heads}
use Rattle.ss_marks.proofs.index.Index.remove.Goals as goal

pub slot_of-slot-requires : goal.slot_of-slot-requires
slot_of-slot-requires c =
    let rows = c.args.rows.now in
    let n = length c.args.self.now.heads.items in
    let in' = (c.requires.index.within c.args.row _ (slot_at-live rows n c.args.row c.requires.live)).1 in
    omega (arith, in', c.len.ensures, c.args.self.now.heads.ok.0)

pub returns-clause-index : goal.returns-clause-index
returns-clause-index c =
    let rows = c.args.rows.now in
    let row = c.args.row in
    let heads = c.args.self.now.heads.items in
    let below = c.args.self.now.below.items in
    let slot = c.slot_of-slot.result in
    let read = get_or_default rows row c.index-rows-row.result no_row (coloured_within rows row c.requires.live) in
    let count : c.len.result ≡ length heads = c.len.ensures ∙ c.args.self.now.heads.ok.0 in
    let here : slot_at rows (length heads) row ≡ Some slot =
    slot_at-live rows (length heads) row c.requires.live
    ∙ ap Some (ap (λ r. slot_of r.cid (length heads)) (sym read) ∙ ap (slot_of (get_or rows row c.index-rows-row.result).cid) (sym count) ∙ sym c.slot_of-slot.ensures.value) in
    let in' = c.requires.index.within row slot here in
    let link : c.index-below.result.now ≡ get_or below row 0 = get_or_read below row _ in'.0 c.index-below.ensures 0 in
    let done = removed (slot_at rows (length heads)) heads below slot row c.above-above.result c.above-above.ensures in'.1 in'.0 here c.requires.index
    c.set_pointer.new.self.heads.items c.set_pointer.new.self.below.items
    (rw (← link) c.set_pointer.ensures.heads) (rw (← link) c.set_pointer.ensures.below) in
    subst (λ n. IsChained (without_row row (slot_at rows n)) c.set_pointer.new.self.heads.items c.set_pointer.new.self.below.items)
    (sym (ap length c.set_pointer.ensures.heads ∙ length_heads c.above-above.result heads slot c.index-below.result.now))
    done
