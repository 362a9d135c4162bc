use Rattle.std.proofs.Common.{◌<◌, ◌-◌, length, sym, ap, subst, ◌∙◌, arith, eqb-true}
use Rattle.std.specs.Str.{bytes_eq}
use Rattle.std.proofs.lemmas.List.{get_or_read}
use Rattle.std.proofs.lemmas.Slice.Eq.{bytes_eq-Decides}
use Rattle.std.proofs.lemmas.Bool.{false≢true}
use Rattle.ss_marks.specs.Rows.{no_row, slot_of}
use Rattle.ss_marks.proofs.Rows.{slot_at-some, coloured_within}
use Rattle.ss_marks.proofs.Walks.{HasMissed, missed_next, found, none_without_slots}
use Rattle.ss_marks.proofs.index.Index.find.Goals as goal

pub returns-then-is_empty : goal.returns-then-is_empty
returns-then-is_empty c =
    none_without_slots c.args.rows.now c.args.self.now.heads.items c.args.self.now.below.items c.args.cid.now 0 c.requires
    (omega (arith, c.args.self.now.heads.ok.0, eqb-true _ _ (sym c.is_empty.ensures ∙ c.if-is_empty.true)))

pub returns-then-eq : goal.returns-then-eq
returns-then-eq c =
    let rows = c.args.rows.now in
    let last = c.loop-last.last in
    let n = length c.args.self.now.heads.items in
    let live = slot_at-some rows n (last - 1) (slot_of c.args.cid.now n) (c.loop-last.invariant.here c.loop-last-test.true) in
    let read = get_or_read rows (last - 1) _ (coloured_within rows (last - 1) live.0) c.index-rows-last.is no_row in
    found rows c.args.self.now.heads.items c.args.self.now.below.items c.args.cid.now last c.requires c.loop-last.invariant c.loop-last-test.true
    (ap (λ row. row.cid) (sym read) ∙ (bytes_eq-Decides c.index-rows-last.result.cid c.args.cid.now).0 (sym c.eq.ensures ∙ c.if-eq.true))

pub loop-last-preserved : goal.loop-last-preserved
loop-last-preserved c =
    let rows = c.args.rows.now in
    let heads = c.args.self.now.heads.items in
    let below = c.args.self.now.below.items in
    let last = c.loop-last.last in
    let live = slot_at-some rows (length heads) (last - 1) (slot_of c.args.cid.now (length heads)) (c.loop-last.invariant.here c.loop-last-test.true) in
    let read = get_or_read rows (last - 1) _ (coloured_within rows (last - 1) live.0) c.index-rows-last.is no_row in
    let bound = c.loop-last.invariant.bound in
    let some = c.loop-last-test.true in
    let in' : last - 1 < length below = omega arith in
    subst (λ x. HasMissed rows c.args.cid.now (length heads) (length below) x) (sym (get_or_read below (last - 1) _ in' c.index-last-in-loop-last.ensures 0))
    (missed_next rows heads below c.args.cid.now last c.requires c.loop-last.invariant some
    (λ same. false≢true (sym c.if-eq.false ∙ c.eq.ensures ∙ (bytes_eq-Decides c.index-rows-last.result.cid c.args.cid.now).1 (ap (λ row. row.cid) read ∙ same))))
