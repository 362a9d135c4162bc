use Rattle.std.proofs.Common.{sym, ap, subst, ◌∙◌, is_some}
use Rattle.std.proofs.lemmas.Bool.{eqb-true}
use Rattle.ss_txn.specs.declared.scan_reply.ScanReply.TheVariants as reply
use Rattle.ss_txn.specs.Marked.{Scans}
use Rattle.ss_txn.proofs.Following.{known_row}
use Rattle.ss_txn.proofs.Shading.{colour_in}
use Rattle.ss_txn.proofs.Marking.{row_in}
use Rattle.ss_txn.proofs.Scanning.{ProtectsFrom, from_found, from_none, popped_of, popped_live, out_when_read, out_when_unread, scans_by, unscanned_by, scan_marked, scan_rows}
use Rattle.ss_txn.proofs.transaction.Txn.scan_one.Goals as goal
use Rattle.ss_txn.proofs.transaction.Txn.scan_one.Goals.{then-may_have_links+in-Found, else-may_have_links}

pub cid-cid-requires : goal.cid-cid-requires
cid-cid-requires g c = popped_live c.in-Some.row c.args.marks.now c.pop_grey.new.self c.in-Some.ensures

pub unreachable-requires : goal.unreachable-requires
unreachable-requires g c =
    let known = known_row (g.B.Blocks.holds c.args.blocks.now) c.cid-cid.result (sym (c.requires.stored c.cid-cid.result) ∙ ap is_some (ap row_in (popped_of c.cid-cid.result c.in-Some.row c.args.marks.now c.pop_grey.new.self c.in-Some.ensures c.cid-cid.ensures.only).was)) in
    absurd (let differ : ⊥ = cc (known, c.in-NotFound.ensures.not_found) in differ)

pub put_back-requires : goal.put_back-requires
put_back-requires g c = out_when_unread c.self.inside.edge (g.B.Blocks.told c.args.blocks.now) c.cid-cid.result c.in-Some.row c.args.marks.now c.pop_grey.new.self (popped_of c.cid-cid.result c.in-Some.row c.args.marks.now c.pop_grey.new.self c.in-Some.ensures c.cid-cid.ensures.only)

pub returns-in-Fault-clause-did : goal.returns-in-Fault-clause-did
returns-in-Fault-clause-did g c = unscanned_by c.self.inside.edge (g.B.Blocks.told c.args.blocks.now) c.cid-cid.result c.in-Some.row c.args.marks.now c.pop_grey.new.self (popped_of c.cid-cid.result c.in-Some.row c.args.marks.now c.pop_grey.new.self c.in-Some.ensures c.cid-cid.ensures.only) c.put_back.new.self c.put_back.ensures

pub returns-in-Fault-clause-rows : goal.returns-in-Fault-clause-rows
returns-in-Fault-clause-rows g c = scan_rows c.args.self.now (g.B.Blocks.told c.args.blocks.now) c.args.marks.now c.put_back.new.self reply.Fault (returns-in-Fault-clause-did g c)

pub returns-in-Fault-clause-marked : goal.returns-in-Fault-clause-marked
returns-in-Fault-clause-marked g c = scan_marked c.args.self.now (g.B.Blocks.told c.args.blocks.now) c.args.marks.now c.put_back.new.self reply.Fault (returns-in-Fault-clause-did g c)

pub returns-in-Fault-clause-unfetched : goal.returns-in-Fault-clause-unfetched
returns-in-Fault-clause-unfetched g c none = absurd (none c.cid-cid.result (ap colour_in (popped_of c.cid-cid.result c.in-Some.row c.args.marks.now c.pop_grey.new.self c.in-Some.ensures c.cid-cid.ensures.only).was) (eqb-true _ _ (sym c.if-may_have_links.ensures)))

pub put_back-requires-in-NoMemory : goal.put_back-requires-in-NoMemory
put_back-requires-in-NoMemory g c = out_when_unread c.self.inside.edge (g.B.Blocks.told c.args.blocks.now) c.cid-cid.result c.in-Some.row c.args.marks.now c.pop_grey.new.self (popped_of c.cid-cid.result c.in-Some.row c.args.marks.now c.pop_grey.new.self c.in-Some.ensures c.cid-cid.ensures.only)

pub returns-in-NoMemory-clause-did : goal.returns-in-NoMemory-clause-did
returns-in-NoMemory-clause-did g c = unscanned_by c.self.inside.edge (g.B.Blocks.told c.args.blocks.now) c.cid-cid.result c.in-Some.row c.args.marks.now c.pop_grey.new.self (popped_of c.cid-cid.result c.in-Some.row c.args.marks.now c.pop_grey.new.self c.in-Some.ensures c.cid-cid.ensures.only) c.put_back-in-NoMemory.new.self c.put_back-in-NoMemory.ensures

pub returns-in-NoMemory-clause-rows : goal.returns-in-NoMemory-clause-rows
returns-in-NoMemory-clause-rows g c = scan_rows c.args.self.now (g.B.Blocks.told c.args.blocks.now) c.args.marks.now c.put_back-in-NoMemory.new.self reply.NoMemory (returns-in-NoMemory-clause-did g c)

pub returns-in-NoMemory-clause-marked : goal.returns-in-NoMemory-clause-marked
returns-in-NoMemory-clause-marked g c = scan_marked c.args.self.now (g.B.Blocks.told c.args.blocks.now) c.args.marks.now c.put_back-in-NoMemory.new.self reply.NoMemory (returns-in-NoMemory-clause-did g c)

pub returns-in-NoMemory-clause-unfetched : goal.returns-in-NoMemory-clause-unfetched
returns-in-NoMemory-clause-unfetched g c none = absurd (none c.cid-cid.result (ap colour_in (popped_of c.cid-cid.result c.in-Some.row c.args.marks.now c.pop_grey.new.self c.in-Some.ensures c.cid-cid.ensures.only).was) (eqb-true _ _ (sym c.if-may_have_links.ensures)))

pub blacken-requires : goal.blacken-requires
blacken-requires g c =
    out_when_read c.self.inside.edge (g.B.Blocks.told c.args.blocks.now) c.cid-cid.result c.in-Some.row c.args.marks.now c.pop_grey.new.self (popped_of c.cid-cid.result c.in-Some.row c.args.marks.now c.pop_grey.new.self c.in-Some.ensures c.cid-cid.ensures.only) c.if-may_have_links.marks
    (elim c.if-may_have_links.branch [
      | then-may_have_links+in-Found w ↦ subst (λ m. ProtectsFrom c.self.inside.edge (g.B.Blocks.told c.args.blocks.now) c.cid-cid.result c.pop_grey.new.self m) (sym w.marks-is)
          (from_found c.self.inside.edge (g.B.Blocks.told c.args.blocks.now) c.cid-cid.result c.pop_grey.new.self w.protect_followed.new.marks w.in-Found.block w.as_slice.result.now w.in-Found.ensures.found w.as_slice.ensures.value w.protect_followed.ensures)
      | else-may_have_links w ↦ from_none c.self.inside.edge (g.B.Blocks.told c.args.blocks.now) c.cid-cid.result c.pop_grey.new.self c.if-may_have_links.marks (sym w.if-may_have_links.ensures) w.marks-is
    ])

pub returns-clause-did : goal.returns-clause-did
returns-clause-did g c =
    subst (λ edge. Scans edge (g.B.Blocks.told c.args.blocks.now) c.args.marks.now c.blacken.new.self) c.self.view_is
    (scans_by c.self.inside.edge (g.B.Blocks.told c.args.blocks.now) c.cid-cid.result c.in-Some.row c.args.marks.now c.pop_grey.new.self (popped_of c.cid-cid.result c.in-Some.row c.args.marks.now c.pop_grey.new.self c.in-Some.ensures c.cid-cid.ensures.only) c.if-may_have_links.marks
    (elim c.if-may_have_links.branch [
      | then-may_have_links+in-Found w ↦ subst (λ m. ProtectsFrom c.self.inside.edge (g.B.Blocks.told c.args.blocks.now) c.cid-cid.result c.pop_grey.new.self m) (sym w.marks-is)
          (from_found c.self.inside.edge (g.B.Blocks.told c.args.blocks.now) c.cid-cid.result c.pop_grey.new.self w.protect_followed.new.marks w.in-Found.block w.as_slice.result.now w.in-Found.ensures.found w.as_slice.ensures.value w.protect_followed.ensures)
      | else-may_have_links w ↦ from_none c.self.inside.edge (g.B.Blocks.told c.args.blocks.now) c.cid-cid.result c.pop_grey.new.self c.if-may_have_links.marks (sym w.if-may_have_links.ensures) w.marks-is
    ])
    c.blacken.new.self c.blacken.ensures)

pub returns-clause-rows : goal.returns-clause-rows
returns-clause-rows g c = scan_rows c.args.self.now (g.B.Blocks.told c.args.blocks.now) c.args.marks.now c.blacken.new.self reply.Scanned (returns-clause-did g c)

pub returns-clause-marked : goal.returns-clause-marked
returns-clause-marked g c = scan_marked c.args.self.now (g.B.Blocks.told c.args.blocks.now) c.args.marks.now c.blacken.new.self reply.Scanned (returns-clause-did g c)

pub returns-clause-unfetched : goal.returns-clause-unfetched
returns-clause-unfetched g c none = elim c.if-may_have_links.branch [
  | then-may_have_links+in-Found w ↦ absurd (none c.cid-cid.result (ap colour_in (popped_of c.cid-cid.result c.in-Some.row c.args.marks.now c.pop_grey.new.self c.in-Some.ensures c.cid-cid.ensures.only).was) (eqb-true _ _ (sym w.if-may_have_links.ensures)))
  | else-may_have_links w ↦ w.blocks-is
]
