use Rattle.std.proofs.Common.{◌≡◌, List, ℕ, sym, ap, subst, ◌∙◌}
use Rattle.ss_marks.specs.declared.colour.Colour.TheVariants.{Out}
use Rattle.ss_marks.specs.Marks.{mark_of}
use Rattle.ss_txn.specs.Marked.{Blackens}
use Rattle.ss_txn.proofs.Marking.{row_in, blackens_marked, blackens_rows}
use Rattle.ss_txn.proofs.Blackening.{out_after, blackens_out, out_is_shaded}
use Rattle.ss_txn.proofs.transaction.Txn.accept.Goals as goal

pub blacken-requires : goal.blacken-requires
blacken-requires c = out_after c.self.inside.edge c.as_slice.result.now c.args.row c.args.marks.now c.protect_each.new.marks c.args.marks.now c.protect_each.ensures c.requires.out

pub returns-clause-blackened : goal.returns-clause-blackened
returns-clause-blackened c cid is =
    let out = c.requires.out in
    let here : out.cid ≡ cid = c.each_row_has_one_cid.ensures out.cid cid c.args.row (ap row_in out.is) is in
    subst (λ edge. Blackens edge Out cid c.args.row c.args.links.now c.args.marks.now c.blacken.new.self) c.self.view_is
    (subst (λ (links : List (List ℕ)). Blackens c.self.inside.edge Out cid c.args.row links c.args.marks.now c.blacken.new.self) c.as_slice.ensures
    (blackens_out c.self.inside.edge c.as_slice.result.now c.args.row c.args.marks.now c.protect_each.new.marks c.blacken.new.self c.protect_each.ensures cid
    (ap (mark_of c.args.marks.now) (sym here) ∙ out.is) c.blacken.ensures))

pub returns-clause-marked : goal.returns-clause-marked
returns-clause-marked c kept roots cid is follows m =
    blackens_marked c.args.self.now kept roots c.args.marks.now c.blacken.new.self Out out_is_shaded cid c.args.row c.args.links.now (returns-clause-blackened c cid is) follows m

pub returns-clause-rows : goal.returns-clause-rows
returns-clause-rows c =
    let out = c.requires.out in
    blackens_rows _ Out out.cid c.args.row _ c.args.marks.now c.blacken.new.self (returns-clause-blackened c out.cid (ap row_in out.is))
