use Rattle.std.proofs.Common.{◌≡◌, List, ℕ, subst}
use Rattle.std.specs.Prelude.{option_map}
use Rattle.ss_chain.specs.Reach.{Reach}
use Rattle.ss_marks.specs.Marks.{MarkTable, mark_of, whitened}
use Rattle.ss_txn.specs.Marked.{none_kept}
use Rattle.ss_txn.specs.Marked.{MayShade, Protects, Begins}
use Rattle.ss_txn.proofs.Shading.{same_then}
use Rattle.ss_txn.proofs.Marking.{begins_marked, begins_rows}
use Rattle.ss_txn.proofs.transaction.Txn.begin.Goals as goal

begins : (edge : ℕ) (roots : List (List ℕ)) (old white new : MarkTable) → ((cid : List ℕ) → mark_of white cid ≡ option_map whitened (mark_of old cid))
    → white ≡ record old { marks = white.marks } → Protects edge roots white new → Begins edge roots old new
begins edge roots old white new whiten same p = record {
  reached = p.reached;
  each = λ cid. subst (λ m. MayShade (Reach edge none_kept roots cid) m (mark_of new cid)) (whiten cid) (p.each cid);
  same = same_then old white new same p.same;
}

pub returns-clause-begun : goal.returns-clause-begun
returns-clause-begun c =
    begins c.args.edge c.args.roots.now c.args.marks.now c.whiten.new.self c.protect_each.new.marks c.whiten.ensures.white c.whiten.ensures.same
    (subst (λ (roots : List (List ℕ)). Protects c.args.edge roots c.whiten.new.self c.protect_each.new.marks) c.as_slice.ensures c.protect_each.ensures)

pub returns-clause-marked : goal.returns-clause-marked
returns-clause-marked c kept rows = begins_marked c.args.edge kept c.args.roots.now c.args.marks.now c.protect_each.new.marks (returns-clause-begun c) rows

pub returns-clause-rows : goal.returns-clause-rows
returns-clause-rows c = begins_rows c.args.edge c.args.roots.now c.args.marks.now c.protect_each.new.marks (returns-clause-begun c)
